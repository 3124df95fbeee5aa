-- A plan has a recorded list on its processors, or an overrun.
use Rattle.std.proofs.Common.{◌≡◌, ℕ, zero, suc, ◌+◌, ◌-◌, ◌<◌, ◌⊎◌, List, [], ◌++◌, length, get_or, Some, refl, sym, ap, ◌∙◌, subst, inl, inr, arith, append_assoc}
use Rattle.std.proofs.lemmas.Bool.{cases_lt}
use Rattle.std.proofs.lemmas.List.{get_or_past}
use Rattle.dbp_plan.specs.declared.diagram.Task.{Task}
use Rattle.dbp_plan.specs.declared.plan.Plan.{Plan}
use Rattle.dbp_plan.specs.Lookups.{declared_task, no_declared_task}
use Rattle.rank_order.specs.Ends.{IsOverrun, NoOverrun}
use Rattle.rank_order.specs.Instances.{Instance}
use Rattle.rank_order.proofs.Choices.{same_instance}
use Rattle.rank_order.proofs.SomeOverrun.{overrun_or_none}
use Rattle.dbp_rules.specs.Start.{start_of}
use Rattle.dbp_rules.specs.Wired.{wiring_of}
use Rattle.dbp_rules.specs.declared.parts.Place.{Place}
use Rattle.dbp_rules.specs.declared.step.Count.TheVariants.{All}
use Rattle.dbp_rules.specs.declared.step.Step.{Step}
use Rattle.instance_steps.specs.Events.{Event}
use Rattle.instance_steps.specs.Plays.{Plays}
use Rattle.instance_steps.specs.Recorders.{state_in}
use Rattle.instance_steps.specs.TaskPieces.{HasRowsToRead}
use Rattle.instance_steps.specs.declared.recorder.Recorder.{Recorder}
use Rattle.virtual_time.specs.Pieces.{end_events_of, release_events_at, service_events_of}
use Rattle.virtual_time.specs.Recordings.{IsRecorded}
use Rattle.virtual_time.specs.State.{IsSimulatedTo, NoBatchBefore, instance, release_count}
use Rattle.virtual_time.proofs.SomeRecord.{HasRecord, ends_to, services_to, some_record}
use Rattle.virtual_time.proofs.Steps.{waits_is}
use Rattle.virtual_time.proofs.TickStages.{Serves}
use Rattle.cpu_sim.specs.Choices.{last_of}
use Rattle.cpu_sim.specs.Processors.{MayBeServed, is_blocked, left_on, served_on}
use Rattle.cpu_sim.specs.Record.{IsCpuRecord, cpu_count, ends_below, events_before, services_below}
use Rattle.cpu_sim.specs.Services.{services}
use Rattle.cpu_sim.proofs.BlockingReads.{Together, rows_there}
use Rattle.cpu_sim.proofs.ChosenTasks.{small_cpu}
use Rattle.cpu_sim.proofs.OneCpu.{some-serves}
use Rattle.cpu_sim.proofs.OneServiceOn.{serves-one-of, serves-waiting-on}
use Rattle.cpu_sim.proofs.RecordTicks.{next_events, one-more}
use Rattle.cpu_sim.proofs.SomeServiceOn.{services-are}
use Rattle.cpu_sim.proofs.Stages.{may_step}

-- the processor of each task
abbrev on : Plan → ℕ → ℕ
on p i = (declared_task p i).cpu

-- the one that is served has the rows that it reads
rows : (p : Plan) (t b : ℕ) (rest : List ℕ) (ends : List (List ℕ)) → IsSimulatedTo p (on p) (services p) b (λ c. t) rest ends → NoBatchBefore p b (t + 1)
    → (events : List Event) (places : ℕ → Place) (r : Recorder) → IsRecorded p All b events places ends r
    → (c : ℕ) (x : Instance) → services p c t ≡ Some x → HasRowsToRead p (wiring_of p All) (state_in r) x.task ((declared_task p x.task).cost - get_or rest x.task 0)
rows p t b rest ends at until events places r g c x is =
    let served : MayBeServed p (services p) c t x = serves-one-of p (services p) (services-are p) c t x is in
    let last : (0 < get_or rest x.task 0) × (x.number ≡ release_count p.batches b x.task) = waits_is p (on p) (services p) b (λ k. t) rest ends at (t + 1) until x (omega arith) served.waits in
    let same : x ≡ last_of p b x.task = same_instance x (instance x.task (release_count p.batches b x.task)) refl last.1 in
    let together : Together p r.core b t rest ends = record { plan = g.plan; released = g.released; at = at; until = until } in
    rows_there p r.core b t rest ends together All x.task served.waits.instance.task last.0 g.ended (ap (is_blocked p (served_on p (services p) t)) (sym same) ∙ served.free)

-- each task's processor is there
few_cpus : (p : Plan) (i : ℕ) → on p i < cpu_count
few_cpus p i = elim (cases_lt i (length p.diagram.tasks)) [
  | inl small ↦ small_cpu p i small
  | inr past ↦ let none : on p i ≡ 0 = ap (λ (t : Task). t.cpu) (get_or_past p.diagram.tasks i no_declared_task past) in omega (arith, none)
]

serves : (p : Plan) → Serves p All (on p) (services p) cpu_count
serves p = record {
  waiting = serves-waiting-on p (services p) (services-are p);
  own = λ c t x is. (serves-one-of p (services p) (services-are p) c t x is).own;
  there = few_cpus p;
  busy = some-serves p (services p) (services-are p);
  may = λ t b now rest ends at until s ended aimed c x is come. may_step p s x.task;
  rows = rows p;
}

-- ---- the events

services_is : (p : Plan) (c t : ℕ) → services_below p (services p) c t ≡ services_to p (services p) c t
services_is p zero t = refl
services_is p (suc c) t =
    let next : suc c ≡ c + 1 = omega arith in
    let one : ℕ → List Event = λ k. service_events_of p (services p k) (services p k t) t in
    ap (λ (n : ℕ). services_below p (services p) n t) next ∙ one-more one c ∙ ap (λ (l : List Event). l ++ one c) (services_is p c t)

ends_is : (p : Plan) (c t : ℕ) → ends_below p (services p) c (suc t) ≡ ends_to p (services p) c t
ends_is p zero t = refl
ends_is p (suc c) t =
    let next : suc c ≡ c + 1 = omega arith in
    let one : ℕ → List Event = λ k. end_events_of p (services p k) (services p k t) (suc t) in
    ap (λ (n : ℕ). ends_below p (services p) n (suc t)) next ∙ one-more one c ∙ ap (λ (l : List Event). l ++ one c) (ends_is p c t)

-- those before the release of a tick
front : Plan → ℕ → List Event
front p t = events_before p (services p) t ++ ends_below p (services p) cpu_count t

module _ (p : Plan) where
  first_front : front p 0 ≡ []
  unfolding front events_before
  first_front = refl

  -- with the release and the services of the tick
  whole_tick : (t : ℕ) → (front p t ++ release_events_at p p.batches t) ++ services_to p (services p) cpu_count t ≡ events_before p (services p) (suc t)
  unfolding front
  whole_tick t =
      let before = events_before p (services p) t in
      let ends = ends_below p (services p) cpu_count t in
      let releases = release_events_at p p.batches t in
      let steps = services_to p (services p) cpu_count t in
      append_assoc (before ++ ends) releases steps ∙ append_assoc before ends (releases ++ steps)
      ∙ ap (λ (l : List Event). before ++ (ends ++ (releases ++ l))) (sym (services_is p cpu_count t))
      ∙ sym (next_events p (services p) t)

  next_front : (t : ℕ) → front p (suc t) ≡ ((front p t ++ release_events_at p p.batches t) ++ services_to p (services p) cpu_count t) ++ ends_to p (services p) cpu_count t
  unfolding front
  next_front t =
      ap (λ (l : List Event). l ++ ends_below p (services p) cpu_count (suc t)) (sym (whole_tick t))
      ∙ ap (λ (l : List Event). ((front p t ++ release_events_at p p.batches t) ++ services_to p (services p) cpu_count t) ++ l) (ends_is p cpu_count t)

  -- ---- the list

  recorded : NoOverrun p (left_on p (services p)) → (script : List Step) × IsCpuRecord p script
  recorded in_time =
      let made : HasRecord p All (on p) (services p) cpu_count (front p) = some_record p All (on p) (services p) cpu_count (serves p) in_time (front p) first_front next_front in
      let next : suc made.last ≡ made.last + 1 = omega arith in
      let all : (front p made.last ++ release_events_at p p.batches made.last) ++ services_to p (services p) cpu_count made.last ≡ events_before p (services p) (made.last + 1) =
      whole_tick made.last ∙ ap (events_before p (services p)) next in (
        made.steps,
        record {
          in_time = in_time;
          last = made.last;
          released = made.released;
          ended = made.ended;
          state = made.state;
          plays = subst (λ (l : List Event). Plays p (wiring_of p All) (start_of p (wiring_of p All)) l made.steps made.state) all made.plays;
        },
      )

  pub some_cpu_outcome : ((script : List Step) × IsCpuRecord p script) ⊎ ((t : ℕ) × (x : Instance) × IsOverrun p (left_on p (services p)) t x)
  some_cpu_outcome = elim (overrun_or_none p (left_on p (services p))) [
    | inl in_time ↦ inl (recorded in_time)
    | inr late ↦ inr late
  ]
