-- The start of a simulation, and what it has at its end.
use Rattle.std.specs.Prelude.{IfSome}
use Rattle.std.proofs.Common.{◌≡◌, ℕ, suc, ◌+◌, ◌<◌, List, [], length, get_or, replicate, Option, Some, None, refl, sym, ap, ◌∙◌, subst, arith, rules}
use Rattle.std.specs.List.{range_with_len}
use Rattle.std.proofs.lemmas.List.{get_or-replicate, take_all}
use Rattle.dbp_plan.specs.declared.plan.Plan.{Plan}
use Rattle.dbp_plan.specs.declared.schedule.Batch.{Batch}
use Rattle.dbp_plan.specs.Lookups.{declared_task}
use Rattle.dbp_plan.specs.Occurrences.{times_of}
use Rattle.rank_order.specs.Ends.{NoOverrun}
use Rattle.rank_order.specs.Instances.{Instance, IsInstance}
use Rattle.rank_order.specs.Service.{GoesBefore, IsFirst, ServesWaiting, left_of}
use Rattle.sync_meaning.specs.SomeMeaning.{meaning_of}
use Rattle.release_list.specs.Releases.{batch_start}
use Rattle.dbp_rules.specs.Lookups.{task, task_entry, wired_task}
use Rattle.dbp_rules.specs.Start.{start_of, start_task}
use Rattle.dbp_rules.specs.Wired.{wiring_of}
use Rattle.dbp_rules.specs.declared.state.State.{State}
use Rattle.dbp_rules.specs.declared.state.TaskState.{TaskState}
use Rattle.dbp_rules.specs.declared.step.Count.TheVariants.{All}
use Rattle.dbp_rules.specs.declared.step.Step.{Step}
use Rattle.dbp_rules.specs.declared.wiring.Wiring.{Wiring}
use Rattle.instance_steps.specs.EndedRows.{HasEndedRows}
use Rattle.instance_steps.specs.Events.{Event}
use Rattle.instance_steps.specs.Plays.{Plays}
use Rattle.instance_steps.specs.Recorders.{count_in, first_record, plan_in, record_in, state_in, table_in}
use Rattle.instance_steps.specs.declared.recorder.Keeping.{Keeping}
use Rattle.instance_steps.specs.declared.recorder.Keeping.TheVariants.{Steps, Nothing}
use Rattle.instance_steps.proofs.RowsKept.{ended_rows_all}
use Rattle.cpu_sim.specs.Choices.{all_cpus_at}
use Rattle.cpu_sim.specs.Outcomes.{AreCpuEnds}
use Rattle.cpu_sim.specs.Processors.{MayBeServed, left_on}
use Rattle.cpu_sim.specs.Services.{services}
use Rattle.cpu_sim.specs.Record.{IsCpuRecord, cpu_count, events_before, events_so_far}
use Rattle.virtual_time.specs.Recordings.{place_of}
use Rattle.virtual_time.specs.Runs.{IsRun}
use Rattle.cpu_sim.specs.Simulations.{IsSimulation}
use Rattle.virtual_time.specs.State.{IsSimulatedTo, release_count}
use Rattle.cpu_sim.specs.declared.simulation.Simulation.{Simulation}
use Rattle.cpu_sim.proofs.RecordTicks.{all_made, no_events_yet, no_services}
use Rattle.cpu_sim.proofs.SomeServiceOn.{services-are}
use Rattle.virtual_time.proofs.FirstStates.{first_ended, first_entry, first_gate, first_place}
use Rattle.virtual_time.proofs.Releases.{none_late}
use Rattle.virtual_time.proofs.Steps.{busy_count_none, ended_left, is_end}

-- ---- the start

none_kept : (keeping : Keeping) → IfSome (first_record keeping) (λ l. l ≡ [])
none_kept Steps = refl
none_kept Nothing = search rules

pub starts : (p : Plan) (s : Simulation) (keeping : Keeping) → IsRun p (all_cpus_at p s.run.time) s.run → s.run.time ≡ 0 → s.run.released ≡ 0 → s.run.rest.items ≡ replicate (length p.diagram.tasks) 0 → s.run.ends ≡ replicate (length p.diagram.tasks) []
    → plan_in s.recorder ≡ p → count_in s.recorder ≡ All → state_in s.recorder ≡ start_of p (wiring_of p All) → record_in s.recorder ≡ first_record keeping → HasEndedRows p (state_in s.recorder) (table_in s.recorder) → IsSimulation p s
starts p s keeping run time released rest ends plan count state kept rows =
    let w : Wiring = wiring_of p All in
    let make : ℕ → TaskState = λ i. start_task (wired_task (wiring_of p All) i) (declared_task p i) in
    let range : List ℕ = range_with_len 0 (length (wiring_of p All).tasks) in
    let none : (i : ℕ) → i < length p.diagram.tasks → get_or s.run.rest.items i 0 ≡ 0 = λ i il. ap (λ (l : List ℕ). get_or l i 0) rest ∙ get_or-replicate (length p.diagram.tasks) i 0 0 il in
    let nil : (i : ℕ) → i < length p.diagram.tasks → length (get_or s.run.ends i []) ≡ 0 = λ i il. ap (length {A = ℕ}) (ap (λ (l : List (List ℕ)). get_or l i []) ends ∙ get_or-replicate (length p.diagram.tasks) i [] [] il) in
    let events : events_so_far p (services p) cpu_count s.run.released 0 s.run.time ≡ [] = ap (λ (b : ℕ). events_so_far p (services p) cpu_count b 0 s.run.time) released ∙ ap (events_so_far p (services p) cpu_count 0 0) time ∙ no_events_yet p (services p) cpu_count in
    let zero' : (i : ℕ) → release_count p.batches s.run.released i ≡ 0 = λ i. ap (λ (b : ℕ). release_count p.batches b i) released in
    record {
      run = run;
      recorded = record {
        plan = plan;
        wiring = s.recorder.core.wired ∙ ap (λ (q : Plan). wiring_of q (count_in s.recorder)) plan ∙ ap (wiring_of p) count;
        steps = [];
        plays = subst (λ (l : List Event). Plays p (wiring_of p All) (start_of p (wiring_of p All)) l [] (state_in s.recorder)) (sym events) state;
        kept = subst (λ (o : Option (List Step)). IfSome o (λ l. l ≡ [])) (sym kept) (none_kept keeping);
        rows = rows;
        released = ap (λ (t : State). t.releaser.place) state ∙ sym (ap (batch_start p.diagram.links p.batches) released);
        aimed = λ i il. ap (λ (t : State). (task_entry t i).aimed) state ∙ first_entry (wiring_of p All).tasks i ∙ sym (zero' i);
        gates = λ i il. ap (λ (t : State). (task t i).words.gate) state ∙ first_gate make (λ k. refl) (λ k. refl) (λ k. refl) range i ∙ sym (zero' i);
        ended = λ i il. ap (λ (t : State). (task t i).part.ended) state ∙ first_ended make (λ k. refl) (λ k. refl) (λ k. refl) range i ∙ sym (nil i il);
        place = λ i il. ap (λ (t : State). (task t i).part.place) state ∙ first_place make (λ k. refl) (λ k. refl) (λ k. refl) range i ∙ sym (ap (place_of p i) (none i il));
      };
      few = let long = ap length events in omega (arith, long);
    }

-- ---- who is served on a processor waits, by what is left there

pub on-waiting : (p : Plan) (c : ℕ) → ServesWaiting p (services p c)
on-waiting p c t x is =
    let first : IsFirst (GoesBefore p) (MayBeServed p (services p) c t) (Some x) = subst (IsFirst (GoesBefore p) (MayBeServed p (services p) c t)) is ((services-are p).each c t) in
    record {
      instance = first.0.waits.instance;
      released = first.0.waits.released;
      unfinished = subst (λ (k : ℕ). 0 < left_of p (services p k) x t) first.0.own first.0.waits.unfinished;
    }

-- ---- the end

module _ (p : Plan) (s : Simulation) (h : IsSimulation p s) (last : s.run.released ≡ length p.batches) (idle : (i : ℕ) → i < length p.diagram.tasks → get_or s.run.rest.items i 0 ≡ 0) where
  all_counted : (i : ℕ) → i < length p.diagram.tasks → length (get_or s.run.ends i []) ≡ length (times_of p.batches i)
  all_counted i il =
      let c = h.run.at.counts i il in
      let z = busy_count_none (get_or s.run.rest.items i 0) (idle i il) in
      let all = ap (λ (bs : List Batch). length (times_of bs i)) (take_all s.run.released p.batches (omega (arith, last))) in
      omega (arith, c, z, all)

  pub are_ends : AreCpuEnds p s.run.ends
  are_ends = record {
    tasks = h.run.at.lists;
    numbers = all_counted;
    each = λ i k il kl. is_end p (services p (declared_task p i).cpu) (on-waiting p (declared_task p i).cpu) (record { task = i; number = k + 1 }) (get_or (get_or s.run.ends i []) k 0) (h.run.at.ended i k il kl);
  }

  nothing_left : (x : Instance) → IsInstance p x → left_on p (services p) x s.run.time ≡ 0
  nothing_left x here =
      let n = all_counted x.task here.task in
      ended_left p (λ j. (declared_task p j).cpu) (services p) s.run.released (λ c. s.run.time) s.run.rest.items s.run.ends h.run.at x.task x.number here.task here.from_one (let w = here.within in omega (arith, n, w))

  nobody : (c : ℕ) (o : Option Instance) → services p c s.run.time ≡ o → services p c s.run.time ≡ None
  nobody c None is = is
  nobody c (Some x) is =
      let w = on-waiting p c s.run.time x is in
      let first : IsFirst (GoesBefore p) (MayBeServed p (services p) c s.run.time) (Some x) = subst (IsFirst (GoesBefore p) (MayBeServed p (services p) c s.run.time)) is ((services-are p).each c s.run.time) in
      let n = nothing_left x w.instance in
      absurd (omega (arith, n, first.0.waits.unfinished))

  pub in_time : NoOverrun p (left_on p (services p))
  in_time = none_late p (λ j. (declared_task p j).cpu) (services p) (λ c. s.run.time) s.run.rest.items s.run.ends
      (subst (λ (b : ℕ). IsSimulatedTo p (λ j. (declared_task p j).cpu) (services p) b (λ c. s.run.time) s.run.rest.items s.run.ends) last h.run.at)

  is_record : IsCpuRecord p h.recorded.steps
  is_record = record {
    in_time = in_time;
    last = s.run.time;
    released = λ k d kl. h.run.at.early 0 k d (omega (arith, kl, last)) kl;
    ended = nothing_left;
    state = state_in s.recorder;
    plays =
        let events : events_so_far p (services p) cpu_count s.run.released 0 s.run.time ≡ events_before p (services p) (s.run.time + 1) =
        sym (no_services p (services p) cpu_count s.run.released cpu_count s.run.time (λ c. nobody c (services p c s.run.time) refl))
        ∙ all_made p (services p) s.run.released s.run.time (λ k d le kl same. omega (arith, le, kl, last))
        ∙ ap (events_before p (services p)) (let e : suc s.run.time ≡ s.run.time + 1 = omega arith in e) in
        subst (λ (l : List Event). Plays p (wiring_of p All) (start_of p (wiring_of p All)) l h.recorded.steps (state_in s.recorder)) events h.recorded.plays;
  }

  -- the list that is kept
  pub kept_record : (script : List Step) → record_in s.recorder ≡ Some script → IsCpuRecord p script
  kept_record script is =
      let same : script ≡ h.recorded.steps = subst (λ (o : Option (List Step)). IfSome o (λ l. l ≡ h.recorded.steps)) is h.recorded.kept in
      subst (IsCpuRecord p) (sym same) is_record

  pub is_meaning : table_in s.recorder ≡ meaning_of p
  is_meaning = ended_rows_all p (state_in s.recorder) (table_in s.recorder) h.recorded.rows (λ i il. h.recorded.ended i il ∙ all_counted i il)
