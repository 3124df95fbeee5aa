-- The start of a simulation, and what it has at its end.
use Rattle.std.specs.Prelude.{IfSome}
use Rattle.std.proofs.Common.{◌≡◌, ℕ, suc, ◌+◌, ◌<◌, List, [], ◌++◌, length, get_or, replicate, Option, Some, None, refl, sym, ap, ◌∙◌, subst, arith, rules}
use Rattle.std.specs.List.{range_with_len}
use Rattle.std.proofs.lemmas.List.{append-nil, get_or-replicate, take_all}
use Rattle.dbp_plan.specs.declared.plan.Plan.{Plan}
use Rattle.dbp_plan.specs.declared.schedule.Batch.{Batch}
use Rattle.dbp_plan.specs.Lookups.{declared_task}
use Rattle.dbp_plan.specs.Occurrences.{times_of}
use Rattle.rank_order.specs.Ends.{NoOverrun}
use Rattle.rank_order.specs.Instances.{Instance, IsInstance}
use Rattle.rank_order.specs.Service.{left_of}
use Rattle.rank_order.specs.ServiceOf.{service}
use Rattle.rank_order.proofs.OneService.{serves_waiting}
use Rattle.rank_order.proofs.SomeService.{service_is}
use Rattle.sync_meaning.specs.SomeMeaning.{meaning_of}
use Rattle.release_list.specs.Releases.{batch_start}
use Rattle.dbp_rules.specs.Lookups.{task, task_entry, wired_task}
use Rattle.dbp_rules.specs.Start.{start_of, start_task}
use Rattle.dbp_rules.specs.Wired.{wiring_of}
use Rattle.dbp_rules.specs.declared.state.State.{State}
use Rattle.dbp_rules.specs.declared.state.TaskState.{TaskState}
use Rattle.dbp_rules.specs.declared.step.Count.TheVariants.{Ranked}
use Rattle.dbp_rules.specs.declared.step.Step.{Step}
use Rattle.dbp_rules.specs.declared.wiring.Wiring.{Wiring}
use Rattle.instance_steps.specs.EndedRows.{HasEndedRows}
use Rattle.instance_steps.specs.Events.{Event}
use Rattle.instance_steps.specs.Plays.{Plays}
use Rattle.instance_steps.specs.Recorders.{count_in, first_record, plan_in, record_in, state_in, table_in}
use Rattle.instance_steps.specs.declared.recorder.Keeping.{Keeping}
use Rattle.instance_steps.specs.declared.recorder.Keeping.TheVariants.{Steps, Nothing}
use Rattle.instance_steps.proofs.RowsKept.{ended_rows_all}
use Rattle.virtual_sim.specs.Outcomes.{AreEnds}
use Rattle.virtual_time.specs.Pieces.{service_events_of}
use Rattle.virtual_sim.specs.Record.{IsRecord, events_before, events_so_far}
use Rattle.virtual_time.specs.Recordings.{place_of}
use Rattle.virtual_time.specs.Runs.{IsRun}
use Rattle.virtual_sim.specs.Simulations.{IsSimulation, one_processor}
use Rattle.virtual_time.specs.State.{IsSimulatedTo, release_count}
use Rattle.virtual_sim.specs.declared.simulation.Simulation.{Simulation}
use Rattle.virtual_sim.proofs.SoFar.{with_service}
use Rattle.virtual_time.proofs.FirstStates.{first_ended, first_entry, first_gate, first_place}
use Rattle.virtual_time.proofs.Releases.{none_late}
use Rattle.virtual_time.proofs.Steps.{busy_count_none, ended_left, is_end}

-- ---- the start

no_events : (p : Plan) → events_so_far p (service p) 0 0 ≡ []
unfolding events_before
no_events p = refl

none_kept : (keeping : Keeping) → IfSome (first_record keeping) (λ l. l ≡ [])
none_kept Steps = refl
none_kept Nothing = search rules

pub starts : (p : Plan) (s : Simulation) (keeping : Keeping) → IsRun p (one_processor p s.run.time) s.run → s.run.time ≡ 0 → s.run.released ≡ 0 → s.run.rest.items ≡ replicate (length p.diagram.tasks) 0 → s.run.ends ≡ replicate (length p.diagram.tasks) []
    → plan_in s.recorder ≡ p → count_in s.recorder ≡ Ranked → state_in s.recorder ≡ start_of p (wiring_of p Ranked) → record_in s.recorder ≡ first_record keeping → HasEndedRows p (state_in s.recorder) (table_in s.recorder) → IsSimulation p s
starts p s keeping run time released rest ends plan count state kept rows =
    let w : Wiring = wiring_of p Ranked in
    let make : ℕ → TaskState = λ i. start_task (wired_task (wiring_of p Ranked) i) (declared_task p i) in
    let range : List ℕ = range_with_len 0 (length (wiring_of p Ranked).tasks) in
    let none : (i : ℕ) → i < length p.diagram.tasks → get_or s.run.rest.items i 0 ≡ 0 = λ i il. ap (λ (l : List ℕ). get_or l i 0) rest ∙ get_or-replicate (length p.diagram.tasks) i 0 0 il in
    let nil : (i : ℕ) → i < length p.diagram.tasks → length (get_or s.run.ends i []) ≡ 0 = λ i il. ap (length {A = ℕ}) (ap (λ (l : List (List ℕ)). get_or l i []) ends ∙ get_or-replicate (length p.diagram.tasks) i [] [] il) in
    let events : events_so_far p (service p) s.run.released s.run.time ≡ [] = ap (λ (b : ℕ). events_so_far p (service p) b s.run.time) released ∙ ap (events_so_far p (service p) 0) time ∙ no_events p in
    let zero' : (i : ℕ) → release_count p.batches s.run.released i ≡ 0 = λ i. ap (λ (b : ℕ). release_count p.batches b i) released in
    record {
      run = run;
      recorded = record {
        plan = plan;
        wiring = s.recorder.core.wired ∙ ap (λ (q : Plan). wiring_of q (count_in s.recorder)) plan ∙ ap (wiring_of p) count;
        steps = [];
        plays = subst (λ (l : List Event). Plays p (wiring_of p Ranked) (start_of p (wiring_of p Ranked)) l [] (state_in s.recorder)) (sym events) state;
        kept = subst (λ (o : Option (List Step)). IfSome o (λ l. l ≡ [])) (sym kept) (none_kept keeping);
        rows = rows;
        released = ap (λ (t : State). t.releaser.place) state ∙ sym (ap (batch_start p.diagram.links p.batches) released);
        aimed = λ i il. ap (λ (t : State). (task_entry t i).aimed) state ∙ first_entry (wiring_of p Ranked).tasks i ∙ sym (zero' i);
        gates = λ i il. ap (λ (t : State). (task t i).words.gate) state ∙ first_gate make (λ k. refl) (λ k. refl) (λ k. refl) range i ∙ sym (zero' i);
        ended = λ i il. ap (λ (t : State). (task t i).part.ended) state ∙ first_ended make (λ k. refl) (λ k. refl) (λ k. refl) range i ∙ sym (nil i il);
        place = λ i il. ap (λ (t : State). (task t i).part.place) state ∙ first_place make (λ k. refl) (λ k. refl) (λ k. refl) range i ∙ sym (ap (place_of p i) (none i il));
      };
      few = let long = ap length events in omega (arith, long);
    }

-- ---- the end

module _ (p : Plan) (s : Simulation) (h : IsSimulation p s) (last : s.run.released ≡ length p.batches) (idle : (i : ℕ) → i < length p.diagram.tasks → get_or s.run.rest.items i 0 ≡ 0) where
  all_counted : (i : ℕ) → i < length p.diagram.tasks → length (get_or s.run.ends i []) ≡ length (times_of p.batches i)
  all_counted i il =
      let c = h.run.at.counts i il in
      let z = busy_count_none (get_or s.run.rest.items i 0) (idle i il) in
      let all = ap (λ (bs : List Batch). length (times_of bs i)) (take_all s.run.released p.batches (omega (arith, last))) in
      omega (arith, c, z, all)

  pub are_ends : AreEnds p s.run.ends
  are_ends = record {
    tasks = h.run.at.lists;
    numbers = all_counted;
    each = λ i k il kl. is_end p (service p) (serves_waiting p (service p) (service_is p)) (record { task = i; number = k + 1 }) (get_or (get_or s.run.ends i []) k 0) (h.run.at.ended i k il kl);
  }

  nothing_left : (x : Instance) → IsInstance p x → left_of p (service p) x s.run.time ≡ 0
  nothing_left x here =
      let n = all_counted x.task here.task in
      ended_left p (λ k. 0) (λ c. service p) s.run.released (λ c. s.run.time) s.run.rest.items s.run.ends h.run.at x.task x.number here.task here.from_one (let w = here.within in omega (arith, n, w))

  nobody : (o : Option Instance) → service p s.run.time ≡ o → o ≡ None
  nobody None is = refl
  nobody (Some x) is =
      let w = serves_waiting p (service p) (service_is p) s.run.time x is in
      let n = nothing_left x w.instance in
      absurd (omega (arith, n, w.unfinished))

  pub in_time : NoOverrun p (left_of p (service p))
  in_time = none_late p (λ k. 0) (λ c. service p) (λ c. s.run.time) s.run.rest.items s.run.ends (subst (λ (b : ℕ). IsSimulatedTo p (λ k. 0) (λ c. service p) b (λ c. s.run.time) s.run.rest.items s.run.ends) last h.run.at)

  is_record : IsRecord p h.recorded.steps
  is_record = record {
    in_time = in_time;
    last = s.run.time;
    released = λ k d kl. h.run.at.early 0 k d (omega (arith, kl, last)) kl;
    ended = nothing_left;
    state = state_in s.recorder;
    plays =
        let steps : service_events_of p (service p) (service p s.run.time) s.run.time ≡ [] = ap (λ (o : Option Instance). service_events_of p (service p) o s.run.time) (nobody (service p s.run.time) refl) in
        let events : events_so_far p (service p) s.run.released s.run.time ≡ events_before p (service p) (s.run.time + 1) =
        sym (append-nil (events_so_far p (service p) s.run.released s.run.time))
        ∙ ap (λ (l : List Event). events_so_far p (service p) s.run.released s.run.time ++ l) (sym steps)
        ∙ with_service p (service p) s.run.released s.run.time (λ k d le kl same. omega (arith, le, kl, last))
        ∙ ap (events_before p (service p)) (let e : suc s.run.time ≡ s.run.time + 1 = omega arith in e) in
        subst (λ (l : List Event). Plays p (wiring_of p Ranked) (start_of p (wiring_of p Ranked)) l h.recorded.steps (state_in s.recorder)) events h.recorded.plays;
  }

  -- the list that is kept
  pub kept_record : (script : List Step) → record_in s.recorder ≡ Some script → IsRecord p script
  kept_record script is =
      let same : script ≡ h.recorded.steps = subst (λ (o : Option (List Step)). IfSome o (λ l. l ≡ h.recorded.steps)) is h.recorded.kept in
      subst (IsRecord p) (sym same) is_record

  pub is_meaning : table_in s.recorder ≡ meaning_of p
  is_meaning = ended_rows_all p (state_in s.recorder) (table_in s.recorder) h.recorded.rows (λ i il. h.recorded.ended i il ∙ all_counted i il)
