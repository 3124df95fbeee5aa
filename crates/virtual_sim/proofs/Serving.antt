-- A simulation goes on: the first instance begins and reads, runs to its next event or to its end, or none runs.
use Rattle.std.proofs.Common.{◌≡◌, ◌≢◌, ℕ, suc, ◌+◌, ◌-◌, ◌<◌, ◌≤◌, true, false, List, [], ◌∷◌, ◌++◌, length, take, set, get_or, Some, refl, sym, ap, ◌∙◌, subst, ⊎_elim, arith, append_assoc, length-append, get_or-set_same, get_or-set_other}
use Rattle.std.proofs.lemmas.Bool.{cases_eq, cases_Bool, eq-eqb, ne_eqb}
use Rattle.std.proofs.lemmas.List.{append-nil, get_or_default, take_more}
use Rattle.std.proofs.lemmas.List.Sums.{sum_by-append, sum_by-cons, sum_by-take-le}
use Rattle.dbp_plan.specs.declared.diagram.Task.{Task}
use Rattle.dbp_plan.specs.declared.plan.Plan.{Plan}
use Rattle.dbp_plan.specs.declared.schedule.Batch.{Batch}
use Rattle.dbp_plan.specs.Lookups.{declared_task, no_declared_task, no_read}
use Rattle.dbp_plan.specs.Occurrences.{names, occurrence_count}
use Rattle.rank_order.specs.Instances.{Instance}
use Rattle.rank_order.specs.Queue.{IsServedFirst}
use Rattle.rank_order.specs.Service.{GoesBefore, IsFirst, Waits, left_of, served_ticks}
use Rattle.rank_order.specs.ServiceOf.{service}
use Rattle.rank_order.proofs.Jump.{IsQuiet}
use Rattle.rank_order.proofs.OneService.{serves_waiting}
use Rattle.rank_order.proofs.ServedTicks.{served_within}
use Rattle.rank_order.proofs.SomeService.{service_is}
use Rattle.dbp_rules.specs.Moves.{read_place}
use Rattle.dbp_rules.specs.Lookups.{task, task_entry}
use Rattle.dbp_rules.specs.Wired.{wiring_of}
use Rattle.dbp_rules.specs.Rules.{next}
use Rattle.dbp_rules.specs.declared.parts.Place.TheVariants.{Idle, Shut}
use Rattle.dbp_rules.specs.declared.state.State.{State}
use Rattle.dbp_rules.specs.declared.step.Count.TheVariants.{Ranked}
use Rattle.instance_steps.specs.EndedRows.{HasEndedRows}
use Rattle.instance_steps.specs.Events.{Event, batch_events, begin_events, end_events, read_events}
use Rattle.instance_steps.specs.Recorders.{AddsSteps, plan_in, state_in, table_in}
use Rattle.instance_steps.specs.Releases.{HasEnded, ReleasesBatch, batch_at, no_batch}
use Rattle.instance_steps.specs.TaskPieces.{AddsPiece, MayStep, place_after}
use Rattle.instance_steps.specs.declared.recorder.Recorder.{Recorder}
use Rattle.virtual_time.specs.Budgets.{early_reads, step_bound}
use Rattle.virtual_time.specs.Events.{IsNextEvent}
use Rattle.virtual_time.specs.Pieces.{begin_events_at, service_events_of}
use Rattle.virtual_sim.specs.Record.{events_so_far}
use Rattle.virtual_time.specs.Recordings.{IsRecorded, place_of, places_with}
use Rattle.virtual_time.specs.Runs.{IsRun}
use Rattle.virtual_sim.specs.Simulations.{IsSimulation, one_processor}
use Rattle.virtual_time.specs.State.{NoBatchBefore, Renewed, instance, release_count}
use Rattle.virtual_sim.specs.declared.simulation.Simulation.{Simulation}
use Rattle.virtual_time.proofs.Budgets.{all_reads_early, bound_all, ended_steps, length-batch, one_changed, paused_steps, same_early, same_steps, steps_few}
use Rattle.virtual_sim.proofs.MaySteps.{may_step}
use Rattle.dbp_plan.proofs.PlanRules as rules
use Rattle.virtual_time.proofs.PieceEvents.{NoReadAt}
use Rattle.virtual_sim.proofs.SoFar.{one_batch_more}
use Rattle.virtual_sim.proofs.RecordJumps.{jump_idle, jump_to_end, jump_to_event}
use Rattle.virtual_time.proofs.Recordings.{adds_batch, adds_piece, all_read, goes_on, has_ended, place_all, place_some, same_places, with_here, with_other}
use Rattle.virtual_time.proofs.Running.{few_ends}
use Rattle.virtual_time.proofs.Whole.{named_there}
use Rattle.virtual_sim.proofs.FirstServed.{first_small, first_some, is_choice}
use Rattle.virtual_time.proofs.Steps.{busy_count_none, busy_count_one, quiet, waits_is}

-- ---- lengths

occurrences_before : (bs : List Batch) (b : ℕ) → occurrence_count (take b bs) ≤ occurrence_count bs
occurrences_before bs b = sum_by-take-le (λ (a : Batch). length a.tasks) bs b

-- the steps so far are far fewer than a list can hold
pub events_few : (p : Plan) (s : Simulation) → IsSimulation p s → length (events_so_far p (service p) s.run.released s.run.time) ≤ 570000000
events_few p s h =
    let few = p.rules.few in
    let tasks = rules.few_tasks p in
    let before = occurrences_before p.batches s.run.released in
    let bound = steps_few p s.run.rest.items s.run.ends (length p.diagram.tasks) (omega arith) (λ j lt. few_ends p (one_processor p s.run.time) s.run h.run j lt) in
    omega (arith, h.few, few, tasks, before, bound)

-- ---- what the code reads

pub body_is : (p : Plan) (items : List Task) (i : ℕ) (t : Task) → items ≡ p.diagram.tasks → i < length p.diagram.tasks → t ≡ get_or items i t → t ≡ declared_task p i
body_is p items i t same there is = is ∙ ap (λ (l : List Task). get_or l i t) same ∙ get_or_default p.diagram.tasks i t no_declared_task there

-- what is left of the first instance, and for how many ticks it was served
pub record IsOfFirst (p : Plan) (s : Simulation) (i cost rest : ℕ) : Type 0 where
  pub there : i < length p.diagram.tasks
  pub cost_is : cost ≡ (declared_task p i).cost
  pub rest_is : rest ≡ get_or s.run.rest.items i 0
  pub some : 0 < rest
  pub within : rest ≤ cost
  pub served : cost - rest + get_or s.run.rest.items i 0 ≡ (declared_task p i).cost

pub of_first : (p : Plan) (s : Simulation) → IsSimulation p s → (i : ℕ) → IsServedFirst s.run.ready i → (cost rest : ℕ) → cost ≡ (declared_task p i).cost → rest ≡ get_or s.run.rest.items i 0 → IsOfFirst p s i cost rest
of_first p s h i first cost rest same read =
    let small = first_small p s.run h.run i first in
    let more = first_some p s.run h.run i first in
    let under = h.run.at.under i small more in
    record {
      there = small;
      cost_is = same;
      rest_is = read;
      some = omega (arith, more, read);
      within = omega (arith, under, read, same);
      served = omega (arith, under, read, same);
    }

-- the next event of the task, by the declared one and fewer ticks
pub no_sooner_in : (p : Plan) (i : ℕ) (t : Task) (served event ticks : ℕ) → t ≡ declared_task p i → IsNextEvent t served event → ticks ≤ event
    → (r : ℕ) → r < length (declared_task p i).reads → served < (get_or (declared_task p i).reads r no_read).at → served + ticks ≤ (get_or (declared_task p i).reads r no_read).at
no_sooner_in p i t served event ticks same next le =
    let own : (r : ℕ) → r < length (declared_task p i).reads → served < (get_or (declared_task p i).reads r no_read).at → served + event ≤ (get_or (declared_task p i).reads r no_read).at =
    subst (λ (u : Task). (r : ℕ) → r < length u.reads → served < (get_or u.reads r no_read).at → served + event ≤ (get_or u.reads r no_read).at) same next.no_sooner in
    λ r rl after. let o = own r rl after in omega (arith, o, le)

-- ---- the first instance

module _ (p : Plan) (s : Simulation) (h : IsSimulation p s) (i served : ℕ) (first : IsServedFirst s.run.ready i)
    (is_served : served + get_or s.run.rest.items i 0 ≡ (declared_task p i).cost) where
  abbrev now : ℕ
  now = s.run.time

  abbrev b : ℕ
  b = s.run.released

  abbrev rest : ℕ
  rest = get_or s.run.rest.items i 0

  abbrev x : Instance
  x = instance i (release_count p.batches s.run.released i)

  il : i < length p.diagram.tasks
  il = first_small p s.run h.run i first

  some : 0 < get_or s.run.rest.items i 0
  some = first_some p s.run h.run i first

  -- it was served for so many ticks
  pub ticks_so_far : served_ticks (service p) (instance i (release_count p.batches s.run.released i)) s.run.time ≡ served
  ticks_so_far =
      let under = h.run.at.under i il some in
      let within = served_within p (service p) (serves_waiting p (service p) (service_is p)) (instance i (release_count p.batches s.run.released i)) s.run.time in
      omega (arith, under, within, is_served, some)

  pub may : (until : NoBatchBefore p s.run.released (s.run.time + 1)) (t : State) → ((j : ℕ) → j < length p.diagram.tasks → (task t j).part.ended ≡ length (get_or s.run.ends j []))
      → ((j : ℕ) → j < length p.diagram.tasks → (task_entry t j).aimed ≡ release_count p.batches s.run.released j) → MayStep (wiring_of p Ranked) t i
  may until t ended aimed = may_step p s.run h.run t ended aimed i (s.run.time + 1) first until (omega arith)

  -- if it stands before its begin
  pub stands : (task (state_in s.recorder) i).part.place ≡ place_of p i (get_or s.run.rest.items i 0)
  stands = h.recorded.place i il

  pub is_idle : served ≡ 0 → (task (state_in s.recorder) i).part.place ≡ Idle
  is_idle none = stands ∙ ap (place_of p i) (let e : get_or s.run.rest.items i 0 ≡ (declared_task p i).cost = omega (arith, is_served, none) in e) ∙ place_all p i

  pub gate_open : (task (state_in s.recorder) i).words.gate ≡ (task (state_in s.recorder) i).part.ended + 1
  gate_open =
      let gate = h.recorded.gates i il in
      let ended = h.recorded.ended i il in
      let count = h.run.at.counts i il in
      let one = busy_count_one (get_or s.run.rest.items i 0) some in
      omega (arith, gate, ended, count, one)

  -- it begins
  pub begins_first : (r' : Recorder) → served ≡ 0 → AddsPiece s.recorder r' (begin_events (plan_in s.recorder) i) i (task (state_in s.recorder) i).part.ended (place_after (plan_in s.recorder) i 0) → table_in r' ≡ table_in s.recorder
      → IsRecorded p Ranked s.run.released (events_so_far p (service p) s.run.released s.run.time ++ begin_events_at p i served) (places_with p s.run.rest.items i (place_after p i served)) s.run.ends r'
  begins_first r' none adds table =
      let own : AddsPiece s.recorder r' (begin_events p i) i (task (state_in s.recorder) i).part.ended (place_after p i 0) =
      subst (λ (q : Plan). AddsPiece s.recorder r' (begin_events q i) i (task (state_in s.recorder) i).part.ended (place_after q i 0)) h.recorded.plan adds in
      let events : begin_events_at p i served ≡ begin_events p i = rw (eq-eqb served 0 none) refl in
      subst (λ (l : List Event). IsRecorded p Ranked s.run.released (events_so_far p (service p) s.run.released s.run.time ++ l) (places_with p s.run.rest.items i (place_after p i served)) s.run.ends r') (sym events)
      (goes_on p Ranked s.recorder r' s.run.released (events_so_far p (service p) s.run.released s.run.time) (λ j. place_of p j (get_or s.run.rest.items j 0)) s.run.ends h.recorded
      (begin_events p i) i (place_after p i 0) (places_with p s.run.rest.items i (place_after p i served)) il own
      (with_here p s.run.rest.items i (place_after p i served) ∙ ap (place_after p i) none) (λ j ne. with_other p s.run.rest.items i j (place_after p i served) ne) table)

  -- it began before
  pub began : (0 < served) → IsRecorded p Ranked s.run.released (events_so_far p (service p) s.run.released s.run.time ++ begin_events_at p i served) (places_with p s.run.rest.items i (place_after p i served)) s.run.ends s.recorder
  began before =
      let events : begin_events_at p i served ≡ [] = rw (ne_eqb served 0 (λ e. omega (arith, e, before))) refl in
      same_places p Ranked s.run.released (events_so_far p (service p) s.run.released s.run.time) (events_so_far p (service p) s.run.released s.run.time ++ begin_events_at p i served)
      (λ j. place_of p j (get_or s.run.rest.items j 0)) (places_with p s.run.rest.items i (place_after p i served)) s.run.ends s.recorder h.recorded
      (ap (λ (l : List Event). events_so_far p (service p) s.run.released s.run.time ++ l) events ∙ append-nil (events_so_far p (service p) s.run.released s.run.time))
      (λ j jl. ⊎_elim
      (λ (e : j ≡ i). subst (λ (k : ℕ). places_with p s.run.rest.items i (place_after p i served) k ≡ place_of p k (get_or s.run.rest.items k 0)) (sym e)
      (with_here p s.run.rest.items i (place_after p i served)
      ∙ ap (place_after p i) (let c : served ≡ (declared_task p i).cost - get_or s.run.rest.items i 0 = omega (arith, is_served) in c)
      ∙ sym (place_some p i (get_or s.run.rest.items i 0) some (omega (arith, is_served, before)))))
      (λ (ne : j ≢ i). with_other p s.run.rest.items i j (place_after p i served) ne)
      (cases_eq j i))

  -- it makes its reads
  pub reads_first : (r r' : Recorder) → IsRecorded p Ranked s.run.released (events_so_far p (service p) s.run.released s.run.time ++ begin_events_at p i served) (places_with p s.run.rest.items i (place_after p i served)) s.run.ends r
      → AddsPiece r r' (read_events (plan_in r) i served) i (task (state_in r) i).part.ended (place_after (plan_in r) i (served + 1)) → table_in r' ≡ table_in r
      → IsRecorded p Ranked s.run.released (events_so_far p (service p) s.run.released s.run.time ++ (begin_events_at p i served ++ read_events p i served)) (places_with p s.run.rest.items i (place_after p i (served + 1))) s.run.ends r'
  reads_first r r' g adds table =
      let own : AddsPiece r r' (read_events p i served) i (task (state_in r) i).part.ended (place_after p i (served + 1)) =
      subst (λ (q : Plan). AddsPiece r r' (read_events q i served) i (task (state_in r) i).part.ended (place_after q i (served + 1))) g.plan adds in
      subst (λ (l : List Event). IsRecorded p Ranked s.run.released l (places_with p s.run.rest.items i (place_after p i (served + 1))) s.run.ends r')
      (append_assoc (events_so_far p (service p) s.run.released s.run.time) (begin_events_at p i served) (read_events p i served))
      (goes_on p Ranked r r' s.run.released (events_so_far p (service p) s.run.released s.run.time ++ begin_events_at p i served) (places_with p s.run.rest.items i (place_after p i served)) s.run.ends g
      (read_events p i served) i (place_after p i (served + 1)) (places_with p s.run.rest.items i (place_after p i (served + 1))) il own
      (with_here p s.run.rest.items i (place_after p i (served + 1)))
      (λ j ne. with_other p s.run.rest.items i j (place_after p i (served + 1)) ne ∙ sym (with_other p s.run.rest.items i j (place_after p i served) ne)) table)

  -- the steps of the tick are those of the definition
  pub tick_steps : service_events_of p (service p) (Some (instance i (release_count p.batches s.run.released i))) s.run.time ≡ begin_events_at p i served ++ read_events p i served
  tick_steps = ap (λ (c : ℕ). begin_events_at p i c ++ read_events p i c) ticks_so_far

  module _ (ticks : ℕ) (forward : 0 < ticks) (within : ticks ≤ get_or s.run.rest.items i 0) (until : NoBatchBefore p s.run.released (s.run.time + ticks))
      (no_sooner : (r : ℕ) → r < length (declared_task p i).reads → served < (get_or (declared_task p i).reads r no_read).at → served + ticks ≤ (get_or (declared_task p i).reads r no_read).at) where
    -- no read is made inside the jump
    no_reads_in : (c : ℕ) → served < c → c < served + ticks → NoReadAt p i c
    no_reads_in c after before r rl is = let n = no_sooner r rl (omega (arith, is, after)) in omega (arith, n, is, before)

    same_reads : early_reads p i (served + ticks) ≡ early_reads p i (served + 1)
    same_reads = same_early p i (served + 1) (served + ticks) (λ c le lt. no_reads_in c (omega (arith, le)) lt) (omega (arith, forward))

    one_more_tick : ticks ≡ suc (ticks - 1)
    one_more_tick = omega (arith, forward)

    until' : NoBatchBefore p s.run.released (s.run.time + suc (ticks - 1))
    until' = subst (λ (d : ℕ). NoBatchBefore p s.run.released (s.run.time + d)) one_more_tick until

    quiet' : IsQuiet p s.run.time (suc (ticks - 1))
    quiet' = quiet p (λ k. 0) (λ c. service p) s.run.released (λ c. s.run.time) s.run.rest.items s.run.ends h.run.at (s.run.time + suc (ticks - 1)) until' 0 (suc (ticks - 1)) (omega arith)

    choice : IsFirst (GoesBefore p) (Waits p (left_of p (service p)) s.run.time) (Some (instance i (release_count p.batches s.run.released i)))
    choice = is_choice p s.run h.run i first (s.run.time + ticks) until (omega (arith, forward))

    left : left_of p (service p) (instance i (release_count p.batches s.run.released i)) s.run.time ≡ get_or s.run.rest.items i 0
    left = sym (h.run.at.under i il some)

    no_read' : (c : ℕ) → served_ticks (service p) (instance i (release_count p.batches s.run.released i)) s.run.time < c → c < served_ticks (service p) (instance i (release_count p.batches s.run.released i)) s.run.time + suc (ticks - 1) → NoReadAt p i c
    no_read' c after before = let t = ticks_so_far in no_reads_in c (omega (arith, t, after)) (omega (arith, t, before, one_more_tick))

    moved : (t : ℕ) → t ≡ s.run.time + ticks → events_so_far p (service p) s.run.released t ≡ events_so_far p (service p) s.run.released (s.run.time + suc (ticks - 1))
    moved t is = ap (events_so_far p (service p) s.run.released) (let e : t ≡ s.run.time + suc (ticks - 1) = omega (arith, is, one_more_tick) in e)

    pub events_to_event : (t : ℕ) → t ≡ s.run.time + ticks → ticks < get_or s.run.rest.items i 0
        → events_so_far p (service p) s.run.released t ≡ events_so_far p (service p) s.run.released s.run.time ++ (begin_events_at p i served ++ read_events p i served)
    events_to_event t is short =
        moved t is
        ∙ jump_to_event p (service p) (service_is p) s.run.released s.run.time (ticks - 1) (h.run.at.early 0) until'.later quiet' (instance i (release_count p.batches s.run.released i)) choice (omega (arith, left, within, one_more_tick)) no_read' (omega (arith, left, short, one_more_tick))
        ∙ ap (λ (l : List Event). events_so_far p (service p) s.run.released s.run.time ++ l) tick_steps

    pub events_to_end : (t : ℕ) → t ≡ s.run.time + ticks → ticks ≡ get_or s.run.rest.items i 0
        → events_so_far p (service p) s.run.released t ≡ (events_so_far p (service p) s.run.released s.run.time ++ (begin_events_at p i served ++ read_events p i served)) ++ end_events p i
    events_to_end t is all =
        moved t is
        ∙ jump_to_end p (service p) (service_is p) s.run.released s.run.time (ticks - 1) (h.run.at.early 0) until'.later quiet' (instance i (release_count p.batches s.run.released i)) choice (omega (arith, left, within, one_more_tick)) no_read' (omega (arith, left, all, one_more_tick))
        ∙ ap (λ (l : List Event). (events_so_far p (service p) s.run.released s.run.time ++ l) ++ end_events p i) tick_steps

    -- it runs to an event before its end
    pub pauses : (s' : Simulation) → ticks < get_or s.run.rest.items i 0 → IsRun p (one_processor p s'.run.time) s'.run → s'.run.time ≡ s.run.time + ticks → s'.run.released ≡ s.run.released
        → s'.run.rest.items ≡ set s.run.rest.items i (get_or s.run.rest.items i 0 - ticks) → s'.run.ends ≡ s.run.ends
        → IsRecorded p Ranked s.run.released (events_so_far p (service p) s.run.released s.run.time ++ (begin_events_at p i served ++ read_events p i served)) (places_with p s.run.rest.items i (place_after p i (served + 1))) s.run.ends s'.recorder
        → IsSimulation p s'
    pauses s' short run time released rest' ends g =
        let inside : i < length s.run.rest.items = let n = h.run.at.rests in omega (arith, n, il) in
        let here : get_or s'.run.rest.items i 0 ≡ get_or s.run.rest.items i 0 - ticks = ap (λ (l : List ℕ). get_or l i 0) rest' ∙ get_or-set_same s.run.rest.items i (get_or s.run.rest.items i 0 - ticks) 0 inside in
        let others : (j : ℕ) → j ≢ i → get_or s'.run.rest.items j 0 ≡ get_or s.run.rest.items j 0 = λ j ne. ap (λ (l : List ℕ). get_or l j 0) rest' ∙ get_or-set_other s.run.rest.items i j (get_or s.run.rest.items i 0 - ticks) 0 ne in
        let lists : (j : ℕ) → j ≢ i → length (get_or s'.run.ends j []) ≡ length (get_or s.run.ends j []) = λ j ne. ap (λ (l : List (List ℕ)). length (get_or l j [])) ends in
        let events = events_to_event s'.run.time time short in
        let left' : (declared_task p i).cost - (get_or s.run.rest.items i 0 - ticks) ≡ served + ticks = omega (arith, is_served, within) in
        let place : place_of p i (get_or s'.run.rest.items i 0) ≡ place_after p i (served + 1) =
        ap (place_of p i) here ∙ place_some p i (get_or s.run.rest.items i 0 - ticks) (omega (arith, short)) (omega (arith, is_served, forward, within, some))
        ∙ ap (place_after p i) left' ∙ ap (read_place (length (declared_task p i).reads)) same_reads in
        record {
          run = run;
          recorded = rw (released, ends)
              (same_places p Ranked s.run.released (events_so_far p (service p) s.run.released s.run.time ++ (begin_events_at p i served ++ read_events p i served)) (events_so_far p (service p) s.run.released s'.run.time)
              (places_with p s.run.rest.items i (place_after p i (served + 1))) (λ j. place_of p j (get_or s'.run.rest.items j 0)) s.run.ends s'.recorder g events
              (λ j jl. ⊎_elim
              (λ (e : j ≡ i). subst (λ (k : ℕ). place_of p k (get_or s'.run.rest.items k 0) ≡ places_with p s.run.rest.items i (place_after p i (served + 1)) k) (sym e) (place ∙ sym (with_here p s.run.rest.items i (place_after p i (served + 1)))))
              (λ (ne : j ≢ i). ap (place_of p j) (others j ne) ∙ sym (with_other p s.run.rest.items i j (place_after p i (served + 1)) ne))
              (cases_eq j i)));
          few =
              let steps = paused_steps p i il (get_or s.run.rest.items i 0) ticks forward short (omega (arith, is_served)) in
              let c : (declared_task p i).cost - get_or s.run.rest.items i 0 ≡ served = omega (arith, is_served) in
              let begin = ap (λ (n : ℕ). length (begin_events_at p i n)) c in
              let reads = ap (λ (n : ℕ). length (read_events p i n)) c in
              let changed = one_changed p s.run.rest.items s'.run.rest.items s.run.ends s'.run.ends i others lists (length p.diagram.tasks) il in
              let own = ap (λ (l : List (List ℕ)). length (get_or l i [])) ends in
              let bound = ap (step_bound p i) here in
              let long = ap length events in
              let one = length-append (events_so_far p (service p) s.run.released s.run.time) (begin_events_at p i served ++ read_events p i served) in
              let two = length-append (begin_events_at p i served) (read_events p i served) in
              rw released (omega (arith, h.few, steps, begin, reads, changed, own, bound, long, one, two));
        }

    -- after its last read
    pub is_shut : (r : Recorder) → ticks ≡ get_or s.run.rest.items i 0 → IsRecorded p Ranked s.run.released (events_so_far p (service p) s.run.released s.run.time ++ (begin_events_at p i served ++ read_events p i served)) (places_with p s.run.rest.items i (place_after p i (served + 1))) s.run.ends r
        → (task (state_in r) i).part.place ≡ Shut
    is_shut r all g =
        let n : ℕ = length (declared_task p i).reads in
        let count : early_reads p i (served + 1) ≡ n =
        sym same_reads ∙ ap (early_reads p i) (let e : served + ticks ≡ (declared_task p i).cost = omega (arith, is_served, all) in e) ∙ all_reads_early p i il in
        g.place i il ∙ with_here p s.run.rest.items i (place_after p i (served + 1)) ∙ ap (read_place n) count ∙ all_read n

    -- it runs to its end
    pub finishes : (s' : Simulation) (r : Recorder) → ticks ≡ get_or s.run.rest.items i 0 → IsRun p (one_processor p s'.run.time) s'.run → s'.run.time ≡ s.run.time + get_or s.run.rest.items i 0 → s'.run.released ≡ s.run.released
        → s'.run.rest.items ≡ set s.run.rest.items i 0 → s'.run.ends ≡ set s.run.ends i (get_or s.run.ends i [] ++ (s.run.time + get_or s.run.rest.items i 0) ∷ [])
        → IsRecorded p Ranked s.run.released (events_so_far p (service p) s.run.released s.run.time ++ (begin_events_at p i served ++ read_events p i served)) (places_with p s.run.rest.items i (place_after p i (served + 1))) s.run.ends r
        → AddsPiece r s'.recorder (end_events (plan_in r) i) i ((task (state_in r) i).part.ended + 1) Idle → HasEndedRows (plan_in s'.recorder) (state_in s'.recorder) (table_in s'.recorder)
        → IsSimulation p s'
    finishes s' r all run time released rest' ends g adds rows =
        let inside : i < length s.run.rest.items = let n = h.run.at.rests in omega (arith, n, il) in
        let inside' : i < length s.run.ends = let n = h.run.at.lists in omega (arith, n, il) in
        let here : get_or s'.run.rest.items i 0 ≡ 0 = ap (λ (l : List ℕ). get_or l i 0) rest' ∙ get_or-set_same s.run.rest.items i 0 0 inside in
        let others : (j : ℕ) → j ≢ i → get_or s'.run.rest.items j 0 ≡ get_or s.run.rest.items j 0 = λ j ne. ap (λ (l : List ℕ). get_or l j 0) rest' ∙ get_or-set_other s.run.rest.items i j 0 0 ne in
        let lists : (j : ℕ) → j ≢ i → length (get_or s'.run.ends j []) ≡ length (get_or s.run.ends j []) =
        λ j ne. ap (λ (l : List (List ℕ)). length (get_or l j [])) ends ∙ ap length (get_or-set_other s.run.ends i j (get_or s.run.ends i [] ++ (s.run.time + get_or s.run.rest.items i 0) ∷ []) [] ne) in
        let own_list : length (get_or s'.run.ends i []) ≡ length (get_or s.run.ends i []) + 1 =
        ap (λ (l : List (List ℕ)). length (get_or l i [])) ends ∙ ap length (get_or-set_same s.run.ends i (get_or s.run.ends i [] ++ (s.run.time + get_or s.run.rest.items i 0) ∷ []) [] inside')
        ∙ length-append (get_or s.run.ends i []) ((s.run.time + get_or s.run.rest.items i 0) ∷ []) in
        let events = events_to_end s'.run.time (time ∙ ap (λ (n : ℕ). s.run.time + n) (sym all)) all in
        let piece : AddsPiece r s'.recorder (end_events p i) i ((task (state_in r) i).part.ended + 1) Idle = subst (λ (q : Plan). AddsPiece r s'.recorder (end_events q i) i ((task (state_in r) i).part.ended + 1) Idle) g.plan adds in
        let plan : plan_in s'.recorder ≡ p = adds.steps.plan ∙ g.plan in
        let before : IsRecorded p Ranked s.run.released ((events_so_far p (service p) s.run.released s.run.time ++ (begin_events_at p i served ++ read_events p i served)) ++ end_events p i) (λ j. place_of p j (get_or s'.run.rest.items j 0)) s'.run.ends s'.recorder =
        adds_piece p Ranked r s'.recorder s.run.released (events_so_far p (service p) s.run.released s.run.time ++ (begin_events_at p i served ++ read_events p i served)) (places_with p s.run.rest.items i (place_after p i (served + 1))) s.run.ends g
        (end_events p i) i ((task (state_in r) i).part.ended + 1) Idle (λ j. place_of p j (get_or s'.run.rest.items j 0)) s'.run.ends piece
        (ap (place_of p i) here)
        (λ j ne. ap (place_of p j) (others j ne) ∙ sym (with_other p s.run.rest.items i j (place_after p i (served + 1)) ne))
        (let e = g.ended i il in omega (arith, e, own_list)) lists
        (subst (λ (q : Plan). HasEndedRows q (state_in s'.recorder) (table_in s'.recorder)) plan rows) in
        record {
          run = run;
          recorded = rw released (subst (λ (l : List Event). IsRecorded p Ranked s.run.released l (λ j. place_of p j (get_or s'.run.rest.items j 0)) s'.run.ends s'.recorder) (sym events) before);
          few =
              let steps = ended_steps p i il (get_or s.run.rest.items i 0) some (omega (arith, is_served)) in
              let c : (declared_task p i).cost - get_or s.run.rest.items i 0 ≡ served = omega (arith, is_served) in
              let begin = ap (λ (n : ℕ). length (begin_events_at p i n)) c in
              let reads = ap (λ (n : ℕ). length (read_events p i n)) c in
              let changed = one_changed p s.run.rest.items s'.run.rest.items s.run.ends s'.run.ends i others lists (length p.diagram.tasks) il in
              let bound : step_bound p i (get_or s'.run.rest.items i 0) ≡ 0 = ap (step_bound p i) here in
              let long = ap length events in
              let one = length-append (events_so_far p (service p) s.run.released s.run.time) (begin_events_at p i served ++ read_events p i served) in
              let two = length-append (begin_events_at p i served) (read_events p i served) in
              let three = length-append (events_so_far p (service p) s.run.released s.run.time ++ (begin_events_at p i served ++ read_events p i served)) (end_events p i) in
              rw released (omega (arith, h.few, steps, begin, reads, changed, own_list, bound, long, one, two, three));
        }

-- ---- none runs

pub idles : (p : Plan) (s s' : Simulation) → IsSimulation p s → (limit : ℕ) → NoBatchBefore p s.run.released limit → s.run.time < limit → ((i : ℕ) → i < length p.diagram.tasks → get_or s.run.rest.items i 0 ≡ 0)
    → IsRun p (one_processor p s'.run.time) s'.run → s'.run.time ≡ limit → s'.run.released ≡ s.run.released → s'.run.rest ≡ s.run.rest → s'.run.ends ≡ s.run.ends → s'.recorder ≡ s.recorder → IsSimulation p s'
idles p s s' h limit until ahead idle run time released rest ends recorder =
    let d : ℕ = limit - s.run.time - 1 in
    let reach : limit ≡ s.run.time + suc d = omega (arith, ahead) in
    let until' : NoBatchBefore p s.run.released (s.run.time + suc d) = subst (λ (t : ℕ). NoBatchBefore p s.run.released t) reach until in
    let quiet' : IsQuiet p s.run.time (suc d) = quiet p (λ k. 0) (λ c. service p) s.run.released (λ c. s.run.time) s.run.rest.items s.run.ends h.run.at (s.run.time + suc d) until' 0 (suc d) (omega arith) in
    let none : (y : Instance) → Waits p (left_of p (service p)) s.run.time y → ⊥ = λ y w.
    let is = waits_is p (λ k. 0) (λ c. service p) s.run.released (λ c. s.run.time) s.run.rest.items s.run.ends h.run.at limit until y ahead w in
    let z = idle y.task w.instance.task in
    omega (arith, is.0, z) in
    let events : events_so_far p (service p) s.run.released s'.run.time ≡ events_so_far p (service p) s.run.released s.run.time =
    ap (events_so_far p (service p) s.run.released) (time ∙ reach) ∙ jump_idle p (service p) (service_is p) s.run.released s.run.time d (h.run.at.early 0) until'.later quiet' none in
    record {
      run = run;
      recorded = rw (released, rest, ends, recorder, events) h.recorded;
      few = rw (released, rest, ends, events) h.few;
    }

-- ---- a batch

pub batch_ended : (p : Plan) (s : Simulation) → IsSimulation p s → s.run.released < length p.batches → ((i : ℕ) → names i (batch_at p s.run.released) ≡ true → get_or s.run.rest.items i 0 ≡ 0) → HasEnded (state_in s.recorder) (batch_at p s.run.released)
batch_ended p s h more free =
    has_ended p Ranked s.recorder s.run.released (events_so_far p (service p) s.run.released s.run.time) (λ i. place_of p i (get_or s.run.rest.items i 0)) s.run.ends h.recorded (λ i named.
    let il = named_there p s.run.released more i named in
    let count = h.run.at.counts i il in
    let none = busy_count_none (get_or s.run.rest.items i 0) (free i named) in
    (il, omega (arith, count, none)))

-- ---- a batch is released

pub renews : (p : Plan) (s s' : Simulation) → IsSimulation p s → s.run.released < length p.batches → s.run.time ≡ (batch_at p s.run.released).time
    → ((i : ℕ) → names i (batch_at p s.run.released) ≡ true → get_or s.run.rest.items i 0 ≡ 0)
    → IsRun p (one_processor p s'.run.time) s'.run → s'.run.time ≡ s.run.time → s'.run.released ≡ s.run.released + 1 → Renewed p (batch_at p s.run.released) s.run.rest.items s'.run.rest.items → s'.run.ends ≡ s.run.ends
    → AddsSteps s.recorder s'.recorder (batch_events (plan_in s.recorder) (batch_at (plan_in s.recorder) s.run.released))
    → ReleasesBatch (plan_in s.recorder) (state_in s.recorder) (state_in s'.recorder) s.run.released (batch_at (plan_in s.recorder) s.run.released) → table_in s'.recorder ≡ table_in s.recorder → IsSimulation p s'
renews p s s' h more due free run time released renewed ends adds releases table =
    let adds' : AddsSteps s.recorder s'.recorder (batch_events p (batch_at p s.run.released)) = subst (λ (q : Plan). AddsSteps s.recorder s'.recorder (batch_events q (batch_at q s.run.released))) h.recorded.plan adds in
    let releases' : ReleasesBatch p (state_in s.recorder) (state_in s'.recorder) s.run.released (batch_at p s.run.released) =
    subst (λ (q : Plan). ReleasesBatch q (state_in s.recorder) (state_in s'.recorder) s.run.released (batch_at q s.run.released)) h.recorded.plan releases in
    let events : events_so_far p (service p) (s.run.released + 1) s.run.time ≡ events_so_far p (service p) s.run.released s.run.time ++ batch_events p (batch_at p s.run.released) =
    one_batch_more p (service p) s.run.released s.run.time no_batch more (sym due) in
    let after = adds_batch p Ranked s.recorder s'.recorder s.run.released (events_so_far p (service p) s.run.released s.run.time) s.run.rest.items s'.run.rest.items s.run.ends h.recorded adds' releases' table renewed free in
    record {
      run = run;
      recorded = rw (released, time, ends) (subst (λ (l : List Event). IsRecorded p Ranked (s.run.released + 1) l (λ i. place_of p i (get_or s'.run.rest.items i 0)) s.run.ends s'.recorder) (sym events) after);
      few =
          let bounds = same_steps p s.run.rest.items s'.run.rest.items s.run.ends (length p.diagram.tasks) (λ j. ⊎_elim
          (λ (e : names j (batch_at p s.run.released) ≡ true). ap (step_bound p j) (renewed.named j e) ∙ bound_all p j ∙ sym (ap (step_bound p j) (free j e)))
          (λ (e : names j (batch_at p s.run.released) ≡ false). ap (step_bound p j) (renewed.others j e))
          (cases_Bool (names j (batch_at p s.run.released)))) in
          let batch = length-batch p (batch_at p s.run.released) in
          let occurrences = ap occurrence_count (take_more p.batches s.run.released no_batch more) ∙ sum_by-append (λ (a : Batch). length a.tasks) (take s.run.released p.batches) (batch_at p s.run.released ∷ []) in
          let long = ap length events in
          let one = length-append (events_so_far p (service p) s.run.released s.run.time) (batch_events p (batch_at p s.run.released)) in
          let last = sum_by-cons (λ (a : Batch). length a.tasks) (batch_at p s.run.released) [] in
          rw (released, time, ends) (omega (arith, h.few, bounds, batch, occurrences, long, one, last));
    }
