-- From processor to processor: the steps of a tick are made.
use Rattle.std.proofs.Common.{◌≡◌, ◌≢◌, ℕ, zero, suc, ◌+◌, ◌*◌, ◌<◌, ◌≤◌, List, [], ◌++◌, length, get_or, Option, Some, None, refl, sym, ap, ◌∙◌, subst, ⊎_elim, arith, append_assoc, length-append}
use Rattle.std.specs.Prelude.{◌==◌, if◌then◌else◌}
use Rattle.std.proofs.lemmas.Bool.{cases_eq, eq-eqb, ne_eqb}
use Rattle.std.proofs.lemmas.List.{append-nil}
use Rattle.std.proofs.lemmas.List.Sums.{sum_by-take-le}
use Rattle.std.proofs.lemmas.Option.{same_Some}
use Rattle.dbp_plan.specs.declared.plan.Plan.{Plan}
use Rattle.dbp_plan.specs.declared.schedule.Batch.{Batch}
use Rattle.dbp_plan.specs.Lookups.{declared_task}
use Rattle.dbp_plan.proofs.PlanRules as rules
use Rattle.dbp_rules.specs.Lookups.{task}
use Rattle.dbp_rules.specs.Wired.{wiring_of}
use Rattle.dbp_rules.specs.declared.parts.Place.{Place}
use Rattle.dbp_rules.specs.declared.parts.Place.TheVariants.{Idle}
use Rattle.dbp_rules.specs.declared.state.State.{State}
use Rattle.dbp_rules.specs.declared.step.Count.TheVariants.{All}
use Rattle.instance_steps.specs.Events.{Event, begin_events, read_events}
use Rattle.instance_steps.specs.Recorders.{plan_in, state_in, table_in}
use Rattle.instance_steps.specs.TaskPieces.{AddsPiece, HasRowsToRead, MayStep, place_after}
use Rattle.instance_steps.specs.declared.recorder.Recorder.{Recorder}
use Rattle.instance_steps.proofs.Adding.{still_kept}
use Rattle.rank_order.specs.Instances.{Instance}
use Rattle.rank_order.specs.Service.{served_ticks}
use Rattle.virtual_time.specs.Pieces.{begin_events_at, service_events_of}
use Rattle.virtual_time.specs.Recordings.{IsRecorded, place_of}
use Rattle.virtual_time.specs.Runs.{IsRun, Processors}
use Rattle.virtual_time.specs.declared.run.Run.{Run}
use Rattle.virtual_time.proofs.Budgets.{begin_few, reads_few, steps_few}
use Rattle.virtual_time.proofs.Recordings.{goes_on, place_all, place_some, same_places}
use Rattle.virtual_time.proofs.Running.{few_ends}
use Rattle.virtual_time.proofs.Steps.{busy_count_one}
use Rattle.cpu_sim.specs.Choices.{all_cpus_at, last_of}
use Rattle.cpu_sim.specs.Record.{cpu_count, events_so_far}
use Rattle.cpu_sim.specs.Services.{services}
use Rattle.cpu_sim.specs.Simulations.{HasBegun, HasStepped, IsEvent, IsNext, chosen_steps, is_done, most_steps, own_steps, place_in, served_before}
use Rattle.cpu_sim.specs.declared.simulation.Simulation.{Simulation}
use Rattle.cpu_sim.proofs.BlockingReads.{Together, rows_there}
use Rattle.cpu_sim.proofs.ChosenTasks.{IsChosen, chosen_at, done_after, done_other, none_at, none_done, not_done}
use Rattle.cpu_sim.proofs.RecordTicks.{no_service_more, one_service_more}

-- ---- counts

pub next_steps : (p : Plan) (r : Run) (chosen : List (Option ℕ)) (c : ℕ) → chosen_steps p r chosen (c + 1) ≡ chosen_steps p r chosen c + own_steps p r (get_or chosen c None)
next_steps p r chosen c = ap (chosen_steps p r chosen) (let e : c + 1 ≡ suc c = omega arith in e)

-- the steps so far are far fewer than a list can hold
pub most_few : (p : Plan) (cpus : Processors) (r : Run) → IsRun p cpus r → most_steps p r ≤ 570000000
most_few p cpus r h =
    let few = p.rules.few in
    let tasks = rules.few_tasks p in
    let before = sum_by-take-le (λ (a : Batch). length a.tasks) p.batches r.released in
    let bound = steps_few p r.rest.items r.ends (length p.diagram.tasks) (omega arith) (λ j lt. few_ends p cpus r h j lt) in
    omega (arith, few, tasks, before, bound)

-- under `All` no rank keeps a task from its steps
pub may_step : (p : Plan) (t : State) (i : ℕ) → MayStep (wiring_of p All) t i
may_step p t i ranked = absurd (cc)

if_here : {A : Type 0} (i : ℕ) (a b : A) → (if i == i then a else b) ≡ a
if_here i a b = rw (eq-eqb i i refl) refl

if_other : {A : Type 0} (i j : ℕ) (a b : A) → j ≢ i → (if j == i then a else b) ≡ b
if_other i j a b apart = rw (ne_eqb j i apart) refl

pub no_other : (chosen : List (Option ℕ)) (c i j : ℕ) → IsNext chosen c i → j ≢ i → get_or chosen c None ≡ Some j → ⊥
no_other chosen c i j next apart is = apart (same_Some j i (sym is ∙ next.there))

pub nobody : (chosen : List (Option ℕ)) (c i : ℕ) → get_or chosen c None ≡ None → get_or chosen c None ≡ Some i → ⊥
nobody chosen c i none is = let z : None ≡ Some i = sym none ∙ is in absurd (cc)

-- the steps of a tick are few
module _ (p : Plan) (s : Simulation) (chosen : List (Option ℕ)) (e : IsEvent p s chosen) where
  own_few : (c : ℕ) → c < cpu_count → (o : Option ℕ) → get_or chosen c None ≡ o → own_steps p s.run o ≤ 162
  own_few c small None is = omega arith
  own_few c small (Some i) is =
      let there = (chosen_at p s chosen e c i (record { small = small; there = is })).small in
      omega (arith, begin_few p i (served_before p s.run i), reads_few p i there (served_before p s.run i))

  pub chosen_few : (c : ℕ) → c ≤ cpu_count → chosen_steps p s.run chosen c ≤ 162 * c
  chosen_few zero le = omega arith
  chosen_few (suc c) le = omega (arith, chosen_few c (omega (arith, le)), own_few c (omega (arith, le)) (get_or chosen c None) refl)

-- ---- the steps of a tick

-- at first none is made
pub starts_steps : (p : Plan) (s : Simulation) (chosen : List (Option ℕ)) → IsEvent p s chosen → HasStepped p s chosen 0 s
starts_steps p s chosen e =
    let events = events_so_far p (services p) cpu_count s.run.released 0 s.run.time in
    record {
      event = e;
      run = refl;
      recorded = same_places p All s.run.released events events (λ i. place_of p i (get_or s.run.rest.items i 0)) (λ i. place_in p s.run i (is_done p chosen 0 i)) s.run.ends s.recorder e.simulation.recorded refl
          (λ i il. ap (place_in p s.run i) (none_done p chosen i));
      few = omega (arith, e.simulation.few);
      keeps = refl;
    }

module _ (p : Plan) (first : Simulation) (chosen : List (Option ℕ)) (c : ℕ) (s : Simulation) (h : HasStepped p first chosen c s) where
  abbrev b : ℕ
  b = first.run.released

  abbrev t : ℕ
  t = first.run.time

  abbrev before : List Event
  before = events_so_far p (services p) cpu_count first.run.released c first.run.time

  abbrev places : ℕ → Place
  places i = place_in p first.run i (is_done p chosen c i)

  -- nobody is served
  pub skips_steps : c < cpu_count → get_or chosen c None ≡ None → HasStepped p first chosen (c + 1) s
  skips_steps small none =
      let events = no_service_more p (services p) cpu_count first.run.released c first.run.time (none_at p first chosen h.event c small none) in
      let more = next_steps p first.run chosen c in
      let own = ap (own_steps p first.run) none in
      record {
        event = h.event;
        run = h.run;
        recorded = same_places p All first.run.released (events_so_far p (services p) cpu_count first.run.released c first.run.time) (events_so_far p (services p) cpu_count first.run.released (c + 1) first.run.time)
            (λ i. place_in p first.run i (is_done p chosen c i)) (λ i. place_in p first.run i (is_done p chosen (c + 1) i)) first.run.ends s.recorder h.recorded events
            (λ i il. ap (place_in p first.run i) (done_other p chosen c i (nobody chosen c i none)));
        few = omega (arith, h.few, ap length events, more, own);
        keeps = h.keeps;
      }

  module _ (i : ℕ) (next : IsNext chosen c i) where
    at : IsChosen p first chosen h.event c i
    at = chosen_at p first chosen h.event c i next

    pub task_small : i < length p.diagram.tasks
    task_small = at.small

    pub rest_some : 0 < get_or first.run.rest.items i 0
    rest_some = at.some

    pub rest_within : get_or first.run.rest.items i 0 ≤ (declared_task p i).cost
    rest_within = at.within

    -- where it stands
    pub stands : (task (state_in s.recorder) i).part.place ≡ place_of p i (get_or first.run.rest.items i 0)
    stands = h.recorded.place i at.small ∙ ap (place_in p first.run i) (not_done p chosen c i next at.own)

    pub is_idle : served_before p first.run i ≡ 0 → (task (state_in s.recorder) i).part.place ≡ Idle
    is_idle none = stands ∙ ap (place_of p i) (let e : get_or first.run.rest.items i 0 ≡ (declared_task p i).cost = omega (arith, none, at.within) in e) ∙ place_all p i

    pub gate_open : (task (state_in s.recorder) i).words.gate ≡ (task (state_in s.recorder) i).part.ended + 1
    gate_open =
        let gate = h.recorded.gates i at.small in
        let ended = h.recorded.ended i at.small in
        let count = h.event.simulation.run.at.counts i at.small in
        let one = busy_count_one (get_or first.run.rest.items i 0) at.some in
        omega (arith, gate, ended, count, one)

    -- it begins
    pub begins : (r' : Recorder) → served_before p first.run i ≡ 0 → AddsPiece s.recorder r' (begin_events (plan_in s.recorder) i) i (task (state_in s.recorder) i).part.ended (place_after (plan_in s.recorder) i 0)
        → table_in r' ≡ table_in s.recorder → HasBegun p first chosen c i (record { run = s.run; recorder = r' })
    begins r' none adds table =
        let own : AddsPiece s.recorder r' (begin_events p i) i (task (state_in s.recorder) i).part.ended (place_after p i 0) =
        subst (λ (q : Plan). AddsPiece s.recorder r' (begin_events q i) i (task (state_in s.recorder) i).part.ended (place_after q i 0)) h.recorded.plan adds in
        let events : begin_events_at p i (served_before p first.run i) ≡ begin_events p i = rw (eq-eqb (served_before p first.run i) 0 none) refl in
        let places' : ℕ → Place = λ j. if j == i then place_after p i (served_before p first.run i) else place_in p first.run j (is_done p chosen c j) in
        record {
          recorded = subst (λ (l : List Event). IsRecorded p All first.run.released (events_so_far p (services p) cpu_count first.run.released c first.run.time ++ l) places' first.run.ends r') (sym events)
              (goes_on p All s.recorder r' first.run.released (events_so_far p (services p) cpu_count first.run.released c first.run.time) (λ j. place_in p first.run j (is_done p chosen c j)) first.run.ends h.recorded
              (begin_events p i) i (place_after p i 0) places' at.small own
              (if_here i (place_after p i (served_before p first.run i)) (place_in p first.run i (is_done p chosen c i)) ∙ ap (place_after p i) none)
              (λ j apart. if_other i j (place_after p i (served_before p first.run i)) (place_in p first.run j (is_done p chosen c j)) apart) table);
          keeps = still_kept _ _ _ adds.steps ∙ h.keeps;
        }

    -- it began before
    pub began : 0 < served_before p first.run i → HasBegun p first chosen c i s
    began before' =
        let events : begin_events_at p i (served_before p first.run i) ≡ [] = rw (ne_eqb (served_before p first.run i) 0 (λ z. omega (arith, z, before'))) refl in
        let so_far = events_so_far p (services p) cpu_count first.run.released c first.run.time in
        let here : place_in p first.run i (is_done p chosen c i) ≡ place_after p i (served_before p first.run i) =
        ap (place_in p first.run i) (not_done p chosen c i next at.own) ∙ place_some p i (get_or first.run.rest.items i 0) at.some (omega (arith, before')) in
        record {
          recorded = same_places p All first.run.released so_far (so_far ++ begin_events_at p i (served_before p first.run i))
              (λ j. place_in p first.run j (is_done p chosen c j)) (λ j. if j == i then place_after p i (served_before p first.run i) else place_in p first.run j (is_done p chosen c j)) first.run.ends s.recorder h.recorded
              (ap (λ (l : List Event). so_far ++ l) events ∙ append-nil so_far)
              (λ j jl. ⊎_elim
              (λ (e : j ≡ i). subst (λ (k : ℕ). (if k == i then place_after p i (served_before p first.run i) else place_in p first.run k (is_done p chosen c k)) ≡ place_in p first.run k (is_done p chosen c k)) (sym e)
              (if_here i (place_after p i (served_before p first.run i)) (place_in p first.run i (is_done p chosen c i)) ∙ sym here))
              (λ (apart : j ≢ i). if_other i j (place_after p i (served_before p first.run i)) (place_in p first.run j (is_done p chosen c j)) apart)
              (cases_eq j i));
          keeps = h.keeps;
        }

    -- room for its steps
    pub room_before : length (events_so_far p (services p) cpu_count first.run.released c first.run.time) ≤ 571000000
    room_before = omega (arith, h.few, most_few p (all_cpus_at p first.run.time) first.run h.event.simulation.run, chosen_few p first chosen h.event c (omega (arith, next.small)), next.small)

    -- it makes its reads
    pub reads_made : (s' s'' : Simulation) → HasBegun p first chosen c i s' → s''.run ≡ first.run
        → AddsPiece s'.recorder s''.recorder (read_events (plan_in s'.recorder) i (served_before p first.run i)) i (task (state_in s'.recorder) i).part.ended (place_after (plan_in s'.recorder) i (served_before p first.run i + 1))
        → table_in s''.recorder ≡ table_in s'.recorder → HasStepped p first chosen (c + 1) s''
    reads_made s' s'' g run adds table =
        let served = served_before p first.run i in
        let so_far = events_so_far p (services p) cpu_count first.run.released c first.run.time in
        let own : AddsPiece s'.recorder s''.recorder (read_events p i served) i (task (state_in s'.recorder) i).part.ended (place_after p i (served + 1)) =
        subst (λ (q : Plan). AddsPiece s'.recorder s''.recorder (read_events q i served) i (task (state_in s'.recorder) i).part.ended (place_after q i (served + 1))) g.recorded.plan adds in
        let x : Instance = last_of p first.run.released i in
        let ticks : served_ticks (services p c) x first.run.time ≡ served = subst (λ (k : ℕ). served_ticks (services p k) x first.run.time ≡ served) at.own at.served in
        let service : service_events_of p (services p c) (Some x) first.run.time ≡ begin_events_at p i served ++ read_events p i served = ap (λ (n : ℕ). begin_events_at p i n ++ read_events p i n) ticks in
        let events : events_so_far p (services p) cpu_count first.run.released (c + 1) first.run.time ≡ so_far ++ (begin_events_at p i served ++ read_events p i served) =
        one_service_more p (services p) cpu_count first.run.released c first.run.time (Some x) at.serves ∙ ap (λ (l : List Event). so_far ++ l) service in
        let own' : place_in p first.run i (is_done p chosen (c + 1) i) ≡ place_after p i (served + 1) = ap (place_in p first.run i) (done_after p chosen c i next at.own) in
        let added = goes_on p All s'.recorder s''.recorder first.run.released (so_far ++ begin_events_at p i served)
        (λ j. if j == i then place_after p i served else place_in p first.run j (is_done p chosen c j)) first.run.ends g.recorded
        (read_events p i served) i (place_after p i (served + 1)) (λ j. place_in p first.run j (is_done p chosen (c + 1) j)) at.small own own'
        (λ j apart. ap (place_in p first.run j) (done_other p chosen c j (no_other chosen c i j next apart)) ∙ sym (if_other i j (place_after p i served) (place_in p first.run j (is_done p chosen c j)) apart)) table in
        let more = next_steps p first.run chosen c in
        let steps = ap (own_steps p first.run) next.there in
        let one = length-append so_far (begin_events_at p i served ++ read_events p i served) in
        let two = length-append (begin_events_at p i served) (read_events p i served) in
        record {
          event = h.event;
          run = run;
          recorded = subst (λ (l : List Event). IsRecorded p All first.run.released l (λ j. place_in p first.run j (is_done p chosen (c + 1) j)) first.run.ends s''.recorder)
              (append_assoc so_far (begin_events_at p i served) (read_events p i served) ∙ sym events) added;
          few = omega (arith, h.few, ap length events, more, steps, one, two);
          keeps = still_kept _ _ _ adds.steps ∙ g.keeps;
        }

    -- where it stands after its begin, and the rows that it reads
    pub begun_at : (s' : Simulation) → HasBegun p first chosen c i s' → (task (state_in s'.recorder) i).part.place ≡ place_after p i (served_before p first.run i)
    begun_at s' g = g.recorded.place i at.small ∙ if_here i (place_after p i (served_before p first.run i)) (place_in p first.run i (is_done p chosen c i))

    pub has_rows : (s' : Simulation) → HasBegun p first chosen c i s' → HasRowsToRead p (wiring_of p All) (state_in s'.recorder) i (served_before p first.run i)
    has_rows s' g =
        let together : Together p s'.recorder.core first.run.released first.run.time first.run.rest.items first.run.ends = record { plan = g.recorded.plan; released = g.recorded.released; at = h.event.simulation.run.at; until = h.event.until } in
        rows_there p s'.recorder.core first.run.released first.run.time first.run.rest.items first.run.ends together All i at.small at.some g.recorded.ended at.free
