-- From processor to processor: the ticks of a jump are served, and what ends there ends.
use Rattle.std.proofs.Common.{◌≡◌, ◌≢◌, ℕ, zero, suc, ◌+◌, ◌-◌, ◌<◌, ◌≤◌, Bool, true, List, [], ◌∷◌, ◌++◌, length, get_or, set, sum, Option, Some, None, refl, sym, ap, ◌∙◌, subst, ⊎_elim, inl, inr, arith, get_or-set_other, get_or-set_same, length-append}
use Rattle.std.specs.Prelude.{◌*◌, if◌then◌else◌, is_some, take}
use Rattle.std.proofs.lemmas.Bool.{cases_Bool, cases_eq, cases_lt, le-ltb, lt-ltb}
use Rattle.std.proofs.lemmas.List.Sums.{sum_by-cons}
use Rattle.dbp_plan.specs.declared.plan.Plan.{Plan}
use Rattle.dbp_plan.specs.Lookups.{declared_task}
use Rattle.dbp_plan.specs.Occurrences.{occurrence_count}
use Rattle.dbp_rules.specs.Lookups.{task}
use Rattle.dbp_rules.specs.Moves.{read_place}
use Rattle.dbp_rules.specs.declared.parts.Place.TheVariants.{Idle, Shut}
use Rattle.dbp_rules.specs.declared.step.Count.TheVariants.{All}
use Rattle.instance_steps.specs.EndedRows.{HasEndedRows}
use Rattle.instance_steps.specs.Events.{Event, end_events}
use Rattle.instance_steps.specs.Recorders.{plan_in, record_in, state_in, table_in}
use Rattle.instance_steps.specs.TaskPieces.{AddsPiece, place_after}
use Rattle.instance_steps.specs.declared.recorder.Recorder.{Recorder}
use Rattle.instance_steps.proofs.Adding.{still_kept}
use Rattle.rank_order.specs.Instances.{Instance}
use Rattle.rank_order.specs.Service.{left_of, served_ticks}
use Rattle.virtual_time.specs.Budgets.{early_reads, step_bound}
use Rattle.virtual_time.specs.Recordings.{IsRecorded, place_of}
use Rattle.virtual_time.specs.Runs.{IsRun, IsServedFor, latest}
use Rattle.virtual_time.specs.State.{GoesOn}
use Rattle.virtual_time.specs.declared.run.Run.{Run}
use Rattle.virtual_time.proofs.Budgets.{all_reads_early, ended_steps, one_changed, paused_steps, same_early}
use Rattle.virtual_time.proofs.Recordings.{adds_piece, place_some, same_places}
use Rattle.virtual_time.proofs.Steps.{rests_on}
use Rattle.cpu_sim.specs.Choices.{all_cpus_at, cpus_at, last_of}
use Rattle.cpu_sim.specs.Processors.{left_on}
use Rattle.cpu_sim.specs.Record.{cpu_count, events_so_far}
use Rattle.cpu_sim.specs.Services.{services}
use Rattle.cpu_sim.specs.Simulations.{HasServed, HasStepped, IsJump, IsNext, IsSimulation, chosen_steps, is_done, is_open, most_steps, own_steps, place_in, served_before, times_below}
use Rattle.cpu_sim.specs.declared.simulation.Simulation.{Simulation}
use Rattle.cpu_sim.proofs.ChosenTasks.{IsChosen, all_done, chosen_at, done_after, done_other, early, none_at, none_done, is_open_first, none_open, not_done, not_open, open_before, open_other, quiet_for, runs, runs_at, small_cpu}
use Rattle.cpu_sim.proofs.ProcessorJump.{rests_there, runs_there}
use Rattle.cpu_sim.proofs.RecordTicks.{jump_made, none_ends, one_ends, one_goes_on}
use Rattle.cpu_sim.proofs.SomeServiceOn.{services-are}
use Rattle.cpu_sim.proofs.Stages.{chosen_few, most_few, next_steps, no_other, nobody}

-- ---- times

-- the same run at other times, which are the same for processors that have tasks
pub at_times : (p : Plan) (r : Run) (now later : ℕ → ℕ) → IsRun p (cpus_at p now) r → ((i : ℕ) → i < length p.diagram.tasks → later (declared_task p i).cpu ≡ now (declared_task p i).cpu) → ((c : ℕ) → now c ≤ later c) → IsRun p (cpus_at p later) r
at_times p r now later h same up = record {
  at = record {
    rests = h.at.rests;
    lists = h.at.lists;
    counts = h.at.counts;
    ended = h.at.ended;
    past = λ i k il kl. omega (arith, h.at.past i k il kl, same i il);
    under = λ i il some. h.at.under i il some ∙ ap (left_of p (services p (declared_task p i).cpu) (last_of p r.released i)) (sym (same i il));
    early = λ c k a kb kl. omega (arith, h.at.early c k a kb kl, up c);
    in_time = h.at.in_time;
  };
  tracks = h.tracks;
  ahead = h.ahead;
  bounded = h.bounded;
  below = h.below;
}

pub now_at : (c t d k : ℕ) → c ≤ k → times_below c t d k ≡ t
now_at c t d k le = rw (le-ltb k c le) refl

pub later_at : (c t d k : ℕ) → k < c → times_below c t d k ≡ t + d
later_at c t d k less = rw (lt-ltb k c less) refl

pub times_up : (c t d k : ℕ) → times_below c t d k ≤ times_below (c + 1) t d k
times_up c t d k = elim (cases_lt k c) [
  | inl less ↦ omega (arith, later_at c t d k less, later_at (c + 1) t d k (omega (arith, less)))
  | inr over ↦ elim (cases_lt k (c + 1)) [
    | inl less ↦ omega (arith, now_at c t d k over, later_at (c + 1) t d k less)
    | inr past ↦ omega (arith, now_at c t d k over, now_at (c + 1) t d k past)
  ]
]

pub times_same : (c t d k : ℕ) → k ≢ c → times_below (c + 1) t d k ≡ times_below c t d k
times_same c t d k apart = elim (cases_lt k c) [
  | inl less ↦ later_at (c + 1) t d k (omega (arith, less)) ∙ sym (later_at c t d k less)
  | inr over ↦ now_at (c + 1) t d k (omega (arith, over, apart)) ∙ sym (now_at c t d k over)
]

-- one processor more goes on
pub goes_next : (p : Plan) (c t d : ℕ) → GoesOn (λ i. (declared_task p i).cpu) c d (times_below c t d) (times_below (c + 1) t d)
goes_next p c t d = record {
  own = later_at (c + 1) t d c (omega arith) ∙ sym (ap (λ (n : ℕ). n + d) (now_at c t d c (omega arith)));
  others = λ i apart. times_same c t d (declared_task p i).cpu apart;
  up = times_up c t d;
}

-- ---- what is left falls with the time

fewer : (xs ys : List ℕ) → length ys ≡ length xs → ((j : ℕ) → get_or ys j 0 ≤ get_or xs j 0) → sum ys ≤ sum xs
fewer [] [] long each = omega arith
fewer [] (y ∷ ys) long each = absurd (omega (arith, long))
fewer (x ∷ xs) [] long each = absurd (omega (arith, long))
fewer (x ∷ xs) (y ∷ ys) long each =
    let rest = fewer xs ys (omega (arith, long)) (λ j. each (suc j)) in
    let here : y ≤ x = each 0 in
    omega (arith, here, rest, sum_by-cons (λ (n : ℕ). n) x xs, sum_by-cons (λ (n : ℕ). n) y ys)

pub falls : (xs ys : List ℕ) (i d : ℕ) → length ys ≡ length xs → ((j : ℕ) → get_or ys j 0 ≤ get_or xs j 0) → i < length xs → get_or ys i 0 + d ≤ get_or xs i 0 → sum ys + d ≤ sum xs
falls [] ys i d long each inside less = absurd (omega (arith, inside))
falls (x ∷ xs) [] i d long each inside less = absurd (omega (arith, long))
falls (x ∷ xs) (y ∷ ys) zero d long each inside less =
    let rest = fewer xs ys (omega (arith, long)) (λ j. each (suc j)) in
    let here : y + d ≤ x = less in
    omega (arith, here, rest, sum_by-cons (λ (n : ℕ). n) x xs, sum_by-cons (λ (n : ℕ). n) y ys)
falls (x ∷ xs) (y ∷ ys) (suc i) d long each inside less =
    let rest = falls xs ys i d (omega (arith, long)) (λ j. each (suc j)) (omega (arith, inside)) less in
    let here : y ≤ x = each 0 in
    omega (arith, here, rest, sum_by-cons (λ (n : ℕ). n) x xs, sum_by-cons (λ (n : ℕ). n) y ys)

-- ---- the start

module _ (p : Plan) (first : Simulation) (chosen : List (Option ℕ)) (d : ℕ) (s : Simulation) (h : HasStepped p first chosen cpu_count s) (jump : IsJump p first.run chosen d) where
  pub starts_serving : HasServed p first chosen d 0 s
  starts_serving =
      let e = h.event in
      let b = first.run.released in
      let t = first.run.time in
      let events = jump_made p (services p) (services-are p) b t d jump.some (early p first chosen e d jump) jump.until.later (quiet_for p first chosen e d jump) (runs p first chosen e d jump) in
      let same = h.run in
      record {
        event = e;
        jump = jump;
        run = subst (λ (r : Run). IsRun p (cpus_at p (times_below 0 first.run.time d)) r) (sym same)
            (at_times p first.run (λ c. first.run.time) (times_below 0 first.run.time d) e.simulation.run (λ i il. now_at 0 first.run.time d (declared_task p i).cpu (omega arith)) (λ c. omega (arith, now_at 0 first.run.time d c (omega arith))));
        time = ap (λ (r : Run). r.time) same;
        released = ap (λ (r : Run). r.released) same;
        rest = λ i. ap (λ (r : Run). get_or r.rest.items i 0) same ∙ sym (ap (λ (o : Bool). if o then get_or first.run.rest.items i 0 - d else get_or first.run.rest.items i 0) (none_done p chosen i));
        recorded = subst (λ (r : Run). IsRecorded p All first.run.released (events_so_far p (services p) 0 first.run.released 0 (first.run.time + d)) (λ i. place_in p r i (is_open p chosen 0 i)) r.ends s.recorder) (sym same)
            (same_places p All first.run.released (events_so_far p (services p) cpu_count first.run.released cpu_count first.run.time) (events_so_far p (services p) 0 first.run.released 0 (first.run.time + d))
            (λ i. place_in p first.run i (is_done p chosen cpu_count i)) (λ i. place_in p first.run i (is_open p chosen 0 i)) first.run.ends s.recorder h.recorded events
            (λ i il. ap (place_in p first.run i) (sym (all_done p chosen i il))));
        few = subst (λ (r : Run). length (events_so_far p (services p) 0 first.run.released 0 (first.run.time + d)) + 0 ≤ most_steps p r + chosen_steps p first.run chosen cpu_count) (sym same)
            (let l = ap length events in let f = h.few in omega (arith, l, f));
        keeps = h.keeps;
      }

-- ---- one processor more

module _ (p : Plan) (first : Simulation) (chosen : List (Option ℕ)) (d c : ℕ) (s : Simulation) (h : HasServed p first chosen d c s) where
  -- it serves nobody
  pub skips_serving : c < cpu_count → get_or chosen c None ≡ None → HasServed p first chosen d (c + 1) s
  skips_serving small none =
      let e = h.event in
      let b = first.run.released in
      let t = first.run.time in
      let idle = none_at p first chosen e c small none in
      let events = none_ends p (services p) (services-are p) b t d h.jump.some (early p first chosen e d h.jump) h.jump.until.later (quiet_for p first chosen e d h.jump) (runs p first chosen e d h.jump) c idle in
      let more = next_steps p first.run chosen c in
      let own = ap (own_steps p first.run) none in
      let unserved : (y : Instance) → served_ticks (services p c) y (times_below c t d c + d) ≡ served_ticks (services p c) y (times_below c t d c) = λ y.
      subst (λ (n : ℕ). served_ticks (services p c) y (n + d) ≡ served_ticks (services p c) y n) (sym (now_at c t d c (omega arith)))
      (rests_there p (services p) (services-are p) t d (quiet_for p first chosen e d h.jump) (runs p first chosen e d h.jump) c y (λ is. let z : None ≡ Some y = sym idle ∙ is in absurd (cc)) d (omega arith)) in
      record {
        event = e;
        jump = h.jump;
        run = record {
          at = rests_on p (λ i. (declared_task p i).cpu) (services p) s.run.released (times_below c t d) s.run.rest.items s.run.ends h.run.at c d (times_below (c + 1) t d) (goes_next p c t d) unserved;
          tracks = h.run.tracks;
          ahead = h.run.ahead;
          bounded = h.run.bounded;
          below = h.run.below;
        };
        time = h.time;
        released = h.released;
        rest = λ i. h.rest i ∙ ap (λ (o : Bool). if o then get_or first.run.rest.items i 0 - d else get_or first.run.rest.items i 0) (sym (done_other p chosen c i (nobody chosen c i none)));
        recorded = same_places p All first.run.released (events_so_far p (services p) c first.run.released 0 (first.run.time + d)) (events_so_far p (services p) (c + 1) first.run.released 0 (first.run.time + d))
            (λ i. place_in p s.run i (is_open p chosen c i)) (λ i. place_in p s.run i (is_open p chosen (c + 1) i)) s.run.ends s.recorder h.recorded events
            (λ i il. ap (place_in p s.run i) (open_other p chosen c i (nobody chosen c i none)));
        few = omega (arith, h.few, ap length events, more, own);
        keeps = h.keeps;
      }

  -- the task's instance is served
  module _ (i : ℕ) (next : IsNext chosen c i) where
    at : IsChosen p first chosen h.event c i
    at = chosen_at p first chosen h.event c i next

    -- nothing of it was served yet since the event
    pub rest_yet : get_or s.run.rest.items i 0 ≡ get_or first.run.rest.items i 0
    rest_yet = h.rest i ∙ ap (λ (o : Bool). if o then get_or first.run.rest.items i 0 - d else get_or first.run.rest.items i 0) (not_done p chosen c i next at.own)

    pub fits : d ≤ get_or first.run.rest.items i 0
    fits = h.jump.fits c i next.small next.there

    pub small_there : i < length p.diagram.tasks
    small_there = at.small

    pub is_served_for : IsServedFor p (cpus_at p (times_below c first.run.time d)) s.run i d
    is_served_for =
        let ran = runs_there p (services p) (services-are p) first.run.time d (quiet_for p first chosen h.event d h.jump) (runs p first chosen h.event d h.jump) c (last_of p first.run.released i) at.serves d (omega arith) in
        rw (h.released, at.own, now_at c first.run.time d c (omega arith)) ran

    pub own_cpu : (declared_task p i).cpu ≡ c
    own_cpu = at.own

    -- the same by the time of the run and the processor of the task
    pub run_here : IsRun p (cpus_at p (times_below (declared_task p i).cpu s.run.time d)) s.run
    run_here =
        subst (λ (k : ℕ). IsRun p (cpus_at p (times_below k s.run.time d)) s.run) (sym at.own)
        (subst (λ (t : ℕ). IsRun p (cpus_at p (times_below c t d)) s.run) (sym h.time) h.run)

    pub served_here : IsServedFor p (cpus_at p (times_below (declared_task p i).cpu s.run.time d)) s.run i d
    served_here =
        subst (λ (k : ℕ). IsServedFor p (cpus_at p (times_below k s.run.time d)) s.run i d) (sym at.own)
        (subst (λ (t : ℕ). IsServedFor p (cpus_at p (times_below c t d)) s.run i d) (sym h.time) is_served_for)

    pub run_after : (r : Run) → IsRun p (cpus_at p (times_below ((declared_task p i).cpu + 1) s.run.time d)) r → IsRun p (cpus_at p (times_below (c + 1) first.run.time d)) r
    run_after r run =
        subst (λ (k : ℕ). IsRun p (cpus_at p (times_below (k + 1) first.run.time d)) r) at.own
        (subst (λ (t : ℕ). IsRun p (cpus_at p (times_below ((declared_task p i).cpu + 1) t d)) r) h.time run)

    pub room_here : length (events_so_far p (services p) c first.run.released 0 (first.run.time + d)) ≤ 571000000
    room_here = omega (arith, h.few, most_few p (cpus_at p (times_below c first.run.time d)) s.run h.run, chosen_few p first chosen h.event cpu_count (omega arith))

    -- after its last read, if nothing is left of it
    pub is_shut : d ≡ get_or first.run.rest.items i 0 → (task (state_in s.recorder) i).part.place ≡ Shut
    is_shut all =
        let served = served_before p first.run i in
        let n : ℕ = length (declared_task p i).reads in
        let reads = same_early p i (served + 1) (served + d) (λ m le lt. (runs_at p first chosen h.event d h.jump c i next).no_read m (omega (arith, le)) lt) (let f = h.jump.some in omega (arith, f)) in
        let count : early_reads p i (served + 1) ≡ n =
        sym reads ∙ ap (early_reads p i) (let e : served + d ≡ (declared_task p i).cost = omega (arith, all, at.within) in e) ∙ all_reads_early p i at.small in
        h.recorded.place i at.small ∙ ap (place_in p s.run i) (open_before p chosen c i next at.own)
        ∙ ap (λ (m : ℕ). place_after p i ((declared_task p i).cost - m + 1)) rest_yet ∙ ap (read_place n) count ∙ rw (le-ltb n n (omega arith)) refl

    -- one that goes on, or ends, changes no other task
    other_place : (s' : Simulation) → ((j : ℕ) → j ≢ i → get_or s'.run.rest.items j 0 ≡ get_or s.run.rest.items j 0) → (j : ℕ) → j ≢ i
        → place_in p s'.run j (is_open p chosen (c + 1) j) ≡ place_in p s.run j (is_open p chosen c j)
    other_place s' others j apart =
        ap (place_in p s'.run j) (open_other p chosen c j (no_other chosen c i j next apart))
        ∙ ap (λ (n : ℕ). if is_open p chosen c j then place_after p j ((declared_task p j).cost - n + 1) else place_of p j n) (others j apart)

    rests_after : (s' : Simulation) → ((j : ℕ) → j ≢ i → get_or s'.run.rest.items j 0 ≡ get_or s.run.rest.items j 0) → get_or s'.run.rest.items i 0 ≡ get_or first.run.rest.items i 0 - d
        → (j : ℕ) → get_or s'.run.rest.items j 0 ≡ (if is_done p chosen (c + 1) j then get_or first.run.rest.items j 0 - d else get_or first.run.rest.items j 0)
    rests_after s' others here j = ⊎_elim
        (λ (e : j ≡ i). subst (λ (k : ℕ). get_or s'.run.rest.items k 0 ≡ (if is_done p chosen (c + 1) k then get_or first.run.rest.items k 0 - d else get_or first.run.rest.items k 0)) (sym e)
        (here ∙ sym (ap (λ (o : Bool). if o then get_or first.run.rest.items i 0 - d else get_or first.run.rest.items i 0) (done_after p chosen c i next at.own))))
        (λ (apart : j ≢ i). others j apart ∙ h.rest j
        ∙ ap (λ (o : Bool). if o then get_or first.run.rest.items j 0 - d else get_or first.run.rest.items j 0) (sym (done_other p chosen c j (no_other chosen c i j next apart))))
        (cases_eq j i)

    -- it goes on
    pub pauses : (s' : Simulation) → d < get_or first.run.rest.items i 0 → IsRun p (cpus_at p (times_below (c + 1) first.run.time d)) s'.run → s'.run.time ≡ s.run.time → s'.run.released ≡ s.run.released
        → s'.run.rest.items ≡ set s.run.rest.items i (get_or s.run.rest.items i 0 - d) → s'.run.ends ≡ s.run.ends → s'.recorder ≡ s.recorder → HasServed p first chosen d (c + 1) s'
    pauses s' short run time released rest' ends recorder =
        let e = h.event in
        let b = first.run.released in
        let t = first.run.time in
        let rest = get_or first.run.rest.items i 0 in
        let served = served_before p first.run i in
        let inside : i < length s.run.rest.items = omega (arith, h.run.at.rests, at.small) in
        let here : get_or s'.run.rest.items i 0 ≡ rest - d = ap (λ (l : List ℕ). get_or l i 0) rest' ∙ get_or-set_same s.run.rest.items i (get_or s.run.rest.items i 0 - d) 0 inside ∙ ap (λ (n : ℕ). n - d) rest_yet in
        let others : (j : ℕ) → j ≢ i → get_or s'.run.rest.items j 0 ≡ get_or s.run.rest.items j 0 = λ j ne. ap (λ (l : List ℕ). get_or l j 0) rest' ∙ get_or-set_other s.run.rest.items i j (get_or s.run.rest.items i 0 - d) 0 ne in
        let lists : (j : ℕ) → j ≢ i → length (get_or s'.run.ends j []) ≡ length (get_or s.run.ends j []) = λ j ne. ap (λ (l : List (List ℕ)). length (get_or l j [])) ends in
        let events = one_goes_on p (services p) (services-are p) b t d h.jump.some (early p first chosen e d h.jump) h.jump.until.later (quiet_for p first chosen e d h.jump) (runs p first chosen e d h.jump) c (last_of p b i) at.serves
        (let l : left_on p (services p) (last_of p b i) t ≡ rest = at.left in omega (arith, l, short)) in
        let reads = same_early p i (served + 1) (served + d) (λ n le lt. (runs_at p first chosen e d h.jump c i next).no_read n (omega (arith, le)) lt) (let f = h.jump.some in omega (arith, f)) in
        let reach : (declared_task p i).cost - (rest - d) ≡ served + d = omega (arith, at.within, short) in
        let place : place_in p s'.run i (is_open p chosen (c + 1) i) ≡ place_in p s.run i (is_open p chosen c i) =
        ap (place_in p s'.run i) (not_open p chosen c i next at.own) ∙ ap (place_of p i) here ∙ place_some p i (rest - d) (omega (arith, short)) (let f = h.jump.some in omega (arith, f, at.within, short))
        ∙ ap (place_after p i) reach ∙ ap (read_place (length (declared_task p i).reads)) reads ∙ ap (λ (n : ℕ). place_after p i ((declared_task p i).cost - n + 1)) (sym rest_yet)
        ∙ sym (ap (place_in p s.run i) (open_before p chosen c i next at.own)) in
        let more = next_steps p first.run chosen c in
        let own = ap (own_steps p first.run) next.there in
        let steps = paused_steps p i at.small rest d h.jump.some short at.within in
        let changed = one_changed p s.run.rest.items s'.run.rest.items s.run.ends s'.run.ends i others lists (length p.diagram.tasks) at.small in
        let before = ap (step_bound p i) rest_yet in
        let after = ap (step_bound p i) here in
        let list = ap (λ (l : List (List ℕ)). length (get_or l i [])) ends in
        let long = ap length events in
        let occ = ap (λ (n : ℕ). 131 * occurrence_count (take n p.batches)) released in
        record {
          event = e;
          jump = h.jump;
          run = run;
          time = time ∙ h.time;
          released = released ∙ h.released;
          rest = rests_after s' others here;
          recorded = rw (ends, recorder) (same_places p All first.run.released (events_so_far p (services p) c first.run.released 0 (first.run.time + d)) (events_so_far p (services p) (c + 1) first.run.released 0 (first.run.time + d))
              (λ j. place_in p s.run j (is_open p chosen c j)) (λ j. place_in p s'.run j (is_open p chosen (c + 1) j)) s.run.ends s.recorder h.recorded events
              (λ j jl. ⊎_elim
              (λ (same : j ≡ i). subst (λ (k : ℕ). place_in p s'.run k (is_open p chosen (c + 1) k) ≡ place_in p s.run k (is_open p chosen c k)) (sym same) place)
              (other_place s' others j)
              (cases_eq j i)));
          few = omega (arith, h.few, long, more, own, steps, changed, before, after, list, occ);
          keeps = ap (λ (r : Recorder). is_some (record_in r)) recorder ∙ h.keeps;
        }

    -- it ends
    pub finishes : (s' : Simulation) → d ≡ get_or first.run.rest.items i 0 → IsRun p (cpus_at p (times_below (c + 1) first.run.time d)) s'.run → s'.run.time ≡ s.run.time → s'.run.released ≡ s.run.released
        → s'.run.rest.items ≡ set s.run.rest.items i 0 → (v : ℕ) → s'.run.ends ≡ set s.run.ends i (get_or s.run.ends i [] ++ v ∷ [])
        → AddsPiece s.recorder s'.recorder (end_events (plan_in s.recorder) i) i ((task (state_in s.recorder) i).part.ended + 1) Idle
        → HasEndedRows (plan_in s'.recorder) (state_in s'.recorder) (table_in s'.recorder) → HasServed p first chosen d (c + 1) s'
    finishes s' all run time released rest' v ends adds rows =
        let e = h.event in
        let b = first.run.released in
        let t = first.run.time in
        let rest = get_or first.run.rest.items i 0 in
        let inside : i < length s.run.rest.items = omega (arith, h.run.at.rests, at.small) in
        let inside' : i < length s.run.ends = omega (arith, h.run.at.lists, at.small) in
        let none : get_or s'.run.rest.items i 0 ≡ 0 = ap (λ (l : List ℕ). get_or l i 0) rest' ∙ get_or-set_same s.run.rest.items i 0 0 inside in
        let here : get_or s'.run.rest.items i 0 ≡ rest - d = omega (arith, none, all) in
        let others : (j : ℕ) → j ≢ i → get_or s'.run.rest.items j 0 ≡ get_or s.run.rest.items j 0 = λ j ne. ap (λ (l : List ℕ). get_or l j 0) rest' ∙ get_or-set_other s.run.rest.items i j 0 0 ne in
        let lists : (j : ℕ) → j ≢ i → length (get_or s'.run.ends j []) ≡ length (get_or s.run.ends j []) =
        λ j ne. ap (λ (l : List (List ℕ)). length (get_or l j [])) ends ∙ ap length (get_or-set_other s.run.ends i j (get_or s.run.ends i [] ++ v ∷ []) [] ne) in
        let own_list : length (get_or s'.run.ends i []) ≡ length (get_or s.run.ends i []) + 1 =
        ap (λ (l : List (List ℕ)). length (get_or l i [])) ends ∙ ap length (get_or-set_same s.run.ends i (get_or s.run.ends i [] ++ v ∷ []) [] inside') ∙ length-append (get_or s.run.ends i []) (v ∷ []) in
        let so_far = events_so_far p (services p) c first.run.released 0 (first.run.time + d) in
        let events : events_so_far p (services p) (c + 1) first.run.released 0 (first.run.time + d) ≡ so_far ++ end_events p i =
        one_ends p (services p) (services-are p) b t d h.jump.some (early p first chosen e d h.jump) h.jump.until.later (quiet_for p first chosen e d h.jump) (runs p first chosen e d h.jump) c (last_of p b i) at.serves (all ∙ sym at.left) in
        let piece : AddsPiece s.recorder s'.recorder (end_events p i) i ((task (state_in s.recorder) i).part.ended + 1) Idle =
        subst (λ (q : Plan). AddsPiece s.recorder s'.recorder (end_events q i) i ((task (state_in s.recorder) i).part.ended + 1) Idle) h.recorded.plan adds in
        let plan : plan_in s'.recorder ≡ p = adds.steps.plan ∙ h.recorded.plan in
        let more = next_steps p first.run chosen c in
        let own = ap (own_steps p first.run) next.there in
        let steps = ended_steps p i at.small rest at.some at.within in
        let changed = one_changed p s.run.rest.items s'.run.rest.items s.run.ends s'.run.ends i others lists (length p.diagram.tasks) at.small in
        let before = ap (step_bound p i) rest_yet in
        let after : step_bound p i (get_or s'.run.rest.items i 0) ≡ 0 = ap (step_bound p i) none in
        let long = ap length events in
        let one = length-append so_far (end_events p i) in
        let occ = ap (λ (n : ℕ). 131 * occurrence_count (take n p.batches)) released in
        record {
          event = e;
          jump = h.jump;
          run = run;
          time = time ∙ h.time;
          released = released ∙ h.released;
          rest = rests_after s' others here;
          recorded = subst (λ (l : List Event). IsRecorded p All first.run.released l (λ j. place_in p s'.run j (is_open p chosen (c + 1) j)) s'.run.ends s'.recorder) (sym events)
              (adds_piece p All s.recorder s'.recorder first.run.released so_far (λ j. place_in p s.run j (is_open p chosen c j)) s.run.ends h.recorded
              (end_events p i) i ((task (state_in s.recorder) i).part.ended + 1) Idle (λ j. place_in p s'.run j (is_open p chosen (c + 1) j)) s'.run.ends piece
              (ap (place_in p s'.run i) (not_open p chosen c i next at.own) ∙ ap (place_of p i) none)
              (other_place s' others)
              (let n = h.recorded.ended i at.small in omega (arith, n, own_list)) lists
              (subst (λ (q : Plan). HasEndedRows q (state_in s'.recorder) (table_in s'.recorder)) plan rows));
          few = omega (arith, h.few, long, one, more, own, steps, changed, before, after, own_list, occ);
          keeps = still_kept _ _ _ adds.steps ∙ h.keeps;
        }

-- ---- all processors have served

module _ (p : Plan) (first : Simulation) (chosen : List (Option ℕ)) (d : ℕ) (s : Simulation) (h : HasServed p first chosen d cpu_count s) where
  pub all_later : IsRun p (all_cpus_at p (first.run.time + d)) s.run
  all_later =
      at_times p s.run (times_below cpu_count first.run.time d) (λ c. first.run.time + d) h.run (λ i il. sym (later_at cpu_count first.run.time d (declared_task p i).cpu (small_cpu p i il))) (λ k. elim (cases_lt k cpu_count) [
        | inl less ↦ omega (arith, later_at cpu_count first.run.time d k less)
        | inr over ↦ omega (arith, now_at cpu_count first.run.time d k over)
      ])

  no_more_left : (i : ℕ) → get_or s.run.rest.items i 0 ≤ get_or first.run.rest.items i 0
  no_more_left i = elim (cases_Bool (is_done p chosen cpu_count i)) [
    | inl done ↦ let e = h.rest i ∙ ap (λ (o : Bool). if o then get_or first.run.rest.items i 0 - d else get_or first.run.rest.items i 0) done in omega (arith, e)
    | inr not_it ↦ let e = h.rest i ∙ ap (λ (o : Bool). if o then get_or first.run.rest.items i 0 - d else get_or first.run.rest.items i 0) not_it in omega (arith, e)
  ]

  -- if one is chosen, what is left has fallen by as much as the time goes on
  pub bounded_later : (c i : ℕ) → IsNext chosen c i → s.run.time + d + sum s.run.rest.items ≤ latest s.run.released
  bounded_later c i next =
      let at = chosen_at p first chosen h.event c i next in
      let run = h.event.simulation.run in
      let cpu = small_cpu p i at.small in
      let fit = h.jump.fits c i next.small next.there in
      let done : is_done p chosen cpu_count i ≡ true =
      all_done p chosen i at.small ∙ is_open_first p chosen c i next at.own in
      let less = h.rest i ∙ ap (λ (o : Bool). if o then get_or first.run.rest.items i 0 - d else get_or first.run.rest.items i 0) done in
      let fall = falls first.run.rest.items s.run.rest.items i d (h.run.at.rests ∙ sym run.at.rests) no_more_left (omega (arith, at.small, run.at.rests)) (omega (arith, less, fit)) in
      rw h.released (omega (arith, fall, run.bounded, h.time))

  pub served_all : (r : Run) → IsRun p (all_cpus_at p r.time) r → r.time ≡ first.run.time + d → r.released ≡ s.run.released → r.rest ≡ s.run.rest → r.ends ≡ s.run.ends → IsSimulation p (record { run = r; recorder = s.recorder })
  served_all r run time released rest ends = record {
    run = run;
    recorded = rw (released ∙ h.released, time, rest, ends) (same_places p All first.run.released (events_so_far p (services p) cpu_count first.run.released 0 (first.run.time + d)) (events_so_far p (services p) cpu_count first.run.released 0 (first.run.time + d))
        (λ i. place_in p s.run i (is_open p chosen cpu_count i)) (λ i. place_of p i (get_or s.run.rest.items i 0)) s.run.ends s.recorder h.recorded refl
        (λ i il. sym (ap (place_in p s.run i) (none_open p chosen i il))));
    few =
        let most : most_steps p s.run ≡ most_steps p r = rw (released, rest, ends) refl in
        let list : events_so_far p (services p) cpu_count r.released 0 r.time ≡ events_so_far p (services p) cpu_count first.run.released 0 (first.run.time + d) =
        ap (λ (n : ℕ). events_so_far p (services p) cpu_count n 0 r.time) (released ∙ h.released) ∙ ap (events_so_far p (services p) cpu_count first.run.released 0) time in
        omega (arith, h.few, most, ap length list);
  }
