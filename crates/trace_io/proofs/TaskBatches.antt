-- The tasks of a diagram have batches, if they don't occur too often.
use Rattle.std.proofs.Common.{◌≡◌, ℕ, zero, suc, ◌+◌, ◌<◌, ◌≤◌, All, List, [], ◌∷◌, ◌++◌, length, map, replicate, get_or, set, Option, refl, sym, ap, ◌∙◌, subst, inl, inr, ◌⊎◌, arith}
use Rattle.std.specs.Prelude.{min, slice_index, unwrap_or}
use Rattle.std.specs.List.{range_with_len}
use Rattle.std.specs.List.Sorted.{IsStrictlyIncreasing}
use Rattle.std.specs.Option.{option_map}
use Rattle.std.proofs.lemmas.Bool.{cases_Bool, cases_lt}
use Rattle.std.proofs.lemmas.List.{get_or_default, length-map}
use Rattle.std.proofs.lemmas.List.Elements.{All-filter, All-map}
use Rattle.std.proofs.lemmas.List.FromFn.{get_or-map-range_with_len, length-map-range_with_len}
use Rattle.std.proofs.lemmas.List.Kept.{IsStrictlyIncreasing-filter}
use Rattle.std.proofs.lemmas.Option.{slice_get-get_or, slice_get-map}
use Rattle.dbp_plan.specs.declared.diagram.Clock.{Clock}
use Rattle.dbp_plan.specs.declared.diagram.Clock.TheVariants.{Every, On}
use Rattle.dbp_plan.specs.declared.diagram.Diagram.{Diagram}
use Rattle.dbp_plan.specs.declared.diagram.Task.{Task}
use Rattle.dbp_plan.specs.declared.limits.TheConstants.{MAX_OCCURRENCES}
use Rattle.dbp_plan.specs.declared.schedule.Batch.{Batch}
use Rattle.dbp_plan.specs.declared.schedule.Sample.{Sample}
use Rattle.dbp_plan.specs.Clocks.{base_times, is_on, time_at}
use Rattle.dbp_plan.specs.ListItems.{same_list}
use Rattle.dbp_plan.proofs.OwnSamples.{range-place}
use Rattle.trace_io.specs.Batches.{AreBatches, times_in, total_of}
use Rattle.trace_io.specs.Counts.{IsClockOf, IsTimetable}
use Rattle.trace_io.specs.Merging.{AreMerged, AreNext, IsLeast, TakesDue, is_at, next_of, ticks_of}
use Rattle.trace_io.proofs.Due.{least-more, least-none, pass-one, take-one}
use Rattle.trace_io.proofs.MergeClocks.{base-ends, base-rising, merged-tasks, same-total}
use Rattle.trace_io.proofs.Merges.{Merged, after, after-push, least-next, merge-end, merge-step, merged-none, none-next}

-- ---- the least of some times

abbrev Least : ℕ → List ℕ → ℕ → Type 0
Least until times n = (least : ℕ) × IsLeast until times n least

least-of : (until : ℕ) (times : List ℕ) (n : ℕ) → Least until times n
least-of until times zero = (until, least-none until times)
least-of until times (suc n) =
    let (least, is) = least-of until times n in
    let one_more : n + 1 ≡ suc n = omega arith in
    subst (Least until times) one_more (min least (slice_index times n), least-more until times n least is)

-- ---- the merge of clocks, batch by batch

module _ (until : ℕ) (events : List (List ℕ)) (clocks : List Clock) (table : IsTimetable until events) (are : All (IsClockOf (length events)) clocks) where
  module _ (taken : List ℕ) where
    -- the clock's next occurrence, with this clock for one that isn't there
    abbrev next : ℕ → Clock → Option ℕ
    next i d = next_of until events clocks taken i d

    same-next : (i : ℕ) (d e : Clock) → i < length clocks → next i d ≡ next i e
    same-next i d e inside = ap (λ c. time_at until events c (get_or taken i 0)) (get_or_default clocks i d e inside)

    abbrev next_time : ℕ → ℕ
    next_time i = unwrap_or (next i (Every 0 0)) until

    abbrev next_times : List ℕ
    next_times = map next_time (range_with_len 0 (length clocks))

    are-next : AreNext until events clocks taken next_times
    are-next = (
      length-map-range_with_len next_time 0 (length clocks),
      λ i d inside.
          get_or-map-range_with_len next_time 0 (length clocks) i i 0 inside (omega arith) ∙ ap (λ o. unwrap_or o until) (same-next i (Every 0 0) d inside),
    )

    -- of the first n clocks those whose next occurrence is at this time
    abbrev Due : ℕ → ℕ → Type 0
    Due time n = (more : List ℕ) × (tasks : List ℕ) × TakesDue until events clocks taken more time n tasks

    due-more : (time n : ℕ) → n < length clocks → length taken ≡ length clocks → Due time n → Due time (n + 1)
    due-more time n inside places (more, tasks, due) =
        let all : (d : Clock) → is_at time (next n d) ≡ is_at time (next n (Every 0 0)) = λ d. ap (is_at time) (same-next n d (Every 0 0) inside) in
        elim (cases_Bool (is_at time (next n (Every 0 0)))) [
          | inl here ↦ (set more n (get_or more n 0 + 1), tasks ++ n ∷ [], take-one until events clocks taken more time n tasks (omega (arith, places, inside)) due (λ d. all d ∙ here))
          | inr later ↦ (more, tasks, pass-one until events clocks taken more time n tasks due (λ d. all d ∙ later))
        ]

    due-of : (time n : ℕ) → n ≤ length clocks → length taken ≡ length clocks → Due time n
    due-of time zero inside places = (
      taken,
      [],
      record {
        in_order = λ k below. absurd (omega arith);
        named = λ k d below. absurd (omega arith);
        due = λ i d below. absurd (omega arith);
        places = refl;
        moved = λ i d below. absurd (omega arith);
        kept = λ i below. refl;
        counted = omega arith;
      },
    )
    due-of time (suc n) inside places =
        let next_one : n + 1 ≡ suc n = omega arith in
        subst (Due time) next_one (due-more time n (omega arith) places (due-of time n (omega arith) places))

  abbrev Batches : Type 0
  Batches = (batches : List Batch) × AreMerged until events clocks batches

  -- a batch after those that were made
  abbrev OneMore : List Batch → Type 0
  OneMore made = (taken : List ℕ) × (b : Batch) × Merged until events clocks taken (made ++ b ∷ []) × (after made ≤ b.time) × (b.time < until)

  module _ (few : ticks_of until events clocks ≤ MAX_OCCURRENCES) where
    turn : (taken : List ℕ) (made : List Batch) → Merged until events clocks taken made → Batches ⊎ OneMore made
    turn taken made merged =
        let (time, least) = least-of until (next_times taken) (length clocks) in
        elim (cases_lt time until) [
          | inl early ↦
              let next = least-next until events clocks taken (next_times taken) time (are-next taken) least early in
              let (more, tasks, due) = due-of taken time (length clocks) (omega arith) merged.places in
              let step = merge-step until events clocks taken more made time tasks table are merged next due in
              inr (more, record { time = time; tasks = tasks }, step.0, step.1, step.2)
          | inr late ↦ inl (made, merge-end until events clocks taken made are few merged (none-next until events clocks taken (next_times taken) time table are (are-next taken) least late))
        ]

    -- in so many turns at most
    all-turns : (turns : ℕ) (taken : List ℕ) (made : List Batch) → Merged until events clocks taken made → until ≤ after made + turns → Batches
    all-turns zero taken made merged room = elim (turn taken made merged) [
      | inl all ↦ all
      | inr more ↦ absurd (omega (arith, more.3, more.4, room))
    ]
    all-turns (suc turns) taken made merged room = elim (turn taken made merged) [
      | inl all ↦ all
      | inr more ↦ all-turns turns more.0 (made ++ more.1 ∷ []) more.2 (omega (arith, after-push made more.1 more.3, more.3, room))
    ]

    merged-batches : Batches
    merged-batches = all-turns until (replicate (length clocks) 0) [] (merged-none until events clocks) (omega arith)

-- ---- the tasks of a diagram: each has an event of its own, which has the task's times

module _ (d : Diagram) (samples : List Sample) (events : List (List ℕ)) (table : IsTimetable d.until events) (are : All (λ t. IsClockOf (length events) t.clock) d.tasks) where
  abbrev own_events : List (List ℕ)
  own_events = map (times_in d samples events) d.tasks

  abbrev own_clocks : List Clock
  own_clocks = map On (range_with_len 0 (length d.tasks))

  size : length own_events ≡ length d.tasks
  size = length-map d.tasks (times_in d samples events)

  clocks-there : All (IsClockOf (length own_events)) own_clocks
  clocks-there k c below =
      let inside : k < length d.tasks = omega (arith, below, length-map-range_with_len On 0 (length d.tasks)) in
      subst (IsClockOf (length own_events)) (sym (get_or-map-range_with_len On 0 (length d.tasks) k k c inside (omega arith))) (omega (arith, inside, size))

  same-times : map (base_times d.until own_events) own_clocks ≡ own_events
  same-times =
      let times = base_times d.until own_events in
      let count : length (map times own_clocks) ≡ length d.tasks = length-map own_clocks times ∙ length-map-range_with_len On 0 (length d.tasks) in
      same_list (map times own_clocks) own_events (count ∙ sym size) (λ k below.
      slice_get-map times own_clocks k ∙ ap (option_map times) (range-place On (length d.tasks) k (omega (arith, below, count)))
      ∙ sym (slice_get-get_or own_events k [] (omega (arith, below, count, size))))

  own-table : IsTimetable d.until own_events
  own-table = record {
    last = table.last;
    rising = All-map IsStrictlyIncreasing (times_in d samples events) d.tasks (λ k e below.
        let t : Task = get_or d.tasks k e in
        IsStrictlyIncreasing-filter (is_on d.inputs samples t.when) (base_times d.until events t.clock) (base-rising d.until events t.clock (are k e below) table));
    ends = All-map (All (λ u. u < d.until)) (times_in d samples events) d.tasks (λ k e below.
        let t : Task = get_or d.tasks k e in
        All-filter (is_on d.inputs samples t.when) (λ u. u < d.until) (base_times d.until events t.clock) (base-ends d.until events t.clock (are k e below) table));
  }

  pub task-batches : total_of d samples events ≤ MAX_OCCURRENCES → (batches : List Batch) × AreBatches d samples events batches
  task-batches few =
      let total = same-total d samples events own_events own_clocks clocks-there same-times in
      let (made, merged) = merged-batches d.until own_events own_clocks own-table clocks-there (omega (arith, total, few)) in
      (made, merged-tasks d samples events own_events own_clocks made clocks-there same-times merged)
