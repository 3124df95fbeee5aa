-- What is handed to the merge: the clocks of tasks without a `when`, and for each task with one an event that has the task's times.
use Rattle.std.proofs.Common.{◌≡◌, ℕ, suc, ◌+◌, ◌<◌, ◌≤◌, List, [], ◌∷◌, ◌++◌, length, take, get_or, map, slice_get, Option, Some, None, refl, sym, ap, subst, ◌∙◌, arith, inl, inr}
use Rattle.std.specs.Prelude.{All, filter, not, pos, sum_by}
use Rattle.std.specs.Ordering.{int_eq}
use Rattle.std.specs.Option.{option_map}
use Rattle.std.specs.List.Sorted.{IsNonDecreasingBy, IsStrictlyIncreasing}
use Rattle.std.proofs.lemmas.Bool.{cases_lt}
use Rattle.std.proofs.lemmas.Grind.{common_steps}
use Rattle.std.proofs.lemmas.List.{get_or_past, length-map, length_push, map-append}
use Rattle.std.proofs.lemmas.List.Elements.{All-filter, All-get_or, All-push}
use Rattle.std.proofs.lemmas.List.Kept.{IsStrictlyIncreasing-filter}
use Rattle.std.proofs.lemmas.List.Sums.{sum_by-cons}
use Rattle.std.proofs.lemmas.Option.{same_Some, slice_get-get_or, slice_get-map, slice_get_within}
use Rattle.dbp_plan.specs.declared.diagram.Clock.{Clock}
use Rattle.dbp_plan.specs.declared.diagram.Clock.TheVariants.{Every, On}
use Rattle.dbp_plan.specs.declared.diagram.Diagram.{Diagram}
use Rattle.dbp_plan.specs.declared.diagram.Input.{Input}
use Rattle.dbp_plan.specs.declared.diagram.Task.{Task}
use Rattle.dbp_plan.specs.declared.schedule.Batch.{Batch}
use Rattle.dbp_plan.specs.declared.schedule.Sample.{Sample}
use Rattle.dbp_plan.specs.Clocks.{base_times, is_on, periodic_times}
use Rattle.dbp_plan.specs.ListItems.{at_place, read_place, take_place}
use Rattle.dbp_plan.specs.Occurrences.{times_of}
use Rattle.dbp_plan.proofs.ClockTimes.{periodic_place, periodic_rises}
use Rattle.dbp_plan.proofs.InputValues.{input_until}
use Rattle.dbp_plan.proofs.ListMaps.{filter-all}
use Rattle.dbp_plan.proofs.ListParts.{take_push}
use Rattle.trace_io.specs.Batches.{AreBatches, times_in, total_of}
use Rattle.trace_io.specs.Counts.{HasNumbersInRange, IsClockOf, IsTimetable, count_of}
use Rattle.trace_io.specs.Guards.{AreAlike, HasItsSamples, HasMoreEvents, RiseInTime}
use Rattle.trace_io.specs.Merging.{AreMerged, ticks_of}
use Rattle.trace_io.specs.Spans.{is_on_by}
use Rattle.trace_io.proofs.Counting.{base-count, base-place, time-is}
use Rattle.trace_io.proofs.Merges.{in-range}

-- ---- the times of one task

-- a task without a `when` has all base times of its clock
pub plain-times : (d : Diagram) (samples : List Sample) (events : List (List ℕ)) (t : Task) → t.when ≡ None → times_in d samples events t ≡ base_times d.until events t.clock
plain-times d samples events t none =
    ap (λ (w : Option ℕ). filter (is_on d.inputs samples w) (base_times d.until events t.clock)) none ∙ filter-all (is_on d.inputs samples None) (base_times d.until events t.clock) (λ k e below. refl)

-- a task with one has those at which the input isn't 0, by the input's own samples
pub guarded-times : (d : Diagram) (samples : List Sample) (events : List (List ℕ)) (own : List (List Sample)) (t : Task) (input : ℕ) (i : Input) → t.when ≡ Some input → slice_get d.inputs input ≡ Some i
    → HasItsSamples samples own t → filter (is_on_by i.first (get_or own input [])) (base_times d.until events t.clock) ≡ times_in d samples events t
guarded-times d samples events own t input i is at its =
    ap (λ (ss : List Sample). filter (is_on_by i.first ss) (base_times d.until events t.clock)) (its input is)
    ∙ (λ j. filter (λ time. not (int_eq (input_until d.inputs samples input time i at j) (pos 0))) (base_times d.until events t.clock))
    ∙ ap (λ (w : Option ℕ). filter (is_on d.inputs samples w) (base_times d.until events t.clock)) (sym is)

-- the task that was read at a number is the one that stands there
pub same-task : (d : Diagram) (i : ℕ) (read t : Task) → i < length d.tasks → read ≡ get_or d.tasks i read → slice_get d.tasks i ≡ Some t → read ≡ t
same-task d i read t inside is at = same_Some read t (sym (read_place d.tasks i read inside is) ∙ at)

pub rising-at : (own : List (List Sample)) (input : ℕ) → RiseInTime own → IsNonDecreasingBy (λ s. s.time) (get_or own input [])
rising-at own input rise = elim (cases_lt input (length own)) [
  | inl inside ↦ rise input [] inside
  | inr past ↦ rw (get_or_past own input [] past) (λ i j d less below. absurd (omega (arith, below)))
]

-- ---- more events

pub no-more : (events : List (List ℕ)) → HasMoreEvents events events
no-more events = record { longer = omega arith; same = λ event inside. refl }

pub more-again : (a b c : List (List ℕ)) → HasMoreEvents a b → HasMoreEvents b c → HasMoreEvents a c
more-again a b c one two = record {
  longer = omega (arith, one.longer, two.longer);
  same = λ event inside. two.same event (omega (arith, inside, one.longer)) ∙ one.same event inside;
}

pub one-more : (events : List (List ℕ)) (times : List ℕ) → HasMoreEvents events (events ++ times ∷ [])
one-more events times = record {
  longer = omega (arith, length_push events times);
  same = λ event inside. grind (arith, common_steps);
}

-- a clock keeps its base times
pub base-more : (until : ℕ) (a b : List (List ℕ)) (clock : Clock) → IsClockOf (length a) clock → HasMoreEvents a b → base_times until b clock ≡ base_times until a clock
base-more until a b (Every period offset) is more = refl
base-more until a b (On event) is more = more.same event is

pub clock-more : (a b : ℕ) (clock : Clock) → a ≤ b → IsClockOf a clock → IsClockOf b clock
clock-more a b (Every period offset) less is = is
clock-more a b (On event) less is = omega (arith, is, less)

pub clocks-more : (a b : ℕ) (clocks : List Clock) → a ≤ b → All (IsClockOf a) clocks → All (IsClockOf b) clocks
clocks-more a b clocks less are = λ k d below. clock-more a b (get_or clocks k d) less (are k d below)

pub bases-more : (until : ℕ) (a b : List (List ℕ)) (clocks : List Clock) → All (IsClockOf (length a)) clocks → HasMoreEvents a b → map (base_times until b) clocks ≡ map (base_times until a) clocks
bases-more until a b [] are more = refl
bases-more until a b (clock ∷ clocks) are more =
    let first : base_times until b clock ≡ base_times until a clock = base-more until a b clock (are 0 clock (omega arith)) more in
    let rest : map (base_times until b) clocks ≡ map (base_times until a) clocks = bases-more until a b clocks (λ k d below. are (suc k) d (omega arith)) more in
    cc

-- one task more has its clock
pub merge-more : (d : Diagram) (samples : List Sample) (events now more : List (List ℕ)) (clocks : List Clock) (clock : Clock) (i : ℕ) (t : Task) → slice_get d.tasks i ≡ Some t → IsClockOf (length events) t.clock
    → HasMoreEvents events now → HasMoreEvents now more → All (IsClockOf (length now)) clocks → base_times d.until more clock ≡ times_in d samples now t
    → map (base_times d.until now) clocks ≡ map (times_in d samples events) (take i d.tasks) → map (base_times d.until more) (clocks ++ clock ∷ []) ≡ map (times_in d samples events) (take (i + 1) d.tasks)
merge-more d samples events now more clocks clock i t at is one two are times same =
    map-append (base_times d.until more) clocks (clock ∷ [])
    ∙ ap (λ (ts : List (List ℕ)). ts ++ base_times d.until more clock ∷ []) (bases-more d.until now more clocks are two ∙ same)
    ∙ ap (λ (ts : List ℕ). map (times_in d samples events) (take i d.tasks) ++ ts ∷ []) (times ∙ ap (filter (is_on d.inputs samples t.when)) (base-more d.until events now t.clock is one))
    ∙ sym (ap (map (times_in d samples events)) (take_push d.tasks i t at) ∙ map-append (times_in d samples events) (take i d.tasks) (t ∷ []))

-- tasks with one clock and one `when` have one list of times
pub alike-times : (d : Diagram) (samples : List Sample) (events : List (List ℕ)) (i j : ℕ) (a b : Task) → AreAlike d.tasks j i → slice_get d.tasks j ≡ Some a → slice_get d.tasks i ≡ Some b → times_in d samples events a ≡ times_in d samples events b
alike-times d samples events i j a b alike at_a at_b =
    let both = alike a b at_a at_b in
    λ k. filter (is_on d.inputs samples (both.1 k)) (base_times d.until events (both.0 k))

-- one task more has the clock of one before it that has its clock and its `when`
pub merge-again : (d : Diagram) (samples : List Sample) (events now : List (List ℕ)) (clocks : List Clock) (clock : Clock) (i j : ℕ) → AreAlike d.tasks j i → j < i → i < length d.tasks → slice_get clocks j ≡ Some clock
    → map (base_times d.until now) clocks ≡ map (times_in d samples events) (take i d.tasks) → map (base_times d.until now) (clocks ++ clock ∷ []) ≡ map (times_in d samples events) (take (i + 1) d.tasks)
merge-again d samples events now clocks clock i j alike before inside at same =
    let (a, at_a) = at_place d.tasks j (omega (arith, before, inside)) in
    let (b, at_b) = at_place d.tasks i inside in
    let first : base_times d.until now clock ≡ times_in d samples events a = same_Some (base_times d.until now clock) (times_in d samples events a)
    (ap (option_map (base_times d.until now)) (sym at) ∙ sym (slice_get-map (base_times d.until now) clocks j) ∙ ap (λ (ts : List (List ℕ)). slice_get ts j) same
    ∙ slice_get-map (times_in d samples events) (take i d.tasks) j ∙ ap (option_map (times_in d samples events)) (take_place d.tasks i j before ∙ at_a)) in
    let again : times_in d samples events a ≡ times_in d samples events b = alike-times d samples events i j a b alike at_a at_b in
    map-append (base_times d.until now) clocks (clock ∷ [])
    ∙ (λ k. same k ++ (first ∙ again) k ∷ [])
    ∙ sym (ap (map (times_in d samples events)) (take_push d.tasks i b at_b) ∙ map-append (times_in d samples events) (take i d.tasks) (b ∷ []))

-- ---- a timetable with one event more

pub base-rising : (until : ℕ) (events : List (List ℕ)) (clock : Clock) → IsClockOf (length events) clock → IsTimetable until events → IsStrictlyIncreasing (base_times until events clock)
base-rising until events (Every period offset) is table = periodic_rises until period offset is.0
base-rising until events (On event) is table = All-get_or IsStrictlyIncreasing events event [] is table.rising

pub base-ends : (until : ℕ) (events : List (List ℕ)) (clock : Clock) → IsClockOf (length events) clock → IsTimetable until events → All (λ t. t < until) (base_times until events clock)
base-ends until events (Every period offset) is table = λ k d below.
    let times : List ℕ = periodic_times until period offset in
    let both = time-is until period offset k (get_or times k d) (sym (periodic_place until period offset is.0 k) ∙ slice_get-get_or times k d below) in
    omega (arith, both.0, both.1)
base-ends until events (On event) is table = All-get_or (All (λ t. t < until)) events event [] is table.ends

-- the event occurs at some of a clock's base times
pub table-more : (until : ℕ) (events : List (List ℕ)) (clock : Clock) (p : ℕ → _) → IsClockOf (length events) clock → IsTimetable until events
    → IsTimetable until (events ++ filter p (base_times until events clock) ∷ [])
table-more until events clock p is table = record {
  last = table.last;
  rising = All-push IsStrictlyIncreasing events (filter p (base_times until events clock)) table.rising (IsStrictlyIncreasing-filter p (base_times until events clock) (base-rising until events clock is table));
  ends = All-push (All (λ t. t < until)) events (filter p (base_times until events clock)) table.ends (All-filter p (λ t. t < until) (base_times until events clock) (base-ends until events clock is table));
}

-- its base times are those of the event that is one more
pub event-times : (until : ℕ) (events : List (List ℕ)) (times : List ℕ) → base_times until (events ++ times ∷ []) (On (length events)) ≡ times
event-times until events times = grind (arith, common_steps)

-- ---- all tasks

-- as many clocks as tasks
pub same-count : (d : Diagram) (samples : List Sample) (events more : List (List ℕ)) (clocks : List Clock) → map (base_times d.until more) clocks ≡ map (times_in d samples events) d.tasks → length clocks ≡ length d.tasks
same-count d samples events more clocks same = sym (length-map clocks (base_times d.until more)) ∙ ap (λ (ts : List (List ℕ)). length ts) same ∙ length-map d.tasks (times_in d samples events)

-- as many base times as all tasks together have times
pub same-total : (d : Diagram) (samples : List Sample) (events more : List (List ℕ)) (clocks : List Clock) → All (IsClockOf (length more)) clocks
    → map (base_times d.until more) clocks ≡ map (times_in d samples events) d.tasks → ticks_of d.until more clocks ≡ total_of d samples events
same-total d samples events more clocks are same =
    ticks clocks are ∙ ap (sum_by (λ (ts : List ℕ). length ts)) same ∙ sym (total d.tasks)
  where
    ticks : (clocks : List Clock) → All (IsClockOf (length more)) clocks → ticks_of d.until more clocks ≡ sum_by (λ (ts : List ℕ). length ts) (map (base_times d.until more) clocks)
    ticks [] are = refl
    ticks (clock ∷ clocks) are =
        let first = base-count d.until more clock (in-range (length more) clock (are 0 clock (omega arith))) in
        omega (arith, sum_by-cons (count_of d.until more) clock clocks, sum_by-cons (λ (ts : List ℕ). length ts) (base_times d.until more clock) (map (base_times d.until more) clocks), first, ticks clocks (λ k e below. are (suc k) e (omega arith)))

    total : (tasks : List Task) → sum_by (λ t. length (times_in d samples events t)) tasks ≡ sum_by (λ (ts : List ℕ). length ts) (map (times_in d samples events) tasks)
    total [] = refl
    total (t ∷ tasks) =
        omega (arith, sum_by-cons (λ (u : Task). length (times_in d samples events u)) t tasks, sum_by-cons (λ (ts : List ℕ). length ts) (times_in d samples events t) (map (times_in d samples events) tasks), total tasks)

-- lists with the same items at all places
same-gets : (xs ys : List ℕ) → ((k : ℕ) → slice_get xs k ≡ slice_get ys k) → xs ≡ ys
same-gets [] [] same = refl
same-gets [] (y ∷ ys) same = absurd (let e = same 0 in cc)
same-gets (x ∷ xs) [] same = absurd (let e = same 0 in cc)
same-gets (x ∷ xs) (y ∷ ys) same =
    let first = same 0 in
    let tail : xs ≡ ys = same-gets xs ys (λ k. same (suc k)) in
    cc

-- the merge of what is handed to it gives the batches of the tasks
pub merged-tasks : (d : Diagram) (samples : List Sample) (events more : List (List ℕ)) (clocks : List Clock) (batches : List Batch) → All (IsClockOf (length more)) clocks
    → map (base_times d.until more) clocks ≡ map (times_in d samples events) d.tasks → AreMerged d.until more clocks batches → AreBatches d samples events batches
merged-tasks d samples events more clocks batches are same merged = record {
  rising = merged.rising;
  in_order = merged.in_order;
  some = merged.some;
  named = λ k b below j i inside. let less = merged.named k b below j i inside in omega (arith, less, count);
  ends = merged.ends;
  few = merged.few;
  each = λ i t at.
      let inside : i < length clocks = omega (arith, slice_get_within d.tasks i t at, count) in
      let (clock, is) = at_place clocks i inside in
      let range : HasNumbersInRange clock = in-range (length more) clock (all-at clock i is) in
      same-gets (times_of batches i) (base_times d.until more clock) (λ k. merged.each i k clock is ∙ sym (base-place d.until more clock k range)) ∙ times-at i clock t is at;
}
  where
    count : length clocks ≡ length d.tasks
    count = same-count d samples events more clocks same

    all-at : (clock : Clock) (i : ℕ) → slice_get clocks i ≡ Some clock → IsClockOf (length more) clock
    all-at clock i is =
        let here : get_or clocks i clock ≡ clock = same_Some (get_or clocks i clock) clock (sym (slice_get-get_or clocks i clock (slice_get_within clocks i clock is)) ∙ is) in
        subst (IsClockOf (length more)) here (are i clock (slice_get_within clocks i clock is))

    times-at : (i : ℕ) (clock : Clock) (t : Task) → slice_get clocks i ≡ Some clock → slice_get d.tasks i ≡ Some t → base_times d.until more clock ≡ times_in d samples events t
    times-at i clock t is at = same_Some (base_times d.until more clock) (times_in d samples events t)
        (ap (option_map (base_times d.until more)) (sym is) ∙ sym (slice_get-map (base_times d.until more) clocks i) ∙ ap (λ (ts : List (List ℕ)). slice_get ts i) same
        ∙ slice_get-map (times_in d samples events) d.tasks i ∙ ap (option_map (times_in d samples events)) at)
