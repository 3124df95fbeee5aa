-- Batch by batch, all clocks are taken to their ends.
use Rattle.std.proofs.Common.{◌≡◌, ◌≢◌, ℕ, zero, suc, ◌+◌, ◌*◌, ◌-◌, ◌<◌, ◌≤◌, true, false, All, List, [], ◌∷◌, ◌++◌, length, map, replicate, get_or, sum, arith, refl, ap, ◌∙◌, sym, subst, inl, inr, Option, Some, None}
use Rattle.std.specs.Prelude.{◌==◌, nat_lt, max, IfSome, unwrap_or, slice_index, slice_index_or, slice_get, sum_by}
use Rattle.std.specs.List.{list_any}
use Rattle.std.specs.List.Sorted.{IsStrictlyIncreasing}
use Rattle.std.proofs.lemmas.Bool.{cases_Bool, cases_lt, eq-eqb, eqb-true, false≢true}
use Rattle.std.proofs.lemmas.List.{length_push, map-append, length-replicate}
use Rattle.std.proofs.lemmas.List.Elements.{All-push, All-get_or, All-map}
use Rattle.std.proofs.lemmas.List.Sums.{sum_by-cons, sum_by_push, get_or-le-sum_by}
use Rattle.std.proofs.lemmas.Option.{slice_get-get_or, slice_get_past, slice_get_within, cond_some, IfSome_then, gets}
use Rattle.std.proofs.Math.Nat.{le-div_iff_mul-le}
use borrow.Author.Tests.{ltb-true}
use Rattle.std.proofs.lemmas.Grind.{common_steps}
use Rattle.dbp_plan.specs.Occurrences.{names, times_of}
use Rattle.dbp_plan.specs.declared.schedule.Batch.{Batch}
use Rattle.dbp_plan.specs.declared.diagram.Clock.{Clock}
use Rattle.dbp_plan.specs.declared.diagram.Clock.TheVariants.{Every, On}
use Rattle.dbp_plan.specs.declared.limits.TheConstants.{MAX_OCCURRENCES}
use Rattle.dbp_plan.specs.Clocks.{time_at}
use Rattle.dbp_plan.specs.ListItems.{front_place, last_place}
use Rattle.dbp_plan.proofs.BatchTasks.{some_item}
use Rattle.dbp_plan.proofs.TaskTimes.{times-named, times-other}
use Rattle.trace_io.specs.Counts.{HasNumbersInRange, IsClockOf, IsTimetable, count_of}
use Rattle.trace_io.specs.Merging.{AreMerged, AreNext, IsLeast, IsLeastNext, TakesDue, is_at, next_of}
use Rattle.trace_io.proofs.Due.{rising-push}

-- a clock's next time is later
pub clock-rises : (until : ℕ) (events : List (List ℕ)) (clock : Clock) (k t : ℕ) → IsTimetable until events → IsClockOf (length events) clock
    → time_at until events clock k ≡ Some t → IfSome (time_at until events clock (k + 1)) (λ u. t < u)
clock-rises until events (Every period offset) k t table is here = grind (arith, common_steps)
clock-rises until events (On event) k t table is here =
    let up = All-get_or IsStrictlyIncreasing events event [] is table.rising in
    grind (arith, common_steps, gets, up k)

-- a clock's times are below the end
pub clock-ends : (until : ℕ) (events : List (List ℕ)) (clock : Clock) (k t : ℕ) → IsTimetable until events → IsClockOf (length events) clock
    → time_at until events clock k ≡ Some t → t < until
clock-ends until events (Every period offset) k t table is here = grind (arith, common_steps)
clock-ends until events (On event) k t table is here =
    let ends = All-get_or (All (λ u. u < until)) events event [] is table.ends in
    grind (arith, common_steps, gets, ends k t)

-- a next occurrence stands by its time
some_next : (until : ℕ) (o : Option ℕ) (time : ℕ) → time < until → unwrap_or o until ≡ time → o ≡ Some time
some_next until None time below is = absurd (omega arith)
some_next until (Some t) time below is = ap (λ n. Some n) is

no_next : (until : ℕ) (o : Option ℕ) → IfSome o (λ t. t < until) → until ≤ unwrap_or o until → o ≡ None
no_next until None below is = refl
no_next until (Some t) below is = absurd (omega arith)

later_next : (until : ℕ) (o : Option ℕ) (time : ℕ) → time ≤ unwrap_or o until → IfSome o (λ t. time ≤ t)
later_next until None time less = tt
later_next until (Some t) time less = less

next_below : (until : ℕ) (events : List (List ℕ)) (clock : Clock) (k : ℕ) (o : Option ℕ) → time_at until events clock k ≡ o
    → IsTimetable until events → IsClockOf (length events) clock → IfSome o (λ t. t < until)
next_below until events clock k None here table is = tt
next_below until events clock k (Some t) here table is = clock-ends until events clock k t table is here

-- the least of the times of the clocks' next occurrences
pub least-next : (until : ℕ) (events : List (List ℕ)) (clocks : List Clock) (taken next : List ℕ) (time : ℕ)
    → AreNext until events clocks taken next → IsLeast until next (length clocks) time → time < until
    → IsLeastNext until events clocks taken (length clocks) (Some time)
least-next until events clocks taken next time are least early =
    let (i, less, is) = least.stands early in (
      early,
      (i, less, λ d. some_next until (next_of until events clocks taken i d) time early (sym (are.1 i d less) ∙ is)),
      λ j d within. later_next until (next_of until events clocks taken j d) time (subst (λ n. time ≤ n) (are.1 j d within) (least.below j within)),
    )

-- no clock has a next occurrence
pub none-next : (until : ℕ) (events : List (List ℕ)) (clocks : List Clock) (taken next : List ℕ) (time : ℕ)
    → IsTimetable until events → All (IsClockOf (length events)) clocks → AreNext until events clocks taken next → IsLeast until next (length clocks) time → until ≤ time
    → IsLeastNext until events clocks taken (length clocks) None
none-next until events clocks taken next time table is are least late = λ i d less.
    no_next until (next_of until events clocks taken i d)
    (next_below until events (slice_index_or clocks i d) (slice_index taken i) (next_of until events clocks taken i d) refl table (is i d less))
    (subst (λ n. until ≤ n) (are.1 i d less) (omega (arith, least.below i less, late)))

-- once it has ended it has no further time
pub clock-stops : (until : ℕ) (events : List (List ℕ)) (clock : Clock) (k m : ℕ) → IsClockOf (length events) clock
    → time_at until events clock k ≡ None → k ≤ m → time_at until events clock m ≡ None
clock-stops until events (Every period offset) k m is here less = grind (arith, common_steps)
clock-stops until events (On event) k m is here less = grind (arith, common_steps, gets)

pub in-range : (events : ℕ) (clock : Clock) → IsClockOf events clock → HasNumbersInRange clock
in-range events (Every period offset) is = is
in-range events (On event) is = tt

-- it has as many times as it is counted
pub clock-count : (until : ℕ) (events : List (List ℕ)) (clock : Clock) (k t : ℕ) → HasNumbersInRange clock
    → time_at until events clock k ≡ Some t → k < count_of until events clock
clock-count until events (Every period offset) k t is here =
    let below = (cond_some (nat_lt (offset + k * period) until) (offset + k * period) t here).0 in
    let less : offset + k * period < until = omega (arith, below, ltb-true) in
    let parts = (le-div_iff_mul-le {k = period} {x = k} {y = until - offset - 1} (omega arith)).1 (omega arith) in
    grind (arith, common_steps, parts)
clock-count until events (On event) k t is here = slice_get_within (get_or events event []) k t here

-- a time past those of all batches
abbrev pub after : List Batch → ℕ
after [] = 0
after (b ∷ bs) = max (b.time + 1) (after bs)

pub after-all : (bs : List Batch) → All (λ b. b.time < after bs) bs
after-all [] k d fits = absurd (omega arith)
after-all (b ∷ bs) zero d fits = omega arith
after-all (b ∷ bs) (suc k) d fits = let more = after-all bs k d (omega arith) in omega arith

pub after-push : (bs : List Batch) (b : Batch) → after bs ≤ b.time → after (bs ++ b ∷ []) ≡ b.time + 1
after-push [] b less = omega arith
after-push (a ∷ bs) b less = let more = after-push bs b (omega arith) in omega arith

-- the occurrences that were taken stand in the batches that were made, and all others are later
pub record Merged (until : ℕ) (events : List (List ℕ)) (clocks : List Clock) (taken : List ℕ) (made : List Batch) : Type 0 where
  pub places : length taken ≡ length clocks
  pub rising : IsStrictlyIncreasing (map (λ b. b.time) made)
  pub in_order : All (λ b. IsStrictlyIncreasing b.tasks) made
  pub some : All (λ b. b.tasks ≢ []) made
  pub ends : All (λ b. b.time < until) made
  pub named : All (λ b. All (λ i. i < length clocks) b.tasks) made
  pub each : (i k : ℕ) (d : Clock) → i < length clocks → k < slice_index taken i → slice_get (times_of made i) k ≡ time_at until events (slice_index_or clocks i d) k
  pub so_many : (i : ℕ) → i < length clocks → length (times_of made i) ≡ slice_index taken i
  pub ahead : (i : ℕ) (d : Clock) → i < length clocks → IfSome (next_of until events clocks taken i d) (λ t. after made ≤ t)
  pub counted : sum_by (λ b. length b.tasks) made ≡ sum taken

get_or-zeros : (n i : ℕ) → ◌≡◌ {A = ℕ} (get_or (replicate n 0) i 0) 0
get_or-zeros zero i = refl
get_or-zeros (suc n) zero = refl
get_or-zeros (suc n) (suc i) = get_or-zeros n i

sum-zeros : (n : ℕ) → sum (replicate n 0) ≡ 0
sum-zeros zero = refl
sum-zeros (suc n) = omega (arith, sum_by-cons (λ x. x) 0 (replicate n 0), sum-zeros n)

ifsome-zero : (o : Option ℕ) → IfSome o (λ t. 0 ≤ t)
ifsome-zero None = tt
ifsome-zero (Some t) = omega arith

pub merged-none : (until : ℕ) (events : List (List ℕ)) (clocks : List Clock) → Merged until events clocks (replicate (length clocks) 0) []
merged-none until events clocks = record {
  places = length-replicate (length clocks) 0;
  rising = λ k fits. absurd (omega arith);
  in_order = λ k d fits. absurd (omega arith);
  some = λ k d fits. absurd (omega arith);
  ends = λ k d fits. absurd (omega arith);
  named = λ k d fits. absurd (omega arith);
  each = λ i k d fits less. absurd (omega (arith, get_or-zeros (length clocks) i));
  so_many = λ i fits. sym (get_or-zeros (length clocks) i);
  ahead = λ i d fits. ifsome-zero (next_of until events clocks (replicate (length clocks) 0) i d);
  counted = sym (sum-zeros (length clocks));
}

-- no more occurrences are taken than the clock has
pub taken-fits : (until : ℕ) (events : List (List ℕ)) (clocks : List Clock) (taken : List ℕ) (made : List Batch) → All (IsClockOf (length events)) clocks
    → Merged until events clocks taken made → (i : ℕ) (d : Clock) → i < length clocks → slice_index taken i ≤ count_of until events (slice_index_or clocks i d)
taken-fits until events clocks taken made closed m i d fits =
    let clock = get_or clocks i d in
    let count = count_of until events clock in
    elim (cases_lt count (get_or taken i 0)) [
      | inl over ↦
          let many = m.so_many i fits in
          let here = slice_get-get_or (times_of made i) count 0 (omega arith) in
          let told = sym (m.each i count d fits over) ∙ here in
          let less = clock-count until events clock count (get_or (times_of made i) count 0) (in-range (length events) clock (closed i d fits)) told in
          absurd (omega arith)
      | inr within ↦ within
    ]

-- lists compared place by place
pub sum-below : {X : Type 0} (f : X → ℕ) (ns : List ℕ) (xs : List X) → length ns ≡ length xs → ((i : ℕ) (d : X) → i < length xs → get_or ns i 0 ≤ f (get_or xs i d)) → sum ns ≤ sum_by f xs
sum-below f [] [] e h = omega arith
sum-below f [] (x ∷ xs) e h = absurd (omega arith)
sum-below f (n ∷ ns) [] e h = absurd (omega arith)
sum-below f (n ∷ ns) (x ∷ xs) e h =
    let more = sum-below f ns xs (omega arith) (λ i d fits. h (suc i) d (omega arith)) in
    let here = h 0 x (omega arith) in
    omega (arith, more, here, sum_by-cons (λ y. y) n ns, sum_by-cons f x xs)

pub taken-sum : (until : ℕ) (events : List (List ℕ)) (clocks : List Clock) (taken : List ℕ) (made : List Batch) → All (IsClockOf (length events)) clocks
    → Merged until events clocks taken made → sum taken ≤ sum_by (count_of until events) clocks
taken-sum until events clocks taken made closed m = sum-below (count_of until events) taken clocks m.places (taken-fits until events clocks taken made closed m)

pub taken-small : (until : ℕ) (events : List (List ℕ)) (clocks : List Clock) (taken : List ℕ) (made : List Batch) → All (IsClockOf (length events)) clocks
    → Merged until events clocks taken made → sum_by (count_of until events) clocks ≤ MAX_OCCURRENCES → All (λ n. n ≤ MAX_OCCURRENCES) taken
taken-small until events clocks taken made closed m few k d fits =
    let all = taken-sum until events clocks taken made closed m in
    let one = get_or-le-sum_by (λ x. x) taken k d fits in
    omega (arith, all, one)

not-at : (o : Option ℕ) (time : ℕ) → is_at time o ≡ false → IfSome o (λ t. time ≤ t) → IfSome o (λ t. time + 1 ≤ t)
not-at None time isnt least = tt
not-at (Some t) time isnt least = elim (cases_lt time t) [
  | inl less ↦ omega arith
  | inr above ↦ let same : t ≡ time = omega arith in let is : (t == time) ≡ true = rw same (eq-eqb time time refl) in absurd (false≢true (sym isnt ∙ is))
]

is-at : (o : Option ℕ) (time : ℕ) → is_at time o ≡ true → o ≡ Some time
is-at None time is = absurd (false≢true is)
is-at (Some t) time is = ap Some (eqb-true t time is)

named-some : (tasks : List ℕ) (i : ℕ) → list_any (λ t. t == i) tasks ≡ true → tasks ≢ []
named-some [] i is = absurd (false≢true is)
named-some (t ∷ tasks) i is = λ e. cc e

-- what the step does for one task
record StepsOne (until : ℕ) (events : List (List ℕ)) (clock : Clock) (bound count : ℕ) (times : List ℕ) : Type 0 where
  pub each : (k : ℕ) → k < count → slice_get times k ≡ time_at until events clock k
  pub so_many : length times ≡ count
  pub ahead : IfSome (time_at until events clock count) (λ t. bound ≤ t)

step-due : (until : ℕ) (events : List (List ℕ)) (clock : Clock) (count time : ℕ) (times : List ℕ) → IsTimetable until events → IsClockOf (length events) clock
    → ((k : ℕ) → k < count → slice_get times k ≡ time_at until events clock k) → length times ≡ count
    → time_at until events clock count ≡ Some time
    → StepsOne until events clock (time + 1) (count + 1) (times ++ time ∷ [])
step-due until events clock count time times table closed each many here = record {
  each = λ k fits. elim (cases_lt k count) [
    | inl below ↦ front_place times (time ∷ []) k (omega arith) ∙ each k below
    | inr above ↦ let same : k ≡ count = omega arith in rw same (rw (sym many) (last_place times time (length times) refl) ∙ sym here)
  ];
  so_many = length_push times time ∙ ap (λ n. n + 1) many;
  ahead = IfSome_then (time_at until events clock (count + 1)) (clock-rises until events clock count time table closed here) (λ t less. omega arith);
}

-- the batch of the least next time is made
pub merge-step : (until : ℕ) (events : List (List ℕ)) (clocks : List Clock) (taken next : List ℕ) (made : List Batch) (time : ℕ) (tasks : List ℕ)
    → IsTimetable until events → All (IsClockOf (length events)) clocks
    → Merged until events clocks taken made → IsLeastNext until events clocks taken (length clocks) (Some time)
    → TakesDue until events clocks taken next time (length clocks) tasks
    → Merged until events clocks next (made ++ record { time = time; tasks = tasks } ∷ []) × (after made ≤ time) × (time < until)
merge-step until events clocks taken next made time tasks table closed m least t =
    let b : Batch = record { time = time; tasks = tasks } in
    let (in_time, found, least_of) = least in
    let (w, w_fits, w_next) = found in
    let anyone = Every 0 0 in
    let past : after made ≤ time = rw (w_next anyone) at (m.ahead w anyone w_fits) in
    let push = after-push made b past in
    let w_due : list_any (λ t. t == w) tasks ≡ true = t.due w anyone w_fits ∙ rw (w_next anyone) (eq-eqb time time refl) in
    let times : All (λ x. x < time) (map (λ (a : Batch). a.time) made) = All-map (λ x. x < time) (λ (a : Batch). a.time) made (λ k d fits. let below = after-all made k d fits in omega (arith, below, past)) in
    let one : (i : ℕ) (d : Clock) → i < length clocks → StepsOne until events (get_or clocks i d) (after (made ++ b ∷ [])) (get_or next i 0) (times_of (made ++ b ∷ []) i) = λ i d fits.
    let o = next_of until events clocks taken i d in
    elim (cases_Bool (is_at time o)) [
      | inl due ↦
          let here : names i b ≡ true = t.due i d fits ∙ due in
          let count : get_or next i 0 ≡ get_or taken i 0 + 1 = rw due at (t.moved i d fits) in
          rw (push, count, times-named made b i here) (step-due until events (get_or clocks i d) (get_or taken i 0) time (times_of made i) table (closed i d fits)
          (λ k less. m.each i k d fits less) (m.so_many i fits) (is-at o time due))
      | inr later ↦
          let other : names i b ≡ false = t.due i d fits ∙ later in
          let count : get_or next i 0 ≡ get_or taken i 0 = omega (arith, rw later at (t.moved i d fits)) in
          rw (push, count, times-other made b i other) (record { each = λ k less. m.each i k d fits less; so_many = m.so_many i fits; ahead = not-at o time later (least_of i d fits) })
    ] in (
      record {
        places = t.places ∙ m.places;
        rising = rw (map-append (λ (a : Batch). a.time) made (b ∷ [])) (rising-push (map (λ (a : Batch). a.time) made) time m.rising times);
        in_order = All-push (λ (a : Batch). IsStrictlyIncreasing a.tasks) made b m.in_order t.in_order;
        some = All-push (λ (a : Batch). a.tasks ≢ []) made b m.some (named-some tasks w w_due);
        ends = All-push (λ (a : Batch). a.time < until) made b m.ends in_time;
        named = All-push (λ (a : Batch). All (λ i. i < length clocks) a.tasks) made b m.named t.named;
        each = λ i k d fits less. (one i d fits).each k less;
        so_many = λ i fits. (one i anyone fits).so_many;
        ahead = λ i d fits. (one i d fits).ahead;
        counted = sum_by_push (λ (a : Batch). length a.tasks) made b ∙ omega (arith, m.counted, t.counted);
      },
      past,
      in_time,
    )

-- if no clock has a next time, the batches are those of the clocks
pub merge-end : (until : ℕ) (events : List (List ℕ)) (clocks : List Clock) (taken : List ℕ) (made : List Batch)
    → All (IsClockOf (length events)) clocks → sum_by (count_of until events) clocks ≤ MAX_OCCURRENCES
    → Merged until events clocks taken made → IsLeastNext until events clocks taken (length clocks) None
    → AreMerged until events clocks made
merge-end until events clocks taken made closed few m none = record {
  rising = m.rising;
  in_order = m.in_order;
  some = m.some;
  ends = m.ends;
  named = m.named;
  each = λ i k clock here.
      let fits : i < length clocks = slice_get_within clocks i clock here in
      let same : get_or clocks i clock ≡ clock = let there = slice_get-get_or clocks i clock fits in cc in
      elim (cases_lt k (get_or taken i 0)) [
        | inl below ↦ rw same at (m.each i k clock fits below)
        | inr above ↦
            slice_get_past (times_of made i) k (omega (arith, m.so_many i fits))
            ∙ sym (clock-stops until events clock (get_or taken i 0) k (rw same at (closed i clock fits)) (rw same at (none i clock fits)) above)
      ];
  few = omega (arith, m.counted, taken-sum until events clocks taken made closed m);
}

-- each batch has a task
batches-few : (made : List Batch) → All (λ b. b.tasks ≢ []) made → length made ≤ sum_by (λ b. length b.tasks) made
batches-few [] some = omega arith
batches-few (b ∷ made) some =
    let more = batches-few made (λ k d fits. some (suc k) d (omega arith)) in
    let one = some_item b.tasks (some 0 b (omega arith)) in
    omega (arith, more, one, sum_by-cons (λ (a : Batch). length a.tasks) b made)

pub made-few : (until : ℕ) (events : List (List ℕ)) (clocks : List Clock) (taken : List ℕ) (made : List Batch) → All (IsClockOf (length events)) clocks
    → Merged until events clocks taken made → sum_by (count_of until events) clocks ≤ MAX_OCCURRENCES → length made ≤ MAX_OCCURRENCES
made-few until events clocks taken made closed m few = omega (arith, batches-few made m.some, m.counted, taken-sum until events clocks taken made closed m)
