-- The times of a task, batch by batch: how many stand among the first batches, and what has come by a time.
use Rattle.std.proofs.Common.{◌≡◌, ℕ, zero, suc, ◌+◌, ◌-◌, ◌<◌, ◌≤◌, inl, inr, true, false, cond, List, [], ◌∷◌, ◌++◌, length, get_or, map, take, slice_get, Some, refl, ap, ◌∙◌, arith}
use Rattle.std.specs.Prelude.{filter, nat_le}
use Rattle.std.proofs.lemmas.Bool.{cases_Bool}
use Rattle.std.proofs.lemmas.List.{append-nil, length_push, map-append, take-take, take_more}
use Rattle.std.proofs.lemmas.List.Elements.{filter-append}
use Rattle.std.proofs.lemmas.List.Sums.{sum_by-cons}
use Rattle.std.proofs.lemmas.Option.{same_Some, slice_get-get_or}
use Rattle.dbp_plan.specs.declared.schedule.Batch.{Batch}
use Rattle.dbp_plan.specs.Occurrences.{count_until, names, occurrence_count, time_of, times_of}
use Rattle.dbp_plan.specs.Times.{Rises, count-come, count-later, has_come}
use Rattle.dbp_plan.proofs.BatchTasks.{often, some_named}
use Rattle.dbp_plan.proofs.Numbers.{Rise, rise-rest, number-is}

-- ---- with more batches

pub times-append : (bs cs : List Batch) (i : ℕ) → times_of (bs ++ cs) i ≡ times_of bs i ++ times_of cs i
times-append bs cs i = ap (map (λ (b : Batch). b.time)) (filter-append (names i) bs cs) ∙ map-append (λ (b : Batch). b.time) (filter (names i) bs) (filter (names i) cs)

pub times-named : (bs : List Batch) (b : Batch) (i : ℕ) → names i b ≡ true → times_of (bs ++ b ∷ []) i ≡ times_of bs i ++ b.time ∷ []
times-named bs b i is = times-append bs (b ∷ []) i ∙ rw is refl

pub times-other : (bs : List Batch) (b : Batch) (i : ℕ) → names i b ≡ false → times_of (bs ++ b ∷ []) i ≡ times_of bs i
times-other bs b i isnt = times-append bs (b ∷ []) i ∙ rw isnt (append-nil (times_of bs i))

-- ---- how many

pub times_cons : (b : Batch) (bs : List Batch) (i : ℕ) → length (times_of (b ∷ bs) i) ≡ often i b + length (times_of bs i)
unfolding often
times_cons b bs i = elim (cases_Bool (names i b)) [ inl is ↦ rw is (omega arith) | inr isnt ↦ rw isnt (omega arith) ]

pub times_more : (bs : List Batch) (k i : ℕ) (b : Batch) → slice_get bs k ≡ Some b → length (times_of (take (suc k) bs) i) ≡ length (times_of (take k bs) i) + often i b
times_more [] k i b here = absurd (cc (here))
times_more (a ∷ bs) zero i b here = times_cons a [] i ∙ ap (λ (x : Batch). often i x + 0) (same_Some a b here) ∙ omega arith
times_more (a ∷ bs) (suc k) i b here = omega (arith, times_cons a (take (suc k) bs) i, times_cons a (take k bs) i, times_more bs k i b here)

-- one more batch
pub more-named : (bs : List Batch) (i k : ℕ) (d : Batch) → k < length bs → names i (get_or bs k d) ≡ true → length (times_of (take (k + 1) bs) i) ≡ length (times_of (take k bs) i) + 1
more-named bs i k d fits is = rw (take_more bs k d fits, times-named (take k bs) (get_or bs k d) i is) (length_push (times_of (take k bs) i) (get_or bs k d).time)

pub more-other : (bs : List Batch) (i k : ℕ) (d : Batch) → k < length bs → names i (get_or bs k d) ≡ false → length (times_of (take (k + 1) bs) i) ≡ length (times_of (take k bs) i)
more-other bs i k d fits isnt = rw (take_more bs k d fits, times-other (take k bs) (get_or bs k d) i isnt) refl

-- no more occurrences up to a batch than in all, and no more than up to a later one
pub some-of : (bs : List Batch) (i k : ℕ) → length (times_of (take k bs) i) ≤ length (times_of bs i)
some-of [] i zero = omega arith
some-of [] i (suc k) = omega arith
some-of (b ∷ bs) i zero = omega arith
some-of (b ∷ bs) i (suc k) = omega (arith, times_cons b bs i, times_cons b (take k bs) i, some-of bs i k)

pub some-rise : (bs : List Batch) (i j k : ℕ) → j ≤ k → length (times_of (take j bs) i) ≤ length (times_of (take k bs) i)
some-rise bs i j k le = omega (arith, some-of (take k bs) i j, ap (λ (l : List Batch). length (times_of l i)) (take-take j k bs le))

-- no more of a task than of all tasks
pub times_few : (bs : List Batch) (i : ℕ) → length (times_of bs i) ≤ occurrence_count bs
times_few [] i = omega arith
times_few (b ∷ bs) i =
    let rest : length (times_of bs i) ≤ occurrence_count bs = times_few bs i in
    let all : occurrence_count (b ∷ bs) ≡ length b.tasks + occurrence_count bs = sum_by-cons (λ (a : Batch). length a.tasks) b bs in
    elim (cases_Bool (names i b)) [
      | inl is ↦ let one : 1 ≤ length b.tasks = some_named b.tasks i is in rw is (omega (arith, rest, all, one))
      | inr isnt ↦ rw isnt (omega (arith, rest, all))
    ]

-- ---- in order

pub time_of-rises : (bs : List Batch) (i a b : ℕ) → Rises (times_of bs i) → 0 < a → a < b → b ≤ length (times_of bs i) → time_of bs i a < time_of bs i b
time_of-rises bs i a b rises some less fits =
    let times : List ℕ = times_of bs i in
    rises.pairs (a - 1) (b - 1) (get_or times (a - 1) 0) (get_or times (b - 1) 0) (omega arith) (slice_get-get_or times (a - 1) 0 (omega arith)) (slice_get-get_or times (b - 1) 0 (omega arith))

-- ---- what has come by a time

until_cons : (b : Batch) (bs : List Batch) (i time : ℕ) → count_until (times_of (b ∷ bs) i) time ≤ often i b + count_until (times_of bs i) time
unfolding often
until_cons b bs i time =
    elim (cases_Bool (names i b)) [
      | inl is ↦ rw is (omega (arith, sum_by-cons (λ (u : ℕ). cond (nat_le u time) 1 0) b.time (times_of bs i), cond_one (nat_le b.time time)))
      | inr isnt ↦ rw isnt (omega arith)
    ]
  where
    cond_one : (test : _) → cond {A = ℕ} test 1 0 ≤ 1
    cond_one test = elim (cases_Bool test) [ inl is ↦ rw is (omega arith) | inr isnt ↦ rw isnt (omega arith) ]

-- of a task's times as many have come at an instance of the first batches as these batches name the task, at most
pub come_before : (bs : List Batch) (k i j n : ℕ) → Rise bs → n < length (times_of (take k bs) i) → count_until (times_of bs j) (get_or (times_of bs i) n 0) ≤ length (times_of (take k bs) j)
come_before [] zero i j n up below = absurd (omega arith)
come_before [] (suc k) i j n up below = absurd (omega arith)
come_before (b ∷ bs) zero i j n up below = absurd (omega arith)
come_before (b ∷ bs) (suc k) i j n up below =
    let rest : (m : ℕ) → m < length (times_of (take k bs) i) → count_until (times_of (b ∷ bs) j) (get_or (times_of bs i) m 0) ≤ length (times_of (b ∷ take k bs) j) =
    λ m less. omega (arith, until_cons b bs j (get_or (times_of bs i) m 0), times_cons b (take k bs) j, come_before bs k i j m (rise-rest b bs up) less) in
    let first : count_until (times_of (b ∷ bs) j) b.time ≤ length (times_of (b ∷ take k bs) j) =
    omega (arith, number-is (b ∷ bs) j 0 b up (omega arith), times_cons b [] j, times_cons b (take k bs) j) in
    elim (cases_Bool (names i b)) [
      | inl is ↦ rw is (named (λ time. count_until (times_of (b ∷ bs) j) time ≤ length (times_of (b ∷ take k bs) j)) b.time (times_of bs i) (times_of (take k bs) i) n first rest (rw is at below))
      | inr isnt ↦ rw isnt (rest n (rw isnt at below))
    ]
  where
    named : (P : ℕ → Type 0) (time : ℕ) (times front : List ℕ) (n : ℕ) → P time → ((m : ℕ) → m < length front → P (get_or times m 0)) → n < length (time ∷ front) → P (get_or (time ∷ times) n 0)
    named P time times front zero first rest below = first
    named P time times front (suc n) first rest below = rest n (omega arith)

-- a time that has come counts
pub come_counted : (ts : List ℕ) (n t time : ℕ) → Rises ts → slice_get ts n ≡ Some t → t ≤ time → n < count_until ts time
come_counted [] n t time rises here come = absurd (cc (here))
come_counted (u ∷ ts) zero t time rises here come =
    let same : u ≡ t = same_Some u t here in
    omega (arith, count-come u ts time (omega arith))
come_counted (u ∷ ts) (suc n) t time rises here come =
    let rest : Rises ts = record { pairs = λ p q s v less at_s at_v. rises.pairs (suc p) (suc q) s v (omega arith) at_s at_v } in
    let before : u < t = rises.pairs 0 (suc n) u t (omega arith) refl here in
    omega (arith, count-come u ts time (omega arith), come_counted ts n t time rest here come)

-- if exactly the first batches have come by a time, so many of a task's times have as these batches name the task
pub come_front : (bs : List Batch) (i k time : ℕ) → ((j : ℕ) (d : Batch) → j < k → j < length bs → (get_or bs j d).time ≤ time) → ((j : ℕ) (d : Batch) → k ≤ j → j < length bs → time < (get_or bs j d).time)
    → count_until (times_of bs i) time ≡ length (times_of (take k bs) i)
come_front [] i zero time old new = refl
come_front [] i (suc k) time old new = refl
come_front (b ∷ bs) i zero time old new =
    let rest : count_until (times_of bs i) time ≡ 0 = come_front bs i zero time (λ j d less. absurd (omega arith)) (λ j d le fits. new (suc j) d (omega arith) (omega arith)) in
    let later : time < b.time = new 0 b (omega arith) (omega arith) in
    elim (cases_Bool (names i b)) [
      | inl is ↦ rw is (count-later b.time (times_of bs i) time later ∙ rest)
      | inr isnt ↦ rw isnt rest
    ]
come_front (b ∷ bs) i (suc k) time old new =
    let rest : count_until (times_of bs i) time ≡ length (times_of (take k bs) i) =
    come_front bs i k time (λ j d less fits. old (suc j) d (omega arith) (omega arith)) (λ j d le fits. new (suc j) d (omega arith) (omega arith)) in
    let come : b.time ≤ time = old 0 b (omega arith) (omega arith) in
    elim (cases_Bool (names i b)) [
      | inl is ↦ rw is (count-come b.time (times_of bs i) time come ∙ omega (arith, rest))
      | inr isnt ↦ rw isnt rest
    ]

-- so these are the occurrences that have come
pub come_iff : (bs : List Batch) (i k time n t : ℕ) → Rises (times_of bs i) → ((j : ℕ) (d : Batch) → j < k → j < length bs → (get_or bs j d).time ≤ time) → ((j : ℕ) (d : Batch) → k ≤ j → j < length bs → time < (get_or bs j d).time)
    → slice_get (times_of bs i) n ≡ Some t → (t ≤ time → n < length (times_of (take k bs) i)) × (n < length (times_of (take k bs) i) → t ≤ time)
come_iff bs i k time n t rises old new at =
    let count : count_until (times_of bs i) time ≡ length (times_of (take k bs) i) = come_front bs i k time old new in
    ((λ come. omega (arith, count, come_counted (times_of bs i) n t time rises at come)), (λ less. has_come (times_of bs i) n t time rises at (omega (arith, count))))
