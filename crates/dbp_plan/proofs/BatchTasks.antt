-- The tasks of a batch: they rise, so each stands there once.
use Rattle.std.proofs.Common.{◌≡◌, ◌≢◌, ℕ, suc, ◌<◌, ◌≤◌, true, false, cond, All, List, [], ◌∷◌, length, take, get_or, refl, sym, ◌∙◌, arith, inl, inr, length-take}
use Rattle.std.specs.Prelude.{AllPairs, count_by, ◌==◌}
use Rattle.std.specs.List.{list_any}
use Rattle.std.specs.List.Sorted.{IsStrictlyIncreasing}
use Rattle.std.proofs.lemmas.Bool.{cases_Bool, cases_eq, eq-eqb, ne_eqb}
use Rattle.std.proofs.lemmas.List.{get_or-take}
use Rattle.std.proofs.lemmas.List.Elements.{All-from_get_or}
use Rattle.std.proofs.lemmas.List.Kept.{AllPairs-from_increasing}
use Rattle.dbp_plan.specs.declared.schedule.Batch.{Batch}
use Rattle.dbp_plan.specs.Occurrences.{names}
use Rattle.dbp_plan.proofs.Counts.{count-cons}

pub some_item : {X : Type 0} (xs : List X) → xs ≢ [] → 1 ≤ length xs
some_item [] some = absurd (some refl)
some_item (x ∷ xs) some = omega arith

-- a batch that names a task has one
pub some_named : (tasks : List ℕ) (i : ℕ) → list_any (λ n. n == i) tasks ≡ true → 1 ≤ length tasks
some_named [] i is = absurd cc
some_named (t ∷ tasks) i is = omega arith

-- numbers below one name nothing from it on
pub named_below : (xs : List ℕ) (i : ℕ) → All (λ x. x < i) xs → list_any (λ n. n == i) xs ≡ false
named_below [] i below = refl
named_below (x ∷ xs) i below =
    let less : x < i = below 0 0 (omega arith) in
    let no : (x == i) ≡ false = ne_eqb x i (λ e. absurd (omega arith)) in
    rw no (named_below xs i (λ k d fits. below (suc k) d (omega arith)))

-- no task stands twice
pub not_before : (tasks : List ℕ) (k : ℕ) → IsStrictlyIncreasing tasks → k < length tasks → list_any (λ n. n == get_or tasks k 0) (take k tasks) ≡ false
not_before tasks k rising below =
    named_below (take k tasks) (get_or tasks k 0)
    (All-from_get_or (λ x. x < get_or tasks k 0) (take k tasks) 0 (λ j less.
    let lower : j < k = omega (arith, length-take k tasks) in
    rw (get_or-take k tasks j 0 lower) (AllPairs-from_increasing tasks rising j k 0 lower below)))

-- ---- how often a batch names a task: once or not at all

unfoldable pub often : ℕ → Batch → ℕ
often i b = cond (names i b) 1 0

pub often_one : (i : ℕ) (b : Batch) → often i b ≤ 1
unfolding often
often_one i b = elim (cases_Bool (names i b)) [ inl is ↦ rw is (omega arith) | inr isnt ↦ rw isnt (omega arith) ]

pub often_named : (i : ℕ) (b : Batch) → 0 < often i b → names i b ≡ true
unfolding often
often_named i b some = elim (cases_Bool (names i b)) [ inl is ↦ is | inr isnt ↦ absurd (omega (arith, rw isnt at some)) ]

count-above : (i : ℕ) (tasks : List ℕ) → All (λ j. i < j) tasks → count_by (λ j. i == j) tasks ≡ 0
count-above i [] above = refl
count-above i (j ∷ tasks) above =
    let later : i < j = above 0 0 (omega arith) in
    count-cons (λ n. i == n) j tasks ∙ rw (ne_eqb i j (λ same. absurd (omega arith)), count-above i tasks (λ k d below. above (suc k) d (omega arith))) refl

count-pairs : (i : ℕ) (tasks : List ℕ) → AllPairs (λ m n. m < n) tasks → count_by (λ j. i == j) tasks ≡ cond (list_any (λ n. n == i) tasks) 1 0
count-pairs i [] pairs = refl
count-pairs i (j ∷ tasks) pairs =
    let rest : AllPairs (λ m n. m < n) tasks = λ m n d less fits. pairs (suc m) (suc n) d (omega arith) (omega arith) in
    elim (cases_eq i j) [
      | inl same ↦
          let none : count_by (λ n. i == n) tasks ≡ 0 = count-above i tasks (λ k d below. rw same (pairs 0 (suc k) d (omega arith) (omega arith))) in
          count-cons (λ n. i == n) j tasks ∙ rw (eq-eqb i j same, eq-eqb j i (sym same), none) refl
      | inr apart ↦
          count-cons (λ n. i == n) j tasks ∙ rw (ne_eqb i j apart, ne_eqb j i (λ same. apart (sym same)), count-pairs i tasks rest) (omega arith)
    ]

pub count-often : (i : ℕ) (b : Batch) → IsStrictlyIncreasing b.tasks → count_by (λ j. i == j) b.tasks ≡ often i b
unfolding often
count-often i b rises = count-pairs i b.tasks (AllPairs-from_increasing b.tasks rises)
