-- The tasks of a diagram have one list of batches.
use Rattle.std.proofs.Common.{◌≡◌, ◌≢◌, ℕ, zero, suc, ◌<◌, ◌≤◌, true, false, All, List, [], ◌∷◌, length, get_or, arith, refl, sym, subst, ◌∙◌, inl, inr}
use Rattle.std.specs.Prelude.{◌==◌, AllPairs}
use Rattle.std.specs.List.{list_any}
use Rattle.std.specs.List.Sorted.{IsStrictlyIncreasing}
use Rattle.std.proofs.lemmas.Bool.{cases_Bool, cases_eq, cases_lt, eq-eqb, false≢true, ne_eqb}
use Rattle.std.proofs.lemmas.List.Kept.{AllPairs-from_increasing}
use Rattle.dbp_plan.specs.declared.diagram.Diagram.{Diagram}
use Rattle.dbp_plan.specs.declared.schedule.Batch.{Batch}
use Rattle.dbp_plan.specs.declared.schedule.Sample.{Sample}
use Rattle.dbp_plan.specs.Occurrences.{names, times_of}
use Rattle.dbp_plan.specs.ListItems.{at_place}
use Rattle.dbp_plan.specs.Times.{times_all}
use Rattle.trace_io.specs.Batches.{AreBatches}
use Rattle.dbp_plan.proofs.BatchTasks.{named_below}
use Rattle.dbp_plan.proofs.Numbers.{Rise, rise, rise-rest}

-- numbers of which each is below all later ones
record Up (xs : List ℕ) : Type 0 where
  pub pairs : AllPairs (λ x y. x < y) xs

up-rest : (x : ℕ) (xs : List ℕ) → Up (x ∷ xs) → Up xs
up-rest x xs up = record { pairs = λ i j d less fits. up.pairs (suc i) (suc j) d (omega arith) (omega arith) }

up-first : (x : ℕ) (xs : List ℕ) → Up (x ∷ xs) → All (λ y. x < y) xs
up-first x xs up = λ k d fits. up.pairs 0 (suc k) d (omega arith) (omega arith)

-- what is named is no less than all numbers are
above : (xs : List ℕ) (low x : ℕ) → All (λ y. low ≤ y) xs → list_any (λ n. n == x) xs ≡ true → low ≤ x
above [] low x all is = absurd (false≢true is)
above (y ∷ xs) low x all is = elim (cases_eq y x) [
  | inl same ↦ let first : low ≤ y = all 0 0 (omega arith) in omega arith
  | inr other ↦ above xs low x (λ k d fits. all (suc k) d (omega arith)) (rw (ne_eqb y x other) at is)
]

not-later : (x : ℕ) (xs : List ℕ) → Up (x ∷ xs) → list_any (λ n. n == x) xs ≡ false
not-later x xs up = elim (cases_Bool (list_any (λ n. n == x) xs)) [
  | inl is ↦ let less : x < x = above xs (suc x) x (up-first x xs up) is in absurd (omega arith)
  | inr not ↦ not
]

first-below : (x : ℕ) (xs : List ℕ) → Up (x ∷ xs) → All (λ y. x ≤ y) (x ∷ xs)
first-below x xs up zero d fits = omega arith
first-below x xs up (suc k) d fits = let less : x < get_or xs k d = up-first x xs up k d (omega arith) in omega arith

-- the same numbers in order are one list
one-order : (xs ys : List ℕ) → Up xs → Up ys → ((i : ℕ) → list_any (λ n. n == i) xs ≡ list_any (λ n. n == i) ys) → xs ≡ ys
one-order [] [] ux uy same = refl
one-order [] (y ∷ ys) ux uy same = absurd (false≢true (rw (eq-eqb y y refl) at (same y)))
one-order (x ∷ xs) [] ux uy same = absurd (false≢true (sym (rw (eq-eqb x x refl) at (same x))))
one-order (x ∷ xs) (y ∷ ys) ux uy same =
    let below_x : y ≤ x = above (y ∷ ys) y x (first-below y ys uy) (sym (rw (eq-eqb x x refl) at (same x))) in
    let below_y : x ≤ y = above (x ∷ xs) x y (first-below x xs ux) (rw (eq-eqb y y refl) at (same y)) in
    let first : x ≡ y = omega arith in
    let rest : (i : ℕ) → list_any (λ n. n == i) xs ≡ list_any (λ n. n == i) ys = λ i. elim (cases_eq x i) [
      | inl is ↦ rw (sym is) (not-later x xs ux ∙ sym (rw first (not-later y ys uy)))
      | inr other ↦ rw (ne_eqb x i other, ne_eqb y i (λ e. other (first ∙ e))) at (same i)
    ] in
    let tail : xs ≡ ys = one-order xs ys (up-rest x xs ux) (up-rest y ys uy) rest in
    cc

later : (b : Batch) (bs : List Batch) → Rise (b ∷ bs) → All (λ a. b.time < a.time) bs
later b bs up = λ k d fits. up.pairs 0 (suc k) d (omega arith) (omega arith)

not-earlier : (b : Batch) (bs : List Batch) → Rise (b ∷ bs) → All (λ a. b.time ≤ a.time) (b ∷ bs)
not-earlier b bs up zero d fits = omega arith
not-earlier b bs up (suc k) d fits = let less : b.time < (get_or bs k d).time = later b bs up k d (omega arith) in omega arith

-- a list that begins so
first-holds : (P : ℕ → Type 0) (ts us : List ℕ) (t : ℕ) → All P ts → ts ≡ t ∷ us → P t
first-holds P [] us t all is = absurd (cc)
first-holds P (u ∷ ts) us t all is = subst P (cc) (all 0 0 (omega arith))

a-name : (b : Batch) → b.tasks ≢ [] → (i : ℕ) × (names i b ≡ true)
a-name b some = go b.tasks some
  where
    go : (xs : List ℕ) → xs ≢ [] → (i : ℕ) × (list_any (λ n. n == i) xs ≡ true)
    go [] h = absurd (h refl)
    go (x ∷ xs) h = (x, rw (eq-eqb x x refl) refl)

-- what of a list of batches is needed
record Ordered (bs : List Batch) : Type 0 where
  pub up : Rise bs
  pub in_order : All (λ b. IsStrictlyIncreasing b.tasks) bs
  pub some : All (λ b. b.tasks ≢ []) bs

ordered-rest : (b : Batch) (bs : List Batch) → Ordered (b ∷ bs) → Ordered bs
ordered-rest b bs o = record {
  up = rise-rest b bs o.up;
  in_order = λ k d fits. o.in_order (suc k) d (omega arith);
  some = λ k d fits. o.some (suc k) d (omega arith);
}

-- the first time of one list is no earlier than the other's
no-later : (x y : Batch) (xs ys : List Batch) → Ordered (x ∷ xs) → Ordered (y ∷ ys) → ((i : ℕ) → times_of (x ∷ xs) i ≡ times_of (y ∷ ys) i) → y.time ≤ x.time
no-later x y xs ys ox oy same =
    let (i, is) = a-name x (ox.some 0 x (omega arith)) in
    let begins : times_of (y ∷ ys) i ≡ x.time ∷ times_of xs i = rw is at (sym (same i)) in
    first-holds (λ t. y.time ≤ t) (times_of (y ∷ ys) i) (times_of xs i) x.time (times_all (λ t. y.time ≤ t) (y ∷ ys) i (not-earlier y ys oy.up)) begins

-- of equal times the names of both first batches are those whose times begin there
not-missing : (x y : Batch) (xs ys : List Batch) (i : ℕ) → Ordered (y ∷ ys) → x.time ≡ y.time → times_of (x ∷ xs) i ≡ times_of (y ∷ ys) i → names i x ≡ true → names i y ≡ true
not-missing x y xs ys i oy time same is = elim (cases_Bool (names i y)) [
  | inl here ↦ here
  | inr not ↦
      let begins : times_of ys i ≡ x.time ∷ times_of xs i = rw (is, not) at (sym same) in
      let less : y.time < x.time = first-holds (λ t. y.time < t) (times_of ys i) (times_of xs i) x.time (times_all (λ t. y.time < t) ys i (later y ys oy.up)) begins in
      absurd (omega arith)
]

same-names : (x y : Batch) (xs ys : List Batch) (i : ℕ) → Ordered (x ∷ xs) → Ordered (y ∷ ys) → x.time ≡ y.time → times_of (x ∷ xs) i ≡ times_of (y ∷ ys) i → names i x ≡ names i y
same-names x y xs ys i ox oy time same = elim (cases_Bool (names i x)) [
  | inl is ↦ is ∙ sym (not-missing x y xs ys i oy time same is)
  | inr not ↦ elim (cases_Bool (names i y)) [
    | inl is ↦ absurd (false≢true (sym not ∙ not-missing y x ys xs i ox (sym time) (sym same) is))
    | inr nor ↦ not ∙ sym nor
  ]
]

same-batch : (x y : Batch) → x.time ≡ y.time → x.tasks ≡ y.tasks → x ≡ y
same-batch x y time tasks = λ j. record { time = time j; tasks = tasks j }

one-list : (xs ys : List Batch) → Ordered xs → Ordered ys → ((i : ℕ) → times_of xs i ≡ times_of ys i) → xs ≡ ys
one-list [] [] ox oy same = refl
one-list [] (y ∷ ys) ox oy same = let (i, is) = a-name y (oy.some 0 y (omega arith)) in absurd (let e : [] ≡ y.time ∷ times_of ys i = rw is at (same i) in cc)
one-list (x ∷ xs) [] ox oy same = let (i, is) = a-name x (ox.some 0 x (omega arith)) in absurd (let e : x.time ∷ times_of xs i ≡ [] = rw is at (same i) in cc)
one-list (x ∷ xs) (y ∷ ys) ox oy same =
    let below_x : y.time ≤ x.time = no-later x y xs ys ox oy same in
    let below_y : x.time ≤ y.time = no-later y x ys xs oy ox (λ i. sym (same i)) in
    let time : x.time ≡ y.time = omega arith in
    let named : (i : ℕ) → names i x ≡ names i y = λ i. same-names x y xs ys i ox oy time (same i) in
    let tasks : x.tasks ≡ y.tasks = one-order x.tasks y.tasks (record { pairs = AllPairs-from_increasing x.tasks (ox.in_order 0 x (omega arith)) }) (record { pairs = AllPairs-from_increasing y.tasks (oy.in_order 0 y (omega arith)) }) named in
    let first : x ≡ y = same-batch x y time tasks in
    let rest : (i : ℕ) → times_of xs i ≡ times_of ys i = λ i. elim (cases_Bool (names i x)) [
      | inl is ↦ let both : x.time ∷ times_of xs i ≡ y.time ∷ times_of ys i = rw (is, sym (named i) ∙ is) at (same i) in cc
      | inr not ↦ rw (not, sym (named i) ∙ not) at (same i)
    ] in
    let tail : xs ≡ ys = one-list xs ys (ordered-rest x xs ox) (ordered-rest y ys oy) rest in
    cc

-- no task from n on has a time
unnamed : (n : ℕ) (bs : List Batch) (i : ℕ) → All (λ b. All (λ k. k < n) b.tasks) bs → n ≤ i → times_of bs i ≡ []
unnamed n [] i named past = refl
unnamed n (b ∷ bs) i named past =
    let no : names i b ≡ false = named_below b.tasks i (λ k d fits. let less : get_or b.tasks k d < n = named 0 b (omega arith) k d fits in omega arith) in
    rw no (unnamed n bs i (λ k d fits. named (suc k) d (omega arith)) past)

pub one-schedule : (d : Diagram) (samples : List Sample) (events : List (List ℕ)) (a b : List Batch) → AreBatches d samples events a → AreBatches d samples events b → a ≡ b
one-schedule d samples events a b fa fb =
    let times : (i : ℕ) → times_of a i ≡ times_of b i = λ i. elim (cases_lt i (length d.tasks)) [
      | inl fits ↦ let (t, at) = at_place d.tasks i fits in fa.each i t at ∙ sym (fb.each i t at)
      | inr past ↦ unnamed (length d.tasks) a i fa.named past ∙ sym (unnamed (length d.tasks) b i fb.named past)
    ] in
    one-list a b (record { up = rise a fa.rising; in_order = fa.in_order; some = fa.some }) (record { up = rise b fb.rising; in_order = fb.in_order; some = fb.some }) times
