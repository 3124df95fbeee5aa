-- Samples stand by time, and at one time by input.
use Rattle.std.proofs.Common.{◌≡◌, ℕ, zero, suc, ◌+◌, ◌<◌, ◌≤◌, ℤ, All, List, [], ◌∷◌, ◌++◌, length, Option, Some, None, get_or, refl, sym, ◌∙◌, arith}
use Rattle.std.specs.Prelude.{AllPairs, IsTrue}
use Rattle.std.proofs.lemmas.Bool.Decides.{nat_tests}
use Rattle.std.proofs.lemmas.List.Elements.{All-append, All-cons}
use Rattle.std.proofs.lemmas.List.Kept.{AllPairs-cons}
use Rattle.dbp_plan.specs.declared.diagram.Input.{Input}
use Rattle.dbp_plan.specs.declared.schedule.Sample.{Sample}
use Rattle.dbp_plan.specs.Samples.{is_before}
use Rattle.trace_rows.specs.Cells.{cell_under, time_of, value_in}
use Rattle.trace_rows.specs.Values.{row_samples, sample_of, samples_of}
use Rattle.trace_rows.proofs.RisingTimes.{Rises}

abbrev IsBefore : Sample → Sample → Type 0
IsBefore a b = IsTrue (is_before a b)

by-time : (a b : Sample) → a.time < b.time → IsBefore a b
by-time a b less = grind (arith, nat_tests)

by-input : (a b : Sample) → a.time ≡ b.time → a.input < b.input → IsBefore a b
by-input a b same less = grind (arith, nat_tests)

-- ---- lists of pairs

module _ {A : Type 0} (R : A → A → Type 0) where
  first-pairs : (x : A) (xs : List A) → AllPairs R (x ∷ xs) → All (R x) xs
  first-pairs x xs pairs k d inside = pairs 0 (suc k) d (omega arith) (omega arith)

  rest-pairs : (x : A) (xs : List A) → AllPairs R (x ∷ xs) → AllPairs R xs
  rest-pairs x xs pairs i j d less inside = pairs (suc i) (suc j) d (omega arith) (omega arith)

  pairs-append : (xs ys : List A) → AllPairs R xs → AllPairs R ys → All (λ x. All (R x) ys) xs → AllPairs R (xs ++ ys)
  pairs-append [] ys left right across = right
  pairs-append (x ∷ xs) ys left right across =
      AllPairs-cons R x (xs ++ ys) (All-append (R x) xs ys (first-pairs x xs left) (across zero x (omega arith)))
      (pairs-append xs ys (rest-pairs x xs left) right (λ k d inside. across (suc k) d (omega arith)))

-- ---- the samples of one row

-- the sample has this time, and its input is one of these
record IsAt (at first end : ℕ) (s : Sample) : Type 0 where
  pub time : s.time ≡ at
  pub from : first ≤ s.input
  pub to : s.input < end

one-sample : (at number end : ℕ) (value : Option ℤ) → number < end → All (IsAt at number end) (sample_of at number value)
one-sample at number end None less = λ k d inside. absurd (omega arith)
one-sample at number end (Some value) less =
    All-cons (IsAt at number end) (record { time = at; input = number; value = value }) [] (record { time = refl; from = omega arith; to = less }) (λ k d inside. absurd (omega arith))

one-alone : (at number : ℕ) (value : Option ℤ) → AllPairs IsBefore (sample_of at number value)
one-alone at number None = λ i j d less inside. absurd (omega arith)
one-alone at number (Some value) = λ i j d less inside. absurd (omega arith)

row-at : (columns : List (List ℕ)) (number : ℕ) (inputs : List Input) (row : List (List ℕ)) → All (IsAt (time_of row) number (number + length inputs)) (row_samples columns number inputs row)
row-at columns number [] row = λ k d inside. absurd (omega arith)
row-at columns number (input ∷ inputs) row =
    let value = value_in (cell_under columns input.name row) in
    let end = number + suc (length inputs) in
    All-append (IsAt (time_of row) number end) (sample_of (time_of row) number value) (row_samples columns (number + 1) inputs row)
    (one-sample (time_of row) number end value (omega arith))
    (λ k d inside. let s = row-at columns (number + 1) inputs row k d inside in record { time = s.time; from = omega (arith, s.from); to = omega (arith, s.to) })

row-order : (columns : List (List ℕ)) (number : ℕ) (inputs : List Input) (row : List (List ℕ)) → AllPairs IsBefore (row_samples columns number inputs row)
row-order columns number [] row = λ i j d less inside. absurd (omega arith)
row-order columns number (input ∷ inputs) row =
    let value = value_in (cell_under columns input.name row) in
    let here = sample_of (time_of row) number value in
    let rest = row_samples columns (number + 1) inputs row in
    pairs-append IsBefore here rest (one-alone (time_of row) number value) (row-order columns (number + 1) inputs row)
    (λ k d inside n e within.
    let s = one-sample (time_of row) number (number + 1) value (omega arith) k d inside in
    let t = row-at columns (number + 1) inputs row n e within in
    by-input (get_or here k d) (get_or rest n e) (s.time ∙ sym t.time) (omega (arith, s.to, t.from)))

-- ---- of all rows

samples-from : (columns : List (List ℕ)) (inputs : List Input) (until low : ℕ) (rows : List (List (List ℕ))) → Rises until low rows → All (λ s. low ≤ s.time) (samples_of columns rows inputs)
samples-from columns inputs until low [] rises = λ k d inside. absurd (omega arith)
samples-from columns inputs until low (row ∷ rows) rises =
    All-append (λ s. low ≤ s.time) (row_samples columns 0 inputs row) (samples_of columns rows inputs)
    (λ k d inside. let s = row-at columns 0 inputs row k d inside in omega (arith, s.time, rises.0))
    (λ k d inside. let later = samples-from columns inputs until (time_of row + 1) rows rises.2 k d inside in omega (arith, later, rises.0))

pub samples-order : (columns : List (List ℕ)) (inputs : List Input) (until low : ℕ) (rows : List (List (List ℕ))) → Rises until low rows
    → AllPairs (λ a b. IsTrue (is_before a b)) (samples_of columns rows inputs)
samples-order columns inputs until low [] rises = λ i j d less inside. absurd (omega arith)
samples-order columns inputs until low (row ∷ rows) rises =
    let here = row_samples columns 0 inputs row in
    let rest = samples_of columns rows inputs in
    pairs-append IsBefore here rest (row-order columns 0 inputs row) (samples-order columns inputs until (time_of row + 1) rows rises.2)
    (λ k d inside n e within.
    let s = row-at columns 0 inputs row k d inside in
    let later = samples-from columns inputs until (time_of row + 1) rows rises.2 n e within in
    by-time (get_or here k d) (get_or rest n e) (omega (arith, s.time, later)))

pub samples-of-inputs : (columns : List (List ℕ)) (inputs : List Input) (rows : List (List (List ℕ))) → All (λ s. s.input < length inputs) (samples_of columns rows inputs)
samples-of-inputs columns inputs [] = λ k d inside. absurd (omega arith)
samples-of-inputs columns inputs (row ∷ rows) =
    All-append (λ s. s.input < length inputs) (row_samples columns 0 inputs row) (samples_of columns rows inputs)
    (λ k d inside. let s = row-at columns 0 inputs row k d inside in omega (arith, s.to))
    (samples-of-inputs columns inputs rows)
