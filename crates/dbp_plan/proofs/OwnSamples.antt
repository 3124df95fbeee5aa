-- The samples of each input, with one sample more.
use Rattle.std.proofs.Common.{◌≡◌, ◌≢◌, ℕ, zero, suc, ◌+◌, ◌<◌, ◌≤◌, List, [], ◌∷◌, ◌++◌, length, map, take, get_or, set, slice_get, Some, refl, sym, ap, ◌∙◌, arith, inl, inr}
use Rattle.std.specs.Prelude.{◌==◌, ◌^◌, All, replicate}
use Rattle.std.specs.List.{range_with_len}
use Rattle.std.proofs.lemmas.Bool.{cases_eq, eq-eqb, ne_eqb}
use Rattle.std.proofs.lemmas.List.{append-nil, get_or_default, length-set, length-take-le}
use Rattle.std.proofs.lemmas.List.Elements.{filter-append}
use Rattle.std.proofs.lemmas.List.FromFn.{get_or-map-range_with_len, length-map-range_with_len}
use Rattle.std.proofs.lemmas.List.Sums.{count_by-le-length, length-filter}
use Rattle.std.proofs.lemmas.Option.{slice_get-get_or}
use Rattle.dbp_plan.specs.declared.schedule.Sample.{Sample}
use Rattle.dbp_plan.specs.ListItems.{same_list, set_here, set_other}
use Rattle.dbp_plan.specs.Samples.{own_samples}
use Rattle.dbp_plan.proofs.ListParts.{take-next}

-- what is made of a number below the count
pub range-place : {X : Type 0} (f : ℕ → X) (n k : ℕ) → k < n → slice_get (map f (range_with_len 0 n)) k ≡ Some (f k)
range-place f n k less =
    slice_get-get_or (map f (range_with_len 0 n)) k (f k) (omega (arith, length-map-range_with_len f 0 n, less))
    ∙ ap Some (get_or-map-range_with_len f 0 n k k (f k) less (omega arith))

-- no samples at all
pub no-samples : (a inputs : ℕ) → replicate inputs [] ≡ map (λ input. own_samples input []) (range_with_len a inputs)
no-samples a zero = refl
no-samples a (suc inputs) = ap (λ (ss : List (List Sample)). [] ∷ ss) (no-samples (a + 1) inputs)

pub few-own : (input i : ℕ) (samples : List Sample) → i ≤ length samples → length (own_samples input (take i samples)) ≤ i
few-own input i samples inside =
    let front : List Sample = take i samples in
    omega (arith, length-filter (λ (s : Sample). s.input == input) front, count_by-le-length (λ (s : Sample). s.input == input) front, length-take-le i samples inside)

module _ (samples : List Sample) (i : ℕ) (s : Sample) (inside : i < length samples) (is : s ≡ get_or samples i s) where
  own-more : (input : ℕ) → own_samples input (take (i + 1) samples) ≡ own_samples input (take i samples) ++ own_samples input (s ∷ [])
  own-more input = ap (own_samples input) (take-next samples i s inside is) ∙ filter-append (λ (a : Sample). a.input == input) (take i samples) (s ∷ [])

  own-here : own_samples s.input (take (i + 1) samples) ≡ own_samples s.input (take i samples) ++ s ∷ []
  own-here = own-more s.input ∙ rw (eq-eqb s.input s.input refl) refl

  own-other : (input : ℕ) → s.input ≢ input → own_samples input (take (i + 1) samples) ≡ own_samples input (take i samples)
  own-other input other = own-more input ∙ rw (ne_eqb s.input input other) (append-nil (own_samples input (take i samples)))

  abbrev by_input : ℕ → ℕ → List (List Sample)
  by_input n inputs = map (λ input. own_samples input (take n samples)) (range_with_len 0 inputs)

  -- the sample joins those of its input
  pub sample-more : (inputs : ℕ) (d : List Sample) → s.input < inputs → set (by_input i inputs) s.input (get_or (by_input i inputs) s.input d ++ s ∷ []) ≡ by_input (i + 1) inputs
  sample-more inputs d named =
      let old = λ (input : ℕ). own_samples input (take i samples) in
      let new = λ (input : ℕ). own_samples input (take (i + 1) samples) in
      let own : get_or (by_input i inputs) s.input d ≡ old s.input = get_or-map-range_with_len old 0 inputs s.input s.input d named (omega arith) in
      let size : length (by_input i inputs) ≡ inputs = length-map-range_with_len old 0 inputs in
      let made : List (List Sample) = set (by_input i inputs) s.input (get_or (by_input i inputs) s.input d ++ s ∷ []) in
      let made_size : length made ≡ length (by_input i inputs) = length-set (by_input i inputs) s.input (get_or (by_input i inputs) s.input d ++ s ∷ []) in
      same_list made (by_input (i + 1) inputs) (omega (arith, made_size, size, length-map-range_with_len new 0 inputs)) (λ k below. elim (cases_eq k s.input) [
        | inl same ↦
            ap (slice_get made) same ∙ set_here (by_input i inputs) s.input (get_or (by_input i inputs) s.input d ++ s ∷ []) (omega (arith, size, named))
            ∙ ap (λ (ss : List Sample). Some (ss ++ s ∷ [])) own ∙ ap Some (sym own-here) ∙ sym (range-place new inputs s.input named) ∙ ap (slice_get (by_input (i + 1) inputs)) (sym same)
        | inr other ↦
            set_other (by_input i inputs) s.input k (get_or (by_input i inputs) s.input d ++ s ∷ []) other ∙ range-place old inputs k (omega (arith, below, made_size, size))
            ∙ ap Some (sym (own-other k (λ e. other (sym e)))) ∙ sym (range-place new inputs k (omega (arith, below, made_size, size)))
      ])

-- ---- the turn of a loop over all samples, in which one of them joins those of its input

module _ (samples : List Sample) (inputs : ℕ) (named : All (λ s. s.input < inputs) samples) (i : ℕ) (d : Sample) (inside : i < length samples) (now : List (List Sample)) (are : now ≡ map (λ input. own_samples input (take i samples)) (range_with_len 0 inputs)) where
  abbrev added : Sample
  added = get_or samples i d

  pub added-inside : added.input < length now
  added-inside = let n = named i d inside in
      omega (arith, n, ap (λ (ss : List (List Sample)). length ss) are, length-map-range_with_len (λ input. own_samples input (take i samples)) 0 inputs)

  pub added-few : (own : List Sample) → length samples < 2 ^ 32 → length (get_or now added.input own) + 1 < 2 ^ 32
  added-few own small =
      let here : get_or now added.input own ≡ own_samples added.input (take i samples) =
      ap (λ (ss : List (List Sample)). get_or ss added.input own) are ∙ get_or-map-range_with_len (λ input. own_samples input (take i samples)) 0 inputs added.input added.input own (named i d inside) (omega arith) in
      omega (arith, ap (λ (ss : List Sample). length ss) here, few-own added.input i samples (omega (arith, inside)), small, inside)

  pub added-more : (own : List Sample) → set now added.input (get_or now added.input own ++ added ∷ []) ≡ map (λ input. own_samples input (take (i + 1) samples)) (range_with_len 0 inputs)
  added-more own =
      ap (λ (ss : List (List Sample)). set ss added.input (get_or ss added.input own ++ added ∷ [])) are
      ∙ sample-more samples i added inside (get_or_default samples i d added inside) inputs own (named i d inside)
