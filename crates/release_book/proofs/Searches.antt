-- The least number that passes.
use Rattle.std.proofs.Common.{◌≡◌, ℕ, zero, suc, ◌<◌, Bool, true, Option, Some, None, refl, sym, ◌∙◌, ap, arith, inl, inr}
use Rattle.std.specs.Prelude.{if◌then◌else◌}
use Rattle.std.specs.Option.{option_or}
use Rattle.std.proofs.lemmas.Bool.{cases_Bool, cases_lt}
use Rattle.std.proofs.lemmas.Option.{same_Some}
use Rattle.dbp_rules.specs.PartyRules.{least}

-- it is below the bound
pub least_below : (f : ℕ → Bool) (n i : ℕ) → least f n ≡ Some i → i < n
least_below f zero i is = absurd (cc (is))
least_below f (suc n) i is = more (least f n) refl (λ j there. least_below f n j there)
  where
    more : (o : Option ℕ) → least f n ≡ o → ((j : ℕ) → least f n ≡ Some j → j < n) → i < suc n
    more (Some j) there before =
        let same : Some j ≡ Some i = rw there at is in
        omega (arith, same_Some j i same, before j there)
    more None none before = elim (cases_Bool (f n)) [
      | inl here ↦ let same : Some n ≡ Some i = rw (none, here) at is in omega (arith, same_Some n i same)
      | inr gone ↦ let bad : None ≡ Some i = rw (none, gone) at is in absurd (cc (bad))
    ]

-- none below it passes, and it does
pub least_at : (f : ℕ → Bool) (n i : ℕ) → least f i ≡ None → f i ≡ true → i < n → least f n ≡ Some i
least_at f zero i none is below = absurd (omega arith)
least_at f (suc n) i none is below = elim (cases_lt i n) [
  | inl less ↦ ap (λ (o : Option ℕ). option_or o (if f n then Some n else None)) (least_at f n i none is less)
  | inr last ↦
      let same : i ≡ n = omega arith in
      let before : least f n ≡ None = ap (least f) (sym same) ∙ none in
      let here : f n ≡ true = ap f (sym same) ∙ is in
      rw (before, here) (ap (λ (m : ℕ). Some m) (sym same))
]
