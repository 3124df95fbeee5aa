-- A list whose items are chosen one by one.
use Rattle.std.proofs.Common.{◌≡◌, ◌⊎◌, inl, inr, ℕ, zero, suc, ◌<◌, List, [], ◌∷◌, ◌++◌, length, get_or, refl, sym, ◌∙◌, subst, arith}
use Rattle.std.proofs.Math.ListN.{get_or-append}
use Rattle.std.proofs.lemmas.List.{get_or_push, length_push}
use mathlib.Core.Logic.{dite}
use native.Mathlib.Decide.{dec_lt}

pub record Chosen {X : Type 0} (P : ℕ → X → Type 0) (n : ℕ) : Type 0 where
  pub items : List X
  pub size : length items ≡ n
  pub each : (k : ℕ) (d : X) → k < n → P k (get_or items k d)

pub choose : {X : Type 0} (P : ℕ → X → Type 0) (n : ℕ) → ((k : ℕ) → k < n → (x : X) × P k x) → Chosen P n
choose P zero f = record { items = []; size = refl; each = λ k d few. (let no : ⊥ = omega (arith, few) in elim no [ ]) }
choose P (suc n) f =
    let rest = choose P n (λ k few. f k (omega (arith, few))) in
    let last = f n (omega arith) in record {
      items = rest.items ++ last.0 ∷ [];
      size = omega (arith, length_push rest.items last.0, rest.size);
      each = λ k d few. dite (dec_lt k n)
          (λ lt. subst (P k) (sym (get_or-append rest.items (last.0 ∷ []) d k (omega (arith, lt, rest.size)))) (rest.each k d lt))
          (λ ge.
          let here : n ≡ k = omega (arith, few, ge) in
          subst (P k) (sym (get_or_push rest.items last.0 d k (rest.size ∙ here))) (subst (λ (j : ℕ). P j last.0) here last.1));
    }

pub all_or_one : (A B : ℕ → Type 0) (n : ℕ) → ((k : ℕ) → k < n → A k ⊎ B k) → ((k : ℕ) → k < n → A k) ⊎ ((k : ℕ) × (k < n) × B k)
all_or_one A B zero f = inl (λ k few. (let no : ⊥ = omega (arith, few) in elim no [ ]))
all_or_one A B (suc n) f = elim (all_or_one A B n (λ k few. f k (omega (arith, few)))) [
  | inl all ↦ elim (f n (omega arith)) [
    | inl last ↦ inl (λ k few. dite (dec_lt k n) (λ lt. all k lt) (λ ge. subst A (omega (arith, few, ge)) last))
    | inr last ↦ inr (n, omega arith, last)
  ]
  | inr one ↦ inr (one.0, omega (arith, one.1), one.2)
]
