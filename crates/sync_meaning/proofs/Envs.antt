-- Values written into an environment, one after another.
use Rattle.std.proofs.Common.{◌≡◌, ◌≢◌, ℕ, ℤ, ◌<◌, ◌≤◌, ◌+◌, List, length, slice_get, set, Some, refl, sym, ◌∙◌, ap, subst, arith, ◌⊎◌, inl, inr}
use Rattle.std.proofs.lemmas.Bool.{cases_eq}
use Rattle.std.proofs.lemmas.List.{length-set}
use Rattle.std.proofs.lemmas.Option.{slice_get_within, same_Some}
use Rattle.sync_meaning.specs.Shape.{AreWritten}
use Rattle.dbp_plan.specs.ListItems.{set_here, set_other}

-- the values of the first items are written
pub record WrittenUpTo {X : Type 0} (n base : ℕ) (items : List X) (fits : X → ℤ → Type 0) (before after : List ℤ) : Type 0 where
  pub size : length after ≡ length before
  pub written : (k : ℕ) (x : X) (value : ℤ) → k < n → slice_get items k ≡ Some x → slice_get after (base + k) ≡ Some value → fits x value
  pub kept : (j : ℕ) → (j < base) ⊎ (base + n ≤ j) → slice_get after j ≡ slice_get before j

pub written_none : {X : Type 0} (base : ℕ) (items : List X) (fits : X → ℤ → Type 0) (before : List ℤ) → WrittenUpTo 0 base items fits before before
written_none base items fits before = record {
  size = refl;
  written = λ k x value below. absurd (omega arith);
  kept = λ j outside. refl;
}

pub written_more : {X : Type 0} (n base place : ℕ) (x : X) (value : ℤ) (items : List X) (fits : X → ℤ → Type 0) (before after : List ℤ) → slice_get items n ≡ Some x → fits x value → place ≡ base + n → place < length after
    → WrittenUpTo n base items fits before after → WrittenUpTo (n + 1) base items fits before (set after place value)
written_more n base place x value items fits before after at fit is inside done = record {
  size = length-set after place value ∙ done.size;
  written = λ k y w below at_y at_w. elim (cases_eq k n) [
    | inl same ↦
        let here : base + k ≡ place = omega arith in
        let is_value : w ≡ value = same_Some _ _ (sym at_w ∙ ap (λ p. slice_get (set after place value) p) here ∙ set_here after place value inside) in
        let item : x ≡ y = same_Some _ _ (sym at ∙ ap (λ p. slice_get items p) (sym same) ∙ at_y) in
        subst (λ z. fits z w) item (subst (λ v. fits x v) (sym is_value) fit)
    | inr apart ↦
        let other : base + k ≢ place = λ e. apart (omega arith) in
        done.written k y w (omega arith) at_y (sym (set_other after place (base + k) value other) ∙ at_w)
  ];
  kept = λ j outside.
      let other : j ≢ place = λ e. elim outside [ inl before ↦ omega arith | inr later ↦ omega arith ] in
      let old : (j < base) ⊎ (base + n ≤ j) = elim outside [ inl before ↦ inl before | inr later ↦ inr (omega arith) ] in
      set_other after place j value other ∙ done.kept j old;
}

pub written_all : {X : Type 0} (n base : ℕ) (items : List X) (fits : X → ℤ → Type 0) (before after : List ℤ) → length items ≤ n → n ≤ length items → WrittenUpTo n base items fits before after → AreWritten base items fits before after
written_all n base items fits before after most least done = record {
  size = done.size;
  written = λ k x value at. done.written k x value (omega (arith, slice_get_within items k x at)) at;
  kept = λ j outside. done.kept j (elim outside [ inl before ↦ inl before | inr later ↦ inr (omega arith) ]);
}
