-- What holds of the items of a list after an insert, after a removal and after one is replaced: of each item, and of each
-- two in their order.
use Rattle.std.proofs.Common.{◌≡◌, ℕ, zero, suc, ◌+◌, ◌-◌, ◌<◌, ◌≤◌, ◌⊎◌, List, [], ◌∷◌, length, get_or, take, set, refl, sym, ap, ◌∙◌, subst, inl, inr, ⊎_elim, arith}
use Rattle.std.specs.List.{insert, remove}
use Rattle.std.proofs.lemmas.List.Edits.{length-insert, get_or-insert_below, get_or-insert_at, get_or-insert_above, length-remove, get_or-remove_below, get_or-remove_above}
use Rattle.std.proofs.lemmas.Bool.{cases_lt, cases_eq}

moved : {X : Type 0} (R : X → X → Type 0) (a b a' b' : X) → a ≡ a' → b ≡ b' → R a' b' → R a b
moved R a b a' b' e f h = subst (λ x. R x b) (sym e) (subst (λ y. R a' y) (sym f) h)

module _ {X : Type 0} (xs : List X) (i : ℕ) (y : X) (le : i ≤ length xs) where
  pub inserted_at : (k : ℕ) (d : X) → k ≡ i → get_or (insert xs i y) k d ≡ y
  inserted_at k d e = ap (λ (n : ℕ). get_or (insert xs i y) n d) e ∙ get_or-insert_at xs i y d le

  pub inserted_above : (k : ℕ) (d : X) → i < k → get_or (insert xs i y) k d ≡ get_or xs (k - 1) d
  inserted_above k d lt =
      let e : k ≡ k - 1 + 1 = omega (arith, lt) in
      ap (λ (n : ℕ). get_or (insert xs i y) n d) e ∙ get_or-insert_above xs i y d (k - 1) (omega (arith, lt)) le

  pub inserted_below : (k : ℕ) (d : X) → k < i → get_or (insert xs i y) k d ≡ get_or xs k d
  inserted_below k d lt = get_or-insert_below xs i y d k lt le

  pub each_insert : (Q : X → Type 0) → ((k : ℕ) (d : X) → k < length xs → Q (get_or xs k d)) → Q y → (k : ℕ) (d : X) → k < length (insert xs i y) → Q (get_or (insert xs i y) k d)
  each_insert Q old new k d small =
      let n = length-insert xs i y le in
      ⊎_elim
      (λ (lt : k < i). subst Q (sym (inserted_below k d lt)) (old k d (omega (arith, lt, le))))
      (λ (ge : i ≤ k).
      ⊎_elim
      (λ (e : k ≡ i). subst Q (sym (inserted_at k d e)) new)
      (λ (ne : k ≡ i → ⊥). subst Q (sym (inserted_above k d (omega (arith, ge, ne)))) (old (k - 1) d (omega (arith, ge, ne, small, n))))
      (cases_eq k i))
      (cases_lt k i)

  pub pairs_insert : (R : X → X → Type 0) → ((j k : ℕ) (d e : X) → j < k → k < length xs → R (get_or xs j d) (get_or xs k e))
      → ((k : ℕ) (d : X) → k < i → R (get_or xs k d) y) → ((k : ℕ) (d : X) → i ≤ k → k < length xs → R y (get_or xs k d))
      → (j k : ℕ) (d e : X) → j < k → k < length (insert xs i y) → R (get_or (insert xs i y) j d) (get_or (insert xs i y) k e)
  pairs_insert R old before after j k d e lt small =
      let n = length-insert xs i y le in
      ⊎_elim
      (λ (kl : k < i). moved R _ _ _ _ (inserted_below j d (omega (arith, kl, lt))) (inserted_below k e kl) (old j k d e lt (omega (arith, kl, le))))
      (λ (kg : i ≤ k).
      ⊎_elim
      (λ (ke : k ≡ i). moved R _ _ _ _ (inserted_below j d (omega (arith, ke, lt))) (inserted_at k e ke) (before j d (omega (arith, ke, lt))))
      (λ (ne : k ≡ i → ⊥).
      let ka = inserted_above k e (omega (arith, kg, ne)) in
      ⊎_elim
      (λ (jl : j < i). moved R _ _ _ _ (inserted_below j d jl) ka (old j (k - 1) d e (omega (arith, jl, kg, ne)) (omega (arith, kg, ne, small, n))))
      (λ (jg : i ≤ j).
      ⊎_elim
      (λ (je : j ≡ i). moved R _ _ _ _ (inserted_at j d je) ka (after (k - 1) e (omega (arith, kg, ne)) (omega (arith, kg, ne, small, n))))
      (λ (jn : j ≡ i → ⊥). moved R _ _ _ _ (inserted_above j d (omega (arith, jg, jn))) ka (old (j - 1) (k - 1) d e (omega (arith, jg, jn, lt)) (omega (arith, kg, ne, small, n))))
      (cases_eq j i))
      (cases_lt j i))
      (cases_eq k i))
      (cases_lt k i)

module _ {X : Type 0} (xs : List X) (i : ℕ) (lt : i < length xs) where
  -- where the item k of the list without the item i stood
  abbrev pub stood : ℕ → ℕ → Type 0
  stood k j = ((k < i) × (j ≡ k)) ⊎ ((i ≤ k) × (j ≡ k + 1))

  pub stood_at : (k : ℕ) → (j : ℕ) × stood k j
  stood_at k = ⊎_elim (λ (l : k < i). (k, inl (l, refl))) (λ (g : i ≤ k). (k + 1, inr (g, refl))) (cases_lt k i)

  pub removed_is : (k j : ℕ) (d : X) → stood k j → get_or (remove xs i) k d ≡ get_or xs j d
  removed_is k j d s =
      ⊎_elim
      (λ (w : (k < i) × (j ≡ k)). get_or-remove_below xs i d k w.0 lt ∙ ap (λ (n : ℕ). get_or xs n d) (sym w.1))
      (λ (w : (i ≤ k) × (j ≡ k + 1)). get_or-remove_above xs i d k w.0 lt ∙ ap (λ (n : ℕ). get_or xs n d) (sym w.1))
      s

  pub each_remove : (Q : X → Type 0) → ((k : ℕ) (d : X) → k < length xs → Q (get_or xs k d)) → (k : ℕ) (d : X) → k < length (remove xs i) → Q (get_or (remove xs i) k d)
  each_remove Q old k d small =
      let n = length-remove xs i lt in
      let j = stood_at k in
      subst Q (sym (removed_is k j.0 d j.1)) (old j.0 d (⊎_elim (λ (w : (k < i) × (j.0 ≡ k)). omega (arith, w.0, w.1, lt)) (λ (w : (i ≤ k) × (j.0 ≡ k + 1)). omega (arith, w.1, small, n)) j.1))

  pub pairs_remove : (R : X → X → Type 0) → ((j k : ℕ) (d e : X) → j < k → k < length xs → R (get_or xs j d) (get_or xs k e))
      → (j k : ℕ) (d e : X) → j < k → k < length (remove xs i) → R (get_or (remove xs i) j d) (get_or (remove xs i) k e)
  pairs_remove R old j k d e less small =
      let n = length-remove xs i lt in
      ⊎_elim
      (λ (kl : k < i). moved R _ _ _ _ (removed_is j j d (inl (omega (arith, kl, less), refl))) (removed_is k k e (inl (kl, refl))) (old j k d e less (omega (arith, kl, lt))))
      (λ (kg : i ≤ k).
      ⊎_elim
      (λ (jl : j < i). moved R _ _ _ _ (removed_is j j d (inl (jl, refl))) (removed_is k (k + 1) e (inr (kg, refl))) (old j (k + 1) d e (omega (arith, less)) (omega (arith, small, n))))
      (λ (jg : i ≤ j). moved R _ _ _ _ (removed_is j (j + 1) d (inr (jg, refl))) (removed_is k (k + 1) e (inr (kg, refl))) (old (j + 1) (k + 1) d e (omega (arith, less)) (omega (arith, small, n))))
      (cases_lt j i))
      (cases_lt k i)

-- the first items stay if a later one is replaced
pub take_past : {X : Type 0} (n i : ℕ) (xs : List X) (x : X) → n ≤ i → take n (set xs i x) ≡ take n xs
take_past zero i xs x past = refl
take_past (suc n) i [] x past = refl
take_past (suc n) zero (y ∷ ys) x past = absurd (omega arith)
take_past (suc n) (suc i) (y ∷ ys) x past = ap (λ zs. y ∷ zs) (take_past n i ys x (omega arith))
