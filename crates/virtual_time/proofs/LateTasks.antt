-- The highest-ranked of a batch's tasks of which something is left, task by task.
use Rattle.std.proofs.Common.{◌≡◌, ℕ, ◌+◌, ◌<◌, ◌≤◌, ◌⊎◌, ◌||◌, eqb, true, List, length, take, get_or, Option, Some, None, sym, ap, ◌∙◌, subst, inl, inr, ⊎_elim, arith, MatchOption, slice_index}
use Rattle.std.specs.Prelude.{IfSome, IsSome}
use Rattle.std.proofs.lemmas.Bool.{or_cases, or_left, or_right, eqb-true, eq-eqb}
use Rattle.std.proofs.lemmas.List.Folds.{list_any_more}
use Rattle.dbp_plan.specs.declared.plan.Plan.{Plan}
use Rattle.dbp_plan.specs.Numbers.{is_in}
use Rattle.virtual_time.specs.Runs.{IsWorst}

module _ (P : Plan) (tasks rest : List ℕ) (j t : ℕ) (small : j < length tasks) (is : t ≡ get_or tasks j 0) (inside : t < length P.diagram.tasks) where
  more : (i : ℕ) → is_in (take (j + 1) tasks) i ≡ (is_in (take j tasks) i || eqb (get_or tasks j 0) i)
  more i = list_any_more (λ q. eqb q i) tasks j 0 small

  split : (i : ℕ) → is_in (take (j + 1) tasks) i ≡ true → (is_in (take j tasks) i ≡ true) ⊎ (i ≡ t)
  split i e = ⊎_elim
      (λ (a : is_in (take j tasks) i ≡ true). inl a)
      (λ (a : eqb (get_or tasks j 0) i ≡ true). inr (sym (eqb-true _ _ a) ∙ sym is))
      (or_cases (is_in (take j tasks) i) (eqb (get_or tasks j 0) i) (sym (more i) ∙ e))

  still : (i : ℕ) → is_in (take j tasks) i ≡ true → is_in (take (j + 1) tasks) i ≡ true
  still i e = more i ∙ or_left (is_in (take j tasks) i) (eqb (get_or tasks j 0) i) e

  own : is_in (take (j + 1) tasks) t ≡ true
  own = more t ∙ or_right (is_in (take j tasks) t) (eqb (get_or tasks j 0) t) (eq-eqb _ _ (sym is))

  abbrev pub None_left : ℕ → Type 0
  None_left n = (i : ℕ) → is_in (take n tasks) i ≡ true → slice_index rest i ≡ 0

  abbrev pub Worst : ℕ → Option ℕ → Type 0
  Worst n o = MatchOption o (None_left n) (λ i. IsWorst P (take n tasks) rest i)

  -- nothing is left of the task
  pub skips : (worst : Option ℕ) → slice_index rest t ≡ 0 → Worst j worst → Worst (j + 1) worst
  skips None none h = λ i e. ⊎_elim (λ (a : is_in (take j tasks) i ≡ true). h i a) (λ (a : i ≡ t). ap (slice_index rest) a ∙ none) (split i e)
  skips (Some w) none h = record {
    small = h.small;
    named = still w h.named;
    late = h.late;
    highest = λ k e some. ⊎_elim
        (λ (a : is_in (take j tasks) k ≡ true). h.highest k a some)
        (λ (a : k ≡ t). let z = ap (slice_index rest) a in absurd (omega (arith, z, none, some)))
        (split k e);
  }

  abbrev Chosen : Option ℕ → ℕ → Type 0
  Chosen worst k = ((k ≡ t) ⊎ (worst ≡ Some k)) × (slice_index P.diagram.ranks k ≤ slice_index P.diagram.ranks t) × IfSome worst (λ i. slice_index P.diagram.ranks k ≤ slice_index P.diagram.ranks i)

  -- something is left of it
  pub chooses : (worst result : Option ℕ) → 0 < slice_index rest t → Worst j worst → IfSome result (Chosen worst) → IsSome result → Worst (j + 1) result
  chooses worst None some h c there = absurd (cc (there))
  chooses None (Some k) some h c there = ⊎_elim
      (λ (e : k ≡ t). record {
        small = subst (λ (i : ℕ). i < length P.diagram.tasks) (sym e) inside;
        named = subst (λ (i : ℕ). is_in (take (j + 1) tasks) i ≡ true) (sym e) own;
        late = subst (λ (i : ℕ). 0 < slice_index rest i) (sym e) some;
        highest = λ i n left. ⊎_elim
            (λ (a : is_in (take j tasks) i ≡ true). let z = h i a in absurd (omega (arith, z, left)))
            (λ (a : i ≡ t). subst (λ (q : ℕ). slice_index P.diagram.ranks k ≤ slice_index P.diagram.ranks q) (sym a) c.1)
            (split i n);
      })
      (λ e. absurd (cc (e)))
      c.0
  chooses (Some w) (Some k) some h c there = record {
    small = ⊎_elim
        (λ (e : k ≡ t). subst (λ (i : ℕ). i < length P.diagram.tasks) (sym e) inside)
        (λ (e : Some w ≡ Some k). let s : w ≡ k = cc in subst (λ (i : ℕ). i < length P.diagram.tasks) s h.small)
        c.0;
    named = ⊎_elim
        (λ (e : k ≡ t). subst (λ (i : ℕ). is_in (take (j + 1) tasks) i ≡ true) (sym e) own)
        (λ (e : Some w ≡ Some k). let s : w ≡ k = cc in subst (λ (i : ℕ). is_in (take (j + 1) tasks) i ≡ true) s (still w h.named))
        c.0;
    late = ⊎_elim
        (λ (e : k ≡ t). subst (λ (i : ℕ). 0 < slice_index rest i) (sym e) some)
        (λ (e : Some w ≡ Some k). let s : w ≡ k = cc in subst (λ (i : ℕ). 0 < slice_index rest i) s h.late)
        c.0;
    highest = λ i n left. ⊎_elim
        (λ (a : is_in (take j tasks) i ≡ true). let b = h.highest i a left in let d = c.2 in omega (arith, b, d))
        (λ (a : i ≡ t). subst (λ (q : ℕ). slice_index P.diagram.ranks k ≤ slice_index P.diagram.ranks q) (sym a) c.1)
        (split i n);
  }
