-- The tasks of a batch begin their instances, one by one.
use Rattle.std.proofs.Common.{◌≡◌, ◌≢◌, ℕ, ◌+◌, ◌<◌, ◌⊎◌, ◌↔◌, ◌||◌, true, false, eqb, List, length, get_or, take, sym, ◌∙◌, subst, inl, inr, ⊎_elim}
use Rattle.std.proofs.lemmas.Bool.{cases_eq, or_cases, or_left, or_right, or_parts, eqb-true, eqb-false, eq-eqb}
use Rattle.std.proofs.lemmas.List.Folds.{list_any_more}
use Rattle.dbp_plan.specs.declared.plan.Plan.{Plan}
use Rattle.rank_order.specs.declared.ready.Ready.{Ready}
use Rattle.dbp_plan.specs.Lookups.{declared_task}
use Rattle.virtual_time.specs.State.{Sets}
use Rattle.rank_order.specs.Queue.{Holds, MadeFor}
use Rattle.dbp_plan.specs.Numbers.{is_in}

-- after the first j tasks
pub record Renewing (P : Plan) (tasks : List ℕ) (j time : ℕ) (rest rest' : List ℕ) (ready ready' : Ready) : Type 0 where
  pub long : length rest' ≡ length rest
  pub named : (i : ℕ) → is_in (take j tasks) i ≡ true → get_or rest' i 0 ≡ (declared_task P i).cost
  pub others : (i : ℕ) → is_in (take j tasks) i ≡ false → get_or rest' i 0 ≡ get_or rest i 0
  pub made : MadeFor ready' P.diagram
  pub held : (i a : ℕ) → Holds ready' i a ↔ (((is_in (take j tasks) i ≡ true) × (a ≡ time)) ⊎ Holds ready i a)

module _ (P : Plan) (tasks : List ℕ) (j time : ℕ) (rest rest' : List ℕ) (ready ready' : Ready) (h : Renewing P tasks j time rest rest' ready ready') (small : j < length tasks) where
  task : ℕ
  task = get_or tasks j 0

  pub one_more : (rest'' : List ℕ) (ready'' : Ready) (t : ℕ) → t ≡ get_or tasks j 0 → Sets 0 rest' t (declared_task P t).cost rest'' → MadeFor ready'' P.diagram
      → ((i a : ℕ) → Holds ready'' i a ↔ (((i ≡ t) × (a ≡ time)) ⊎ Holds ready' i a))
      → Renewing P tasks (j + 1) time rest rest'' ready ready''
  one_more rest'' ready'' t is sets made held =
      let more : (i : ℕ) → is_in (take (j + 1) tasks) i ≡ (is_in (take j tasks) i || eqb (get_or tasks j 0) i) = λ i. list_any_more (λ q. eqb q i) tasks j 0 small in
      record {
        long = sets.long ∙ h.long;
        named = λ i e. ⊎_elim
            (λ (s : i ≡ t). subst (λ (k : ℕ). get_or rest'' k 0 ≡ (declared_task P k).cost) (sym s) sets.same)
            (λ (ne : i ≢ t). sets.others i ne ∙ h.named i (⊎_elim
            (λ (a : is_in (take j tasks) i ≡ true). a)
            (λ (a : eqb (get_or tasks j 0) i ≡ true). absurd (ne (sym (eqb-true _ _ a) ∙ sym is)))
            (or_cases (is_in (take j tasks) i) (eqb (get_or tasks j 0) i) (sym (more i) ∙ e))))
            (cases_eq i t);
        others = λ i e.
            let two = or_parts (is_in (take j tasks) i) (eqb (get_or tasks j 0) i) (sym (more i) ∙ e) in
            sets.others i (λ (s : i ≡ t). eqb-false (get_or tasks j 0) i two.1 (sym is ∙ sym s)) ∙ h.others i two.0;
        made = made;
        held = λ i a. (
          (λ w. ⊎_elim
              (λ (s : (i ≡ t) × (a ≡ time)). inl (more i ∙ or_right (is_in (take j tasks) i) (eqb (get_or tasks j 0) i) (eq-eqb _ _ (sym is ∙ sym s.0)), s.1))
              (λ (v : Holds ready' i a). ⊎_elim
              (λ (u : (is_in (take j tasks) i ≡ true) × (a ≡ time)). inl (more i ∙ or_left (is_in (take j tasks) i) (eqb (get_or tasks j 0) i) u.0, u.1))
              (λ (u : Holds ready i a). inr u)
              ((h.held i a).0 v))
              ((held i a).0 w)),
          (λ w. ⊎_elim
              (λ (u : (is_in (take (j + 1) tasks) i ≡ true) × (a ≡ time)). ⊎_elim
              (λ (b : is_in (take j tasks) i ≡ true). (held i a).1 (inr ((h.held i a).1 (inl (b, u.1)))))
              (λ (b : eqb (get_or tasks j 0) i ≡ true). (held i a).1 (inl (sym (eqb-true _ _ b) ∙ sym is, u.1)))
              (or_cases (is_in (take j tasks) i) (eqb (get_or tasks j 0) i) (sym (more i) ∙ u.0)))
              (λ (u : Holds ready i a). (held i a).1 (inr ((h.held i a).1 (inr u))))
              w),
        );
      }
