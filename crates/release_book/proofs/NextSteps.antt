-- The releaser's next step: there is one, and only one, and its part allows it.
use Rattle.std.proofs.Common.{◌≡◌, ℕ, ◌<◌, length, Option, Some, None, refl, sym, ◌∙◌, ap, subst, arith, inl, inr}
use Rattle.std.specs.Prelude.{slice_get}
use Rattle.std.proofs.lemmas.Bool.{cases_lt, eq-eqb}
use Rattle.std.proofs.lemmas.Option.{same_Some}
use Rattle.dbp_plan.specs.declared.plan.Plan.{Plan}
use Rattle.release_list.specs.declared.release.Release.{Release}
use Rattle.release_list.specs.declared.release.Release.TheVariants as release
use Rattle.dbp_rules.specs.PartyRules.{releaser_refusal}
use Rattle.dbp_rules.specs.PartyShapes.{IsNamedIn, ReleaserShape}
use Rattle.dbp_rules.specs.Lookups.{entry_in}
use Rattle.dbp_rules.specs.Promises.{IsLeastAimIn}
use Rattle.dbp_rules.specs.Shapes.{IsWired}
use Rattle.dbp_rules.specs.Wired.{wiring_of}
use Rattle.dbp_rules.specs.declared.parts.ReleaserPart.{ReleaserPart}
use Rattle.dbp_rules.specs.declared.step.Count.TheVariants.{All}
use Rattle.dbp_rules.specs.declared.step.Step.{Step}
use Rattle.dbp_rules.specs.declared.step.Step.TheVariants as step
use Rattle.dbp_rules.specs.declared.wiring.Wiring.{Wiring}
use Rattle.dbp_rules.proofs.Aims.{IsAllowedAim, aim_allowed}
use Rattle.dbp_rules.proofs.FreeAims.{some_aim}
use Rattle.dbp_rules.proofs.Wirings.{wiring-whole}
use Rattle.release_book.specs.NextStep.{IsNextAt, IsNextAtAim, IsNextStep, end_step, first_unended, step_of}
use Rattle.release_book.specs.declared.release_step.ReleaseStep.{ReleaseStep}
use Rattle.release_book.specs.declared.release_step.ReleaseStep.TheVariants.{Seen, Aim, Claim, OpenGate}
use Rattle.release_book.proofs.Searches.{least_below}

-- the step names what is there, and the part allows it
pub record MayMake (w : Wiring) (r : ReleaserPart) (e : Step) : Type 0 where
  pub named : IsNamedIn w e
  pub allowed : releaser_refusal w r e ≡ None

-- also if it is given as an equal step of the releaser
may_too : (w : Wiring) (r : ReleaserPart) (e f : ReleaseStep) (a b : Step) → e ≡ f → step_of f ≡ Some b → step_of e ≡ Some a → MayMake w r b → MayMake w r a
may_too w r e f a b same is also may = subst (λ (x : Step). MayMake w r x) (same_Some b a (sym is ∙ ap step_of (sym same) ∙ also)) may

-- the slot of an aim
abbrev slot_in : ReleaseStep → ℕ
slot_in (Aim i slot) = slot
slot_in _ = 0

module _ (p : Plan) (w : Wiring) (whole : IsWired p w) (r : ReleaserPart) (ok : ReleaserShape p w r) where
  pub aim_there : (i : ℕ) → slice_get w.releases r.place ≡ Some (release.Aim i) → i < length w.tasks
  aim_there i here = omega (arith, (whole.releases.at_aim r.place i here).named, whole.tasks)

  claim_there : (k : ℕ) → slice_get w.releases r.place ≡ Some (release.Claim k) → k < length w.links
  claim_there k here = omega (arith, (whole.releases.at_claim r.place k here).named, ap length whole.links)

  open_there : (i : ℕ) → slice_get w.releases r.place ≡ Some (release.OpenGate i) → i < length w.tasks
  open_there i here = omega (arith, (whole.releases.at_open r.place i here).named, whole.tasks)

  -- ---- it is allowed

  at_end : (e : ReleaseStep) (a : Step) (o : Option ℕ) → ((i : ℕ) → o ≡ Some i → i < length w.tasks) → e ≡ end_step o → step_of e ≡ Some a → MayMake w r a
  at_end e a (Some i) inside same is = may_too w r e (Seen i) a (step.Seen i) same refl is (record { named = inside i refl; allowed = refl })
  at_end e a None inside same is = let bad : None ≡ Some a = ap step_of (sym same) ∙ is in absurd (cc (bad))

  may_at : (e : ReleaseStep) (a : Step) (o : Option Release) → slice_get w.releases r.place ≡ o → IsNextAt w r o e → step_of e ≡ Some a → MayMake w r a
  may_at e a (Some (release.Aim i)) here next is =
      let inside : i < length w.tasks = aim_there i here in
      elim (cases_lt (entry_in r i).known (entry_in r i).aimed) [
        | inl less ↦ may_too w r e (Seen i) a (step.Seen i) (next.sees less) refl is (record { named = inside; allowed = refl })
        | inr more ↦
            let ended : (entry_in r i).aimed ≡ (entry_in r i).known = omega (arith, ok.known i inside) in
            let aim = next.aims ended in
            may_too w r e (Aim i aim.0) a (step.Aim i aim.0) aim.1 refl is (record { named = inside; allowed = aim.2.allowed })
      ]
  may_at e a (Some (release.Claim k)) here next is = may_too w r e (Claim k) a (step.Claim k) next refl is (record { named = claim_there k here; allowed = rw (here, eq-eqb k k refl) refl })
  may_at e a (Some (release.OpenGate i)) here next is = may_too w r e (OpenGate i) a (step.OpenGate i) next refl is (record { named = open_there i here; allowed = rw (here, eq-eqb i i refl) refl })
  may_at e a None here next is = at_end e a (first_unended w r) (λ i there. least_below _ (length w.tasks) i there) next is

  pub may_make : (e : ReleaseStep) (a : Step) → IsNextStep w r e → step_of e ≡ Some a → MayMake w r a
  may_make e a next is = may_at e a (slice_get w.releases r.place) refl next is

  -- ---- there is one

  least_same : (i n m : ℕ) → IsLeastAimIn w r i n → IsLeastAimIn w r i m → n ≡ m
  least_same i n m a b = omega (arith, a.least m b.allowed, b.least n a.allowed)

  one_at : (e f : ReleaseStep) (o : Option Release) → slice_get w.releases r.place ≡ o → IsNextAt w r o e → IsNextAt w r o f → e ≡ f
  one_at e f (Some (release.Aim i)) here next also = elim (cases_lt (entry_in r i).known (entry_in r i).aimed) [
    | inl less ↦ next.sees less ∙ sym (also.sees less)
    | inr more ↦
        let ended : (entry_in r i).aimed ≡ (entry_in r i).known = omega (arith, ok.known i (aim_there i here)) in
        let aim = next.aims ended in
        let other = also.aims ended in
        aim.1 ∙ ap (λ (n : ℕ). Aim i n) (least_same i aim.0 other.0 aim.2 other.2) ∙ sym other.1
  ]
  one_at e f (Some (release.Claim k)) here next also = next ∙ sym also
  one_at e f (Some (release.OpenGate i)) here next also = next ∙ sym also
  one_at e f None here next also = next ∙ sym also

  pub one_next : (e f : ReleaseStep) → IsNextStep w r e → IsNextStep w r f → e ≡ f
  one_next e f next also = one_at e f (slice_get w.releases r.place) refl next also

  -- ---- an aim is at the least slot

  pub least_next : (i slot : ℕ) → IsNextStep w r (Aim i slot) → IsLeastAimIn w r i slot
  least_next i slot next =
      let a : IsAllowedAim w r i slot = aim_allowed w r i slot (may_make (Aim i slot) (step.Aim i slot) next refl).allowed in
      let at : IsNextAtAim w r i (Aim i slot) = subst (λ (o : Option Release). IsNextAt w r o (Aim i slot)) a.here next in
      let aim = at.aims a.known in
      subst (λ (n : ℕ). IsLeastAimIn w r i n) (ap slot_in (sym aim.1)) aim.2

-- ---- there is some

module _ (p : Plan) (r : ReleaserPart) (ok : ReleaserShape p (wiring_of p All) r) where
  some_at : (o : Option Release) → slice_get (wiring_of p All).releases r.place ≡ o → (e : ReleaseStep) × IsNextAt (wiring_of p All) r o e
  some_at (Some (release.Aim i)) here =
      let inside : i < length (wiring_of p All).tasks = aim_there p (wiring_of p All) (wiring-whole p All) r ok i here in
      elim (cases_lt (entry_in r i).known (entry_in r i).aimed) [
        | inl less ↦ (Seen i, record { sees = λ _. refl; aims = λ ended. absurd (omega arith) })
        | inr more ↦
            let ended : (entry_in r i).aimed ≡ (entry_in r i).known = omega (arith, ok.known i inside) in
            let aim = some_aim p All r i (ok.each_entry i inside).kept here ended in
            (Aim i aim.0, record { sees = λ less. absurd (omega arith); aims = λ _. (aim.0, refl, aim.1) })
      ]
  some_at (Some (release.Claim k)) here = (Claim k, refl)
  some_at (Some (release.OpenGate i)) here = (OpenGate i, refl)
  some_at None here = (end_step (first_unended (wiring_of p All) r), refl)

  pub some_next : (e : ReleaseStep) × IsNextStep (wiring_of p All) r e
  some_next = some_at (slice_get (wiring_of p All).releases r.place) refl
