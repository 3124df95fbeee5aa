-- Steps are replayed with one text at most, and none if one of them is refused.
use Rattle.std.proofs.Common.{◌≡◌, ℕ, zero, suc, ◌<◌, ◌≤◌, List, [], ◌∷◌, take, slice_get, Some, None, refl, sym, ap, ◌∙◌, subst, arith, inl, inr}
use Rattle.std.proofs.lemmas.Bool.{cases_order}
use Rattle.std.proofs.lemmas.Option.{same_Some}
use Rattle.dbp_rules.specs.declared.step.Count.{Count}
use Rattle.dbp_rules.specs.declared.step.Illegal.{Illegal}
use Rattle.dbp_rules.specs.declared.step.Step.{Step}
use Rattle.dbp_rules.specs.declared.state.State.{State}
use Rattle.dbp_rules.specs.Lawful.{Leads}
use Rattle.dbp_rules.specs.Rules.{refusal}
use Rattle.dbp_rules.specs.Wired.{wiring_of}
use Rattle.dbp_rules.proofs.LeadsLaws.{IsAllowedAfter, leads_at, leads_once}
use Rattle.dbp_plan.specs.declared.plan.Plan.{Plan}
use Rattle.dbp_plan.specs.ListItems.{take_place}
use Rattle.dbp_replay.specs.Replays.{IsIllegal, IsReplay, first}

take-shorter : {X : Type 0} (xs : List X) (k n : ℕ) → k ≤ n → take k (take n xs) ≡ take k xs
take-shorter [] zero n le = refl
take-shorter [] (suc k) zero le = refl
take-shorter [] (suc k) (suc n) le = refl
take-shorter (x ∷ xs) zero n le = refl
take-shorter (x ∷ xs) (suc k) zero le = absurd (omega (arith, le))
take-shorter (x ∷ xs) (suc k) (suc n) le = ap (λ (ys : List _). x ∷ ys) (take-shorter xs k n (omega (arith, le)))

-- of steps that were taken none is refused
none-refused : (p : Plan) (count : Count) (es : List Step) (t u : State) (k : ℕ) (e : Step) (why : Illegal) → Leads p (wiring_of p count) (first p count) es t → slice_get es k ≡ Some e
    → Leads p (wiring_of p count) (first p count) (take k es) u → refusal (wiring_of p count) u e ≡ Some why → ⊥
none-refused p count es t u k e why leads at front refused =
    let w = wiring_of p count in
    let is : IsAllowedAfter p w (first p count) (take k es) e = leads_at p w es (first p count) t k e leads at in
    let same : is.state ≡ u = leads_once p w (take k es) (first p count) is.state u is.leads front in
    absurd (cc (refused, subst (λ (x : State). refusal w x e ≡ None) same is.free))

earlier : (p : Plan) (count : Count) (steps : List Step) (k l : ℕ) (why other : Illegal) (i : IsIllegal p count steps k why) (j : IsIllegal p count steps l other) → i.place < j.place → ⊥
earlier p count steps k l why other i j less =
    none-refused p count (take j.place steps) j.state i.state i.place i.step why j.leads (take_place steps j.place i.place less ∙ i.stands)
    (subst (λ (es : List Step). Leads p (wiring_of p count) (first p count) es i.state) (sym (take-shorter steps i.place j.place (omega (arith, less)))) i.leads) i.refused

pub text-once : (p : Plan) (count : Count) (steps : List Step) (a b : List ℕ) → IsReplay p count steps a → IsReplay p count steps b → a ≡ b
text-once p count steps a b x y = x.told ∙ sym y.told

pub text-not-refused : (p : Plan) (count : Count) (steps : List Step) (text : List ℕ) (number : ℕ) (why : Illegal) → IsReplay p count steps text → IsIllegal p count steps number why → ⊥
text-not-refused p count steps text number why x i = none-refused p count steps x.state i.state i.place i.step why x.leads i.stands i.leads i.refused

pub refused-once : (p : Plan) (count : Count) (steps : List Step) (k l : ℕ) (why other : Illegal) → IsIllegal p count steps k why → IsIllegal p count steps l other → (k ≡ l) × (why ≡ other)
refused-once p count steps k l why other i j =
    elim (cases_order i.place j.place) [
      | inl same ↦
          let w = wiring_of p count in
          let there : Leads p w (first p count) (take j.place steps) i.state = subst (λ (n : ℕ). Leads p w (first p count) (take n steps) i.state) same i.leads in
          let state : i.state ≡ j.state = leads_once p w (take j.place steps) (first p count) i.state j.state there j.leads in
          let step : i.step ≡ j.step = same_Some i.step j.step (sym i.stands ∙ ap (λ (n : ℕ). slice_get steps n) same ∙ j.stands) in
          let again : refusal w j.state j.step ≡ Some why = subst (λ (x : State). refusal w x j.step ≡ Some why) state (subst (λ (x : Step). refusal w i.state x ≡ Some why) step i.refused) in
          (omega (arith, i.which, j.which, same), same_Some why other (sym again ∙ j.refused))
      | inr (inl less) ↦ absurd (earlier p count steps k l why other i j less)
      | inr (inr more) ↦ absurd (earlier p count steps l k other why j i more)
    ]
