-- Steps that play events: two lists one after another, one step more, that they are allowed steps, and that they are one list.
use Rattle.std.proofs.Common.{◌≡◌, ℕ, suc, List, [], ◌∷◌, ◌++◌, length, refl, sym, ap, ◌∙◌, subst, arith}
use Rattle.dbp_plan.specs.declared.plan.Plan.{Plan}
use Rattle.dbp_rules.specs.Lawful.{Leads}
use Rattle.dbp_rules.specs.Rules.{next}
use Rattle.dbp_rules.specs.declared.state.State.{State}
use Rattle.dbp_rules.specs.declared.step.Step.{Step}
use Rattle.dbp_rules.specs.declared.step.Step.TheVariants.{Aim}
use Rattle.dbp_rules.specs.declared.wiring.Wiring.{Wiring}
use Rattle.instance_steps.specs.Events.{Event, aim_of, step_of}
use Rattle.instance_steps.specs.Plays.{IsStepOf, Moves, Plays}

module _ (p : Plan) (w : Wiring) where
  -- a list after another
  pub plays_on : (vs us : List Event) (es fs : List Step) (s t u : State) → Plays p w s vs es t → Plays p w t us fs u → Plays p w s (vs ++ us) (es ++ fs) u
  plays_on [] us [] fs s t u same rest = subst (λ (x : State). Plays p w x us fs u) same rest
  plays_on [] us (e ∷ es) fs s t u none rest = absurd none
  plays_on (v ∷ vs) us [] fs s t u none rest = absurd none
  plays_on (v ∷ vs) us (e ∷ es) fs s t u plays rest = (plays.0, plays.1, plays_on vs us es fs (next p w s e) t u plays.2 rest)

  -- and the other way round
  pub plays_apart : (vs us : List Event) (es : List Step) (s u : State) → Plays p w s (vs ++ us) es u
      → (front : List Step) × (back : List Step) × (t : State) × (es ≡ front ++ back) × Plays p w s vs front t × Plays p w t us back u
  plays_apart [] us es s u plays = ([], es, s, refl, refl, plays)
  plays_apart (v ∷ vs) us [] s u none = absurd none
  plays_apart (v ∷ vs) us (e ∷ es) s u plays =
      let (front, back, t, parts, first, rest) = plays_apart vs us es (next p w s e) u plays.2 in
      (e ∷ front, back, t, ap (λ (l : List Step). e ∷ l) parts, (plays.0, plays.1, first), rest)

  -- one step
  pub plays_one : (v : Event) (e : Step) (s : State) → IsStepOf w s v e → Moves p w s e → Plays p w s (v ∷ []) (e ∷ []) (next p w s e)
  plays_one v e s is moves = (is, moves, refl)

  -- such steps are allowed, one after the other
  pub plays_leads : (vs : List Event) (es : List Step) (s t : State) → Plays p w s vs es t → Leads p w s es t
  plays_leads [] [] s t same = same
  plays_leads [] (e ∷ es) s t none = absurd none
  plays_leads (v ∷ vs) [] s t none = absurd none
  plays_leads (v ∷ vs) (e ∷ es) s t plays = (plays.1.named, plays.1.allowed, plays_leads vs es (next p w s e) t plays.2)

  -- as many steps as events
  pub plays_long : (vs : List Event) (es : List Step) (s t : State) → Plays p w s vs es t → length es ≡ length vs
  plays_long [] [] s t same = refl
  plays_long [] (e ∷ es) s t none = absurd none
  plays_long (v ∷ vs) [] s t none = absurd none
  plays_long (v ∷ vs) (e ∷ es) s t plays = ap suc (plays_long vs es (next p w s e) t plays.2)

  -- an event is one step
  one_step : (s : State) (v : Event) (e f : Step) → IsStepOf w s v e → IsStepOf w s v f → e ≡ f
  one_step s (step_of x) e f is also = is ∙ sym also
  one_step s (aim_of i) e f is also =
      let same : is.0 ≡ also.0 = omega (arith, is.2.least also.0 also.2.allowed, also.2.least is.0 is.2.allowed) in
      is.1 ∙ ap (λ (slot : ℕ). Aim i slot) same ∙ sym also.1

  -- and events are one list of steps
  pub one_play : (vs : List Event) (es fs : List Step) (s t u : State) → Plays p w s vs es t → Plays p w s vs fs u → es ≡ fs
  one_play [] [] [] s t u h k = refl
  one_play [] [] (f ∷ fs) s t u h k = absurd k
  one_play [] (e ∷ es) fs s t u h k = absurd h
  one_play (v ∷ vs) [] fs s t u h k = absurd h
  one_play (v ∷ vs) (e ∷ es) [] s t u h k = absurd k
  one_play (v ∷ vs) (e ∷ es) (f ∷ fs) s t u h k =
      let same : e ≡ f = one_step s v e f h.0 k.0 in
      let rest : es ≡ fs = one_play vs es fs (next p w s e) t u h.2 (subst (λ (x : Step). Plays p w (next p w s x) vs fs u) (sym same) k.2) in
      cc
