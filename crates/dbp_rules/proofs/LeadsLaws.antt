-- Lists of allowed steps: one step more, two lists one after another, the step at a place, and the one state that a list leads to.
use Rattle.std.proofs.Common.{◌≡◌, ℕ, zero, suc, List, [], ◌∷◌, ◌++◌, take, slice_get, Option, Some, None, Ok, Err, refl, sym, ◌∙◌, subst, arith}
use Rattle.std.proofs.lemmas.Option.{same_Some, slice_get_within}
use Rattle.dbp_plan.specs.declared.plan.Plan.{Plan}
use Rattle.dbp_rules.specs.Lawful.{Leads}
use Rattle.dbp_rules.specs.Rules.{IsAnswer, IsNamed, hears, next, refusal}
use Rattle.dbp_rules.specs.declared.state.State.{State}
use Rattle.dbp_rules.specs.declared.step.Heard.{Heard}
use Rattle.dbp_rules.specs.declared.step.Illegal.{Illegal}
use Rattle.dbp_rules.specs.declared.step.Step.{Step}
use Rattle.dbp_rules.specs.declared.wiring.Wiring.{Wiring}

-- ---- answers

-- a step that hears something is allowed, and leads to the next state
pub answer_allowed : (o : Option Illegal) (p : Plan) (w : Wiring) (s new : State) (e : Step) (h : Heard) → IsAnswer o p w s e (Ok h) new → (o ≡ None) × (h ≡ hears w s e) × (new ≡ next p w s e)
answer_allowed None p w s new e h answer = (refl, cc (answer.0), answer.1)
answer_allowed (Some why) p w s new e h answer = absurd (cc (answer.0))

-- a step that is refused has this broken condition
pub answer_refused : (o : Option Illegal) (p : Plan) (w : Wiring) (s new : State) (e : Step) (why : Illegal) → IsAnswer o p w s e (Err why) new → o ≡ Some why
answer_refused None p w s new e why answer = absurd (cc (answer.0))
answer_refused (Some other) p w s new e why answer = cc (answer.0)

-- ---- lists of steps

-- a list after another
pub leads_on : (p : Plan) (w : Wiring) (es fs : List Step) (s t u : State) → Leads p w s es t → Leads p w t fs u → Leads p w s (es ++ fs) u
leads_on p w [] fs s t u same rest = subst (λ (x : State). Leads p w x fs u) same rest
leads_on p w (e ∷ es) fs s t u leads rest = (leads.0, leads.1, leads_on p w es fs (next p w s e) t u leads.2 rest)

-- one step more
pub leads_more : (p : Plan) (w : Wiring) (es : List Step) (s t : State) (e : Step) → Leads p w s es t → IsNamed p.diagram e → refusal w t e ≡ None → Leads p w s (es ++ e ∷ []) (next p w t e)
leads_more p w es s t e leads named free = leads_on p w es (e ∷ []) s t (next p w t e) leads (named, free, refl)

-- a list leads to one state
pub leads_once : (p : Plan) (w : Wiring) (es : List Step) (s t u : State) → Leads p w s es t → Leads p w s es u → t ≡ u
leads_once p w [] s t u same other = same ∙ sym other
leads_once p w (e ∷ es) s t u leads other = leads_once p w es (next p w s e) t u leads.2 other.2

-- after the steps before it, the step at a place is allowed
pub record IsAllowedAfter (p : Plan) (w : Wiring) (s : State) (before : List Step) (e : Step) : Type 0 where
  pub state : State
  pub leads : Leads p w s before state
  pub named : IsNamed p.diagram e
  pub free : refusal w state e ≡ None

pub leads_at : (p : Plan) (w : Wiring) (es : List Step) (s t : State) (k : ℕ) (e : Step) → Leads p w s es t → slice_get es k ≡ Some e → IsAllowedAfter p w s (take k es) e
leads_at p w [] s t k e leads at = absurd (omega (arith, slice_get_within [] k e at))
leads_at p w (f ∷ fs) s t zero e leads at = record {
  state = s;
  leads = refl;
  named = subst (λ (x : Step). IsNamed p.diagram x) (same_Some f e at) leads.0;
  free = subst (λ (x : Step). refusal w s x ≡ None) (same_Some f e at) leads.1;
}
leads_at p w (f ∷ fs) s t (suc k) e leads at =
    let rest : IsAllowedAfter p w (next p w s f) (take k fs) e = leads_at p w fs (next p w s f) t k e leads.2 at in
    record { state = rest.state; leads = (leads.0, leads.1, rest.leads); named = rest.named; free = rest.free }
