-- Lists of steps, each of them allowed where it is made.
use Rattle.std.specs.Prelude.{◌≡◌, List, [], ◌∷◌, None}
use Rattle.dbp_plan.specs.declared.plan.Plan.{Plan}
use Rattle.dbp_rules.specs.Rules.{IsNamed, next, refusal}
use Rattle.dbp_rules.specs.declared.state.State.{State}
use Rattle.dbp_rules.specs.declared.step.Step.{Step}
use Rattle.dbp_rules.specs.declared.wiring.Wiring.{Wiring}

-- the steps lead from the one state to the other
abbrev pub Leads : Plan → Wiring → State → List Step → State → Type 0
Leads p w s [] new = new ≡ s
Leads p w s (e ∷ es) new = IsNamed p.diagram e × (refusal w s e ≡ None) × Leads p w (next p w s e) es new
