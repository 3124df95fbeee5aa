-- The steps that a list of events makes of the protocol.
use Rattle.std.specs.Prelude.{◌≡◌, ◌≢◌, ℕ, List, [], ◌∷◌, None}
use Rattle.dbp_plan.specs.declared.plan.Plan.{Plan}
use Rattle.dbp_rules.specs.Promises.{IsLeastAim}
use Rattle.dbp_rules.specs.Rules.{IsNamed, hears, next, refusal}
use Rattle.dbp_rules.specs.declared.state.State.{State}
use Rattle.dbp_rules.specs.declared.step.Heard.TheVariants.{Closed, NotYet}
use Rattle.dbp_rules.specs.declared.step.Step.{Step}
use Rattle.dbp_rules.specs.declared.step.Step.TheVariants.{Aim}
use Rattle.dbp_rules.specs.declared.wiring.Wiring.{Wiring}
use Rattle.instance_steps.specs.Events.{Event, aim_of, step_of}

-- the step is that of the event; an aim names the least slot that is allowed in the state
abbrev pub IsStepOf : Wiring → State → Event → Step → Type 0
IsStepOf w s (step_of x) e = e ≡ x
IsStepOf w s (aim_of i) e = (slot : ℕ) × (e ≡ Aim i slot) × IsLeastAim w s i slot

-- the step is allowed, and moves its party: no start finds its gate closed, and no look misses its row
pub record Moves (p : Plan) (w : Wiring) (s : State) (e : Step) : Type 0 where
  pub named : IsNamed p.diagram e
  pub allowed : refusal w s e ≡ None
  pub open_ : hears w s e ≢ Closed
  pub ready : hears w s e ≢ NotYet

-- the steps play the events from the one state to the other
abbrev pub Plays : Plan → Wiring → State → List Event → List Step → State → Type 0
Plays p w s [] [] new = new ≡ s
Plays p w s (v ∷ vs) (e ∷ es) new = IsStepOf w s v e × Moves p w s e × Plays p w (next p w s e) vs es new
Plays p w s [] (e ∷ es) new = ⊥
Plays p w s (v ∷ vs) [] new = ⊥
