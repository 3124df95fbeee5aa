-- Steps that are taken one after another from the start, and the first that isn't allowed.
use Rattle.std.specs.Prelude.{◌≡◌, ℕ, ◌+◌, List, [], ◌∷◌, take, slice_get, Some}
use Rattle.std.specs.List.{flat_map}
use Rattle.dbp_rules.specs.declared.step.Count.{Count}
use Rattle.dbp_rules.specs.declared.step.Heard.{Heard}
use Rattle.dbp_rules.specs.declared.step.Illegal.{Illegal}
use Rattle.dbp_rules.specs.declared.step.Step.{Step}
use Rattle.dbp_rules.specs.declared.state.State.{State}
use Rattle.dbp_rules.specs.declared.wiring.Wiring.{Wiring}
use Rattle.dbp_rules.specs.Lawful.{Leads}
use Rattle.dbp_rules.specs.Rules.{hears, next, refusal}
use Rattle.dbp_rules.specs.Start.{start_of}
use Rattle.dbp_rules.specs.Wired.{wiring_of}
use Rattle.dbp_plan.specs.declared.diagram.Diagram.{Diagram}
use Rattle.dbp_plan.specs.declared.plan.Plan.{Plan}
use Rattle.dbp_replay.specs.Texts.{heard_line}
use Rattle.dbp_replay.specs.declared.fail.ReplayFail.{ReplayFail}
use Rattle.dbp_replay.specs.declared.fail.ReplayFail.TheVariants as fail

-- the state before the first step
abbrev pub first : Plan → Count → State
first p count = start_of p (wiring_of p count)

-- the steps that are taken from this state on, each with what it hears
abbrev pub with_heard : Plan → Wiring → State → List Step → List (Step × Heard)
with_heard p w s [] = []
with_heard p w s (e ∷ es) = (e, hears w s e) ∷ with_heard p w (next p w s e) es

-- their lines
abbrev pub transcript : Diagram → List (Step × Heard) → List ℕ
transcript d taken = flat_map (λ x. heard_line d x.0 x.1) taken

abbrev pub heard_lines : Plan → Wiring → State → List Step → List ℕ
heard_lines p w s steps = transcript p.diagram (with_heard p w s steps)

-- all steps are allowed, and these are the steps, each with what it hears
pub record AreTaken (p : Plan) (count : Count) (steps : List Step) (taken : List (Step × Heard)) : Type 0 where
  pub state : State
  pub leads : Leads p (wiring_of p count) (first p count) steps state
  pub told : taken ≡ with_heard p (wiring_of p count) (first p count) steps

-- all steps are allowed, and the text says what each hears
pub record IsReplay (p : Plan) (count : Count) (steps : List Step) (text : List ℕ) : Type 0 where
  pub state : State
  pub leads : Leads p (wiring_of p count) (first p count) steps state
  pub told : text ≡ heard_lines p (wiring_of p count) (first p count) steps

-- the steps before the one with this number, counted from 1, are allowed, and after them it isn't
pub record IsIllegal (p : Plan) (count : Count) (steps : List Step) (number : ℕ) (why : Illegal) : Type 0 where
  pub place : ℕ
  pub state : State
  pub leads : Leads p (wiring_of p count) (first p count) (take place steps) state
  pub step : Step
  pub stands : slice_get steps place ≡ Some step
  pub refused : refusal (wiring_of p count) state step ≡ Some why
  pub which : number ≡ place + 1

-- what a refusal says; out of memory says nothing
abbrev pub IsReplayRefusal : Plan → Count → List Step → ReplayFail → Type 0
IsReplayRefusal p count steps (fail.Illegal number why) = IsIllegal p count steps number why
IsReplayRefusal p count steps fail.NoMemory = Unit {0}
