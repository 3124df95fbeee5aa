-- What a contract sees of a stepper.
use Rattle.dbp_plan.specs.declared.plan.Plan.{Plan}
use Rattle.dbp_core.specs.declared.stepper.Stepper.{Stepper}
use Rattle.dbp_rules.specs.Listing.{with_releases}
use Rattle.dbp_rules.specs.declared.state.State.{State}
use Rattle.dbp_rules.specs.declared.step.Count.{Count}
use Rattle.dbp_rules.specs.declared.wiring.Wiring.{Wiring}

abbrev pub plan_in : Stepper → Plan
plan_in s = s.plan.value

abbrev pub count_in : Stepper → Count
count_in s = s.wiring.count

-- with the releaser's actions, of which it keeps no list
abbrev pub wiring_in : Stepper → Wiring
wiring_in s = with_releases s.plan.value s.wiring

abbrev pub state_in : Stepper → State
state_in s = s.state
