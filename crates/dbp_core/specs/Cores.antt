-- What a contract sees of a core.
use Rattle.dbp_plan.specs.declared.plan.Plan.{Plan}
use Rattle.dbp_core.specs.declared.machine.Core.{Core}
use Rattle.dbp_rules.specs.declared.state.State.{State}
use Rattle.dbp_rules.specs.declared.step.Count.{Count}
use Rattle.dbp_rules.specs.declared.wiring.Wiring.{Wiring}

abbrev pub plan_in : Core → Plan
plan_in c = c.plan.value

abbrev pub count_in : Core → Count
count_in c = c.wiring.count

abbrev pub wiring_in : Core → Wiring
wiring_in c = c.wiring

abbrev pub state_in : Core → State
state_in c = c.state
