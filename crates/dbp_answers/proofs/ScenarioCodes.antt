-- Why the task of a name has no scenario, as it is told.
use Rattle.std.proofs.Common.{◌≡◌, ℕ, List, Option, None, Some, ap, ◌∙◌}
use Rattle.dbp_plan.specs.declared.diagram.Diagram.{Diagram}
use Rattle.dbp_replay.specs.StepForms.{task_named}
use Rattle.slot_need.specs.declared.fail.NeedFail.{NeedFail}
use Rattle.slot_need.specs.declared.fail.NeedFail.TheVariants as need
use Rattle.slot_need.specs.Faults.{IsNeedFail, need_fault}
use Rattle.dbp_answers.specs.ScenarioCodes.{code_of_task, fault_code, scenario_code}
use Rattle.dbp_answers.specs.declared.command_code.CommandCode.{CommandCode}

pub code-with : (d : Diagram) (name : List ℕ) (task : ℕ) (fault : Option NeedFail) → task_named d name ≡ Some task → need_fault d task ≡ fault → scenario_code d name ≡ fault_code d fault
code-with d name task fault at is = ap (code_of_task d) at ∙ ap (fault_code d) is

-- a task without a fault has no code
pub faultless : (d : Diagram) (name : List ℕ) (task : ℕ) → task_named d name ≡ Some task → need_fault d task ≡ None → scenario_code d name ≡ None
faultless d name task at none = code-with d name task None at none

-- the code of a failure is the name's
pub code-of-failure : (d : Diagram) (name : List ℕ) (task : ℕ) (fail : NeedFail) (code : CommandCode) → task_named d name ≡ Some task → IsNeedFail d task fail → fault_code d (Some fail) ≡ Some code → scenario_code d name ≡ Some code
code-of-failure d name task need.NotFixed code at is told = code-with d name task (Some need.NotFixed) at is ∙ told
code-of-failure d name task (need.NotOnEvents i) code at is told = code-with d name task (Some (need.NotOnEvents i)) at is ∙ told
code-of-failure d name task (need.SharedEvent i) code at is told = code-with d name task (Some (need.SharedEvent i)) at is ∙ told
code-of-failure d name task (need.TooLong until) code at is told = code-with d name task (Some (need.TooLong until)) at is ∙ told
code-of-failure d name task need.NoMemory code at is told = absurd cc
