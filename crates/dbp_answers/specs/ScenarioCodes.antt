-- Why the task of a name has no scenario, as it is told.
use Rattle.std.specs.Prelude.{ℕ, List, Option, Some, None}
use Rattle.dbp_plan.specs.declared.diagram.Diagram.{Diagram}
use Rattle.dbp_plan.specs.Lookups.{task_at}
use Rattle.dbp_replay.specs.StepForms.{task_named}
use Rattle.slot_need.specs.declared.fail.NeedFail.{NeedFail}
use Rattle.slot_need.specs.declared.fail.NeedFail.TheVariants as need
use Rattle.slot_need.specs.Faults.{need_fault}
use Rattle.dbp_answers.specs.declared.command_code.CommandCode.{CommandCode}
use Rattle.dbp_answers.specs.declared.command_code.CommandCode.TheVariants.{NoTask, NotFixed, NotOnEvents, SharedEvent, TooLong}

-- a fault, with the name of the task that it is of
abbrev pub fault_code : Diagram → Option NeedFail → Option CommandCode
fault_code d (Some need.NotFixed) = Some NotFixed
fault_code d (Some (need.NotOnEvents task)) = Some (NotOnEvents (task_at d task).name)
fault_code d (Some (need.SharedEvent task)) = Some (SharedEvent (task_at d task).name)
fault_code d (Some (need.TooLong until)) = Some TooLong
fault_code d (Some need.NoMemory) = None
fault_code d None = None

abbrev pub code_of_task : Diagram → Option ℕ → Option CommandCode
code_of_task d None = Some NoTask
code_of_task d (Some task) = fault_code d (need_fault d task)

-- that there is no such task comes before what its scenario lacks
abbrev pub scenario_code : Diagram → List ℕ → Option CommandCode
scenario_code d name = code_of_task d (task_named d name)
