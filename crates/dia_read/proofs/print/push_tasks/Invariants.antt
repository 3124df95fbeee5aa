use Rattle.std.proofs.Common.{◌≡◌, take}
use Rattle.std.specs.List.{flat_map}
use Rattle.dia_print.specs.Printed.{with_bytes}
use Rattle.dia_read.specs.Canonical.{task_text}
use Rattle.dia_read.proofs.print.push_tasks.Given as goal

abbrev pub invariant-loop-task : goal.invariant-loop-task
invariant-loop-task l = l.printer ≡ with_bytes l.initial.printer (flat_map (task_text l.version) (take l.task-index l.task-items))
