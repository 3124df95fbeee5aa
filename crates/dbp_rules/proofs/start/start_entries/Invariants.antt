use Rattle.std.proofs.Common.{◌≡◌, map, take}
use Rattle.dbp_rules.specs.Start.{start_entry}
use Rattle.dbp_rules.proofs.start.start_entries.Given as goal

abbrev pub invariant-loop-task : goal.invariant-loop-task
invariant-loop-task l = l.entries ≡ map start_entry (take l.task-index l.tasks)
