use Rattle.std.proofs.Common.{◌≡◌, map}
use Rattle.std.specs.List.{range_with_len}
use Rattle.dbp_rules.specs.Lookups.{wired_task}
use Rattle.dbp_plan.specs.Lookups.{declared_task}
use Rattle.dbp_rules.specs.Start.{start_task}
use Rattle.dbp_rules.proofs.start.start_tasks.Given as goal

abbrev pub invariant-loop-i : goal.invariant-loop-i
invariant-loop-i l = l.tasks ≡ map (λ i. start_task (wired_task l.wiring i) (declared_task l.plan i)) (range_with_len 0 l.i)
