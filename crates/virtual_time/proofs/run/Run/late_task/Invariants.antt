use Rattle.std.proofs.Common.{ℕ, ◌≡◌, true, take, slice_index, MatchOption}
use Rattle.dbp_plan.specs.Numbers.{is_in}
use Rattle.virtual_time.specs.Runs.{IsWorst}
use Rattle.virtual_time.proofs.run.Run.late_task.Given as goal

abbrev pub invariant-loop-task : goal.invariant-loop-task
invariant-loop-task g l =
    MatchOption l.worst ((i : ℕ) → is_in (take l.task-index l.task-items) i ≡ true → slice_index l.self.rest.items i ≡ 0) (λ i. IsWorst l.plan (take l.task-index l.task-items) l.self.rest.items i)
