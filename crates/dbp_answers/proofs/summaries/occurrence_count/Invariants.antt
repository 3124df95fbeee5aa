use Rattle.std.proofs.Common.{◌≡◌, take}
use Rattle.dbp_plan.specs.Occurrences.{occurrence_count}
use Rattle.dbp_answers.proofs.summaries.occurrence_count.Given as goal

abbrev pub invariant-loop-batch : goal.invariant-loop-batch
invariant-loop-batch l = l.count ≡ occurrence_count (take l.batch-index l.plan.batches)
