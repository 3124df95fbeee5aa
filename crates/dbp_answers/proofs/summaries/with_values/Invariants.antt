use Rattle.std.proofs.Common.{◌≡◌, fold, take}
use Rattle.dbp_answers.specs.Summaries.{with_value}
use Rattle.dbp_answers.proofs.summaries.with_values.Given as goal

abbrev pub invariant-loop-value : goal.invariant-loop-value
invariant-loop-value l = l.sum ≡ fold with_value l.total (take l.value-index l.values)
