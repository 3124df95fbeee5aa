use Rattle.std.proofs.Common.{◌≡◌, fold, take}
use Rattle.dbp_answers.specs.Summaries.{with_rows}
use Rattle.dbp_answers.proofs.summaries.total_of.Given as goal

abbrev pub invariant-loop-rows : goal.invariant-loop-rows
invariant-loop-rows l = l.total ≡ fold with_rows 0 (take l.rows-index l.table.tasks)
