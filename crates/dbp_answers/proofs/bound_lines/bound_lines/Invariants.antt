use Rattle.std.proofs.Common.{◌≡◌}
use Rattle.std.specs.Prelude.{slice_index_or}
use Rattle.rta_check.specs.declared.bound.Bound.TheVariants.{Beyond}
use Rattle.rta_check.specs.Periods.{period_of}
use Rattle.dbp_answers.specs.BoundLines.{bound_line}
use Rattle.dbp_answers.proofs.TaskLineLaws.{lines_to}
use Rattle.dbp_answers.proofs.bound_lines.bound_lines.Given as goal

abbrev pub invariant-loop-i : goal.invariant-loop-i
invariant-loop-i l = l.text.items ≡ lines_to (λ i task. bound_line task.name (slice_index_or l.bounds i Beyond) (period_of task.clock)) l.diagram l.i
