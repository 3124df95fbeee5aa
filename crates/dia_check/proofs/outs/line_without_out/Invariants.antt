use Rattle.std.proofs.Common.{◌≡◌, drop}
use Rattle.dia_check.specs.Faults.{line_without_out, outless_line}
use Rattle.dia_check.proofs.outs.line_without_out.Given as goal

abbrev pub invariant-loop-place : goal.invariant-loop-place
invariant-loop-place l = line_without_out l.fn.doc ≡ outless_line (drop l.place l.fn.doc.body.tasks) (drop l.place l.fn.doc.lines.tasks)
