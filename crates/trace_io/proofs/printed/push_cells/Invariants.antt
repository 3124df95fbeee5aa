use Rattle.std.proofs.Common.{◌≡◌, ◌++◌, take}
use Rattle.trace_io.specs.Lines.{cells_of}
use Rattle.trace_io.proofs.printed.push_cells.Given as goal

abbrev pub invariant-loop-word : goal.invariant-loop-word
invariant-loop-word l = l.text.items ≡ l.initial.text.items ++ cells_of (take l.word-index l.row)
