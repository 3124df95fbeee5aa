use Rattle.std.proofs.Common.{ℕ, ◌<◌, get_or}
use Rattle.dbp_top.specs.Commands.{NamesBy, row_of}
use Rattle.dbp_answers.specs.declared.command.Command.{Command}
use Rattle.dbp_top.proofs.CommandRows.{no_row}
use Rattle.dbp_top.proofs.table.command_of.Given as goal

abbrev pub invariant-loop-row : goal.invariant-loop-row
invariant-loop-row l = (k : ℕ) → k < l.row-index → (command : Command) → NamesBy (row_of (get_or l.row-items k no_row)) l.arguments command → ⊥
