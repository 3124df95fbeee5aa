use Rattle.std.proofs.Common.{◌≡◌, [], rules}
use Rattle.std.proofs.lemmas.List.{nil_from_length}
use Rattle.std.specs.Prelude.{codes}
use Rattle.dia_lines.specs.Trimmed.{trimmed}
use Rattle.dia_lines.specs.Statements.{nothing, script, done}
use Rattle.dia_lines.specs.Lines.{says, row}
use Rattle.dia_lines.proofs.TraceLaws.{says_nothing, says_done, says_script, says_row}
use Rattle.dia_lines.proofs.trace.trace_line.Goals as goal

pub returns-then-is_empty-clause-found : goal.returns-then-is_empty-clause-found
returns-then-is_empty-clause-found c =
    let e : trimmed c.args.line.now ≡ [] = nil_from_length (trimmed c.args.line.now) (search rules) in (says nothing, says_nothing c.args.line.now e, tt)

pub returns-then-eq-clause-found : goal.returns-then-eq-clause-found
returns-then-eq-clause-found c =
    let e : trimmed c.args.line.now ≡ codes "done" = search rules in (says done, says_done c.args.line.now e, tt)

pub returns-then-eq-2-clause-found : goal.returns-then-eq-2-clause-found
returns-then-eq-2-clause-found c =
    let e : trimmed c.args.line.now ≡ codes "script" = search rules in (says script, says_script c.args.line.now e, tt)

pub returns-else-eq-2-clause-found : goal.returns-else-eq-2-clause-found
returns-else-eq-2-clause-found c =
    (row c.args.line.now, says_row c.args.line.now (search rules) (search rules) (search rules) (search rules), tt)
