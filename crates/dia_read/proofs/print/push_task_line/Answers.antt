use Rattle.std.proofs.Common.{◌≡◌, subst}
use Rattle.std.specs.Prelude.{OnOk}
use Rattle.dia_print.specs.ItemTokens.{task_tokens}
use Rattle.dia_print.specs.Printed.{Printed}
use Rattle.dia_read.specs.Documents.{first_line}
use Rattle.dia_print.proofs.PrintedTokens.{line-is}
use Rattle.dia_read.proofs.print.push_task_line.Goals as goal

pub returns : goal.returns
returns c =
    let line = line-is c.args.printer.now c.push_task.new.self (task_tokens c.args.version (first_line c.args.task.now)) c.requires (rw c.first_line.ensures at c.in_ok-push_task.ensures) in
    subst (λ (p : Printed). OnOk c.end_line.result (c.end_line.new.self ≡ p)) line c.end_line.ensures
