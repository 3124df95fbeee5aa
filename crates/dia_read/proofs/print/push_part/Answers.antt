use Rattle.std.proofs.Common.{◌≡◌, subst}
use Rattle.std.specs.Prelude.{OnOk}
use Rattle.dia_print.specs.ItemTokens.{part_tokens}
use Rattle.dia_print.specs.Printed.{Printed}
use Rattle.dia_print.proofs.PrintedTokens.{indented}
use Rattle.dia_read.proofs.print.push_part.Goals as goal

pub returns : goal.returns
returns c =
    let line = indented c.args.printer.now c.push_bytes.new.self c.push_part.new.self (part_tokens c.args.part.now) c.in_ok-push_bytes.ensures c.in_ok-push_part.ensures in
    subst (λ (p : Printed). OnOk c.end_line.result (c.end_line.new.self ≡ p)) line c.end_line.ensures
