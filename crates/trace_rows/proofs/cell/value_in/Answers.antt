use Rattle.std.proofs.Common.{◌≡◌, true, false, drop, ◌∙◌, rules}
use Rattle.dia_tokens.specs.Values.{is_negative}
use Rattle.trace_rows.proofs.CellNumbers.{value-negative, value-positive}
use Rattle.trace_rows.proofs.cell.value_in.Goals as goal

pub returns-in-Some : goal.returns-in-Some
returns-in-Some c =
    let minus : is_negative c.args.cell.now ≡ true = search rules in
    let rest : c.in-Some.digits.now ≡ drop 1 c.args.cell.now = search rules in
    c.negative.ensures ∙ value-negative c.args.cell.now c.in-Some.digits.now minus rest

pub returns-in-None : goal.returns-in-None
returns-in-None c =
    let plain : is_negative c.args.cell.now ≡ false = search rules in
    c.positive.ensures ∙ value-positive c.args.cell.now plain
