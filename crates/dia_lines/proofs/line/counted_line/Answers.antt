use Rattle.std.proofs.Common.{rules}
use Rattle.std.proofs.lemmas.Result.{err_from_is_err_and}
use Rattle.dia_lines.proofs.Reading.{script-found, script-refused, line-found, line-refused}
use Rattle.dia_lines.proofs.line.counted_line.Goals as goal

pub returns-in_ok-script_line-in-Script-clause-found : goal.returns-in_ok-script_line-in-Script-clause-found
returns-in_ok-script_line-in-Script-clause-found c before after = script-found before c.args.position after c.args.line.now c.in_ok-script_line-in-Script.field-0 c.in-Script.is c.in_ok-script_line-in-Script.ensures.found

pub returns-in_err-script_line-in-Script-clause-fault : goal.returns-in_err-script_line-in-Script-clause-fault
returns-in_err-script_line-in-Script-clause-fault c before after =
    let p = err_from_is_err_and c.from_residual.result c.from_residual.ensures.1 in
    rw (p.1, p.2) (script-refused before c.args.position after c.args.line.now c.in_err-script_line-in-Script.field-0.0 c.in-Script.is c.in_err-script_line-in-Script.ensures.fault)

pub returns-in_default-clause-found : goal.returns-in_default-clause-found
returns-in_default-clause-found c before after =
    line-found before c.args.position after c.args.line.now c.diagram_line.result (search rules) (search rules) (c.diagram_line.ensures.found before after)

pub returns-in_default-clause-fault : goal.returns-in_default-clause-fault
returns-in_default-clause-fault c before after =
    line-refused before c.args.position after c.args.line.now c.diagram_line.result (search rules) (search rules) (c.diagram_line.ensures.fault before after)
