use Rattle.std.proofs.Common.{sym, ◌∙◌, arith}
use Rattle.dia_exprs.proofs.Steps.{ok_map, err_map}
use Rattle.dia_lines.specs.FormShapes.{shape_of}
use Rattle.dia_lines.proofs.FormLaws.{expression-fits}
use Rattle.dia_lines.proofs.StatementLaws.{kept-stands, refused-stands, none-stands, no-form}
use Rattle.dia_lines.proofs.statement.statement.Goals as goal

pub kept-requires-clause-nodes : goal.kept-requires-clause-nodes
kept-requires-clause-nodes c = let fits = expression-fits c.args.tokens.now (shape_of c.in-Some.form) (sym c.in-Some.ensures) in omega arith

pub kept-requires-clause-depth : goal.kept-requires-clause-depth
kept-requires-clause-depth c = let fits = expression-fits c.args.tokens.now (shape_of c.in-Some.form) (sym c.in-Some.ensures) in omega arith

pub returns-then-may_stand-clause-found : goal.returns-then-may_stand-clause-found
returns-then-may_stand-clause-found c =
    ok_map _ _ c.kept.result (λ l. kept-stands c.args.version c.args.place c.args.tokens.now (shape_of c.in-Some.form) l c.in-Some.ensures (sym c.may_stand.ensures ∙ c.if-may_stand.true))
    c.kept.ensures.found

pub returns-then-may_stand-clause-fault : goal.returns-then-may_stand-clause-fault
returns-then-may_stand-clause-fault c =
    err_map _ _ c.kept.result (λ e. refused-stands c.args.version c.args.place c.args.tokens.now (shape_of c.in-Some.form) e c.in-Some.ensures (sym c.may_stand.ensures ∙ c.if-may_stand.true))
    c.kept.ensures.fault

pub returns-else-may_stand-clause-fault : goal.returns-else-may_stand-clause-fault
returns-else-may_stand-clause-fault c = rw c.from.ensures (none-stands c.args.version c.args.place c.args.tokens.now (shape_of c.in-Some.form) c.in-Some.ensures (sym c.may_stand.ensures ∙ c.if-may_stand.false))

pub returns-in-None-clause-fault : goal.returns-in-None-clause-fault
returns-in-None-clause-fault c = rw c.from-in-None.ensures (no-form c.args.version c.args.place c.args.tokens.now c.in-None.ensures)
