use Rattle.std.proofs.Common.{refl, subst}
use Rattle.std.proofs.lemmas.Option.{get_or_from_slice_get}
use Rattle.expr_eval.specs.LetOrders.{IsFailOf}
use Rattle.dia_check.specs.Diagrams.{lets_of}
use Rattle.dia_check.specs.Faults.{base_of, let_lines}
use Rattle.dia_check.proofs.TaskParts.{let-there}
use Rattle.dia_check.proofs.tasks.let_refusal.Goals as goal

pub let_line-requires-clause-there : goal.let_line-requires-clause-there
let_line-requires-clause-there c =
    let t = c.args.raw.now in
    let fail = subst (λ f. IsFailOf (base_of t) (lets_of t) f) c.in-Cycle.is c.requires.fail in
    rw c.items.ensures.value (let-there t c.args.lines.now c.in-Cycle.first c.in-Cycle.names c.requires.lines fail)

pub returns-in-Cycle : goal.returns-in-Cycle
returns-in-Cycle c =
    let there = rw c.items.ensures.value at c.let_line.ensures in
    rw (c.in-Cycle.is, get_or_from_slice_get (let_lines c.args.raw.now.parts c.args.lines.now) c.in-Cycle.first c.let_line.result 0 there) refl
