use Rattle.std.proofs.Common.{ℕ, List, refl, sym, subst, inl, inr}
use Rattle.std.proofs.lemmas.Result.{err_from_is_err_and}
use Rattle.dbp_plan.proofs.TableRows.{has_rows}
use Rattle.dbp_answers.specs.Answer.{Makes, of_plan, table_lines}
use Rattle.dbp_answers.specs.Commands.{the_table}
use Rattle.dbp_answers.specs.declared.command.Command.TheVariants.{Run}
use Rattle.dbp_answers.proofs.MeantTables.{meant}
use Rattle.dbp_top.proofs.run.run_lines.Goals as goal

pub returns-in_err-table-clause-runs : goal.returns-in_err-table-clause-runs
returns-in_err-table-clause-runs g c =
    let p = err_from_is_err_and c.from_residual.result c.from_residual.ensures.1 in
    rw (p.1, p.2) (elim c.in_err-table.ensures.runs [ inl same ↦ inl same | inr more ↦ inr (c.args.plan.now, more, c.requires) ])

pub lines-requires : goal.lines-requires
lines-requires g c =
    let p = c.args.plan.now in
    has_rows p.diagram.tasks p.batches c.in_ok-table.table (meant p c.in_ok-table.table c.in_ok-table.ensures.table).rows

pub returns-in_err-lines-clause-runs : goal.returns-in_err-lines-clause-runs
returns-in_err-lines-clause-runs g c =
    let p = err_from_is_err_and c.from_residual-in_err-lines.result c.from_residual-in_err-lines.ensures.1 in
    rw (p.1, p.2) (inr (c.args.plan.now, c.in_ok-table.ensures.runs, c.requires))

pub returns-clause-text : goal.returns-clause-text
returns-clause-text g c = λ turns.
    let p = c.args.plan.now in
    let table = c.in_ok-table.table in
    subst (λ (text : List ℕ). Makes c.args.input.now (Run turns) text) (sym c.in_ok-lines.ensures)
    (of_plan (Run turns) the_table p _ c.requires refl (table_lines table (meant p table c.in_ok-table.ensures.table)))
