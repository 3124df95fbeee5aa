use Rattle.std.proofs.Common.{ℕ, List, ◌∙◌, ap, refl, sym, subst}
use Rattle.std.proofs.lemmas.Result.{err_from_is_err_and}
use Rattle.dbp_plan.specs.declared.table.Table.{Table}
use Rattle.dbp_plan.proofs.TableRows.{has_rows}
use Rattle.sync_meaning.specs.SomeMeaning.{meaning_of, meaning_of-is}
use Rattle.trace_io.specs.Lines.{lines_of}
use Rattle.dbp_answers.specs.Answer.{Makes, of_plan, table_lines}
use Rattle.dbp_answers.specs.Commands.{the_table}
use Rattle.dbp_answers.specs.declared.command.Command.TheVariants.{Mean}
use Rattle.dbp_answers.proofs.StopLaws.{document-stop}
use Rattle.dbp_answers.proofs.answers.meaning_of.Goals as goal

pub returns-in_err-plan-clause-stop : goal.returns-in_err-plan-clause-stop
returns-in_err-plan-clause-stop c =
    let p = err_from_is_err_and c.from_residual.result c.from_residual.ensures.1 in
    rw (p.1, p.2) (document-stop c.args.input.now Mean c.in_err-plan.field-0.0 refl c.in_err-plan.ensures.fault)

pub lines-requires : goal.lines-requires
lines-requires c = has_rows c.in_ok-plan.plan.diagram.tasks c.in_ok-plan.plan.batches c.in_ok-table.table c.in_ok-table.ensures.meaning.rows

pub returns-clause-text : goal.returns-clause-text
returns-clause-text c =
    let plan = c.in_ok-plan.plan in
    subst (λ (text : List ℕ). Makes c.args.input.now Mean text) (sym (c.in_ok-lines.ensures ∙ ap (λ (t : Table). lines_of plan.diagram plan.batches t) c.in_ok-table.ensures.table))
    (of_plan Mean the_table plan (lines_of plan.diagram plan.batches (meaning_of plan)) c.in_ok-plan.ensures.plan refl (table_lines (meaning_of plan) (meaning_of-is plan)))
