use Rattle.std.proofs.Common.{◌≡◌, ℕ, List, true, false, sym, subst}
use Rattle.std.proofs.lemmas.Result.{err_from_is_err_and}
use Rattle.dbp_plan.proofs.TableRows.{has_rows}
use Rattle.dbp_plan.specs.declared.plan.Plan.{Plan}
use Rattle.dbp_replay.specs.Texts.{script_text}
use Rattle.trace_io.specs.Lines.{lines_of}
use Rattle.dbp_answers.specs.Answer.{PlanText, recorded_steps, simulated_lines}
use Rattle.dbp_answers.specs.Commands.{a_simulation}
use Rattle.dbp_answers.proofs.MeantTables.{meant}
use Rattle.dbp_answers.proofs.Simulated.{recorded-there}
use Rattle.dbp_answers.proofs.simulations.simulation_text.Goals as goal

pub returns-in_err-steps-clause-stop : goal.returns-in_err-steps-clause-stop
returns-in_err-steps-clause-stop c =
    let p = err_from_is_err_and c.from_residual.result c.from_residual.ensures.1 in
    rw (p.1, p.2) (λ input command accepted looked. c.in_err-steps.ensures.stop input command c.args.record_it accepted looked)

pub print_script-requires : goal.print_script-requires
print_script-requires c = rw c.deref-plan.ensures (recorded-there c.args.shared.now.value c.args.processors c.in_ok-steps.steps c.in_ok-steps.ensures.steps)

pub returns-in_ok-print_script-clause-text : goal.returns-in_ok-print_script-clause-text
returns-in_ok-print_script-clause-text c = λ doc.
    let plan = c.args.shared.now.value in
    let steps = c.in_ok-steps.steps in
    let is : c.in_ok-print_script.field-0.items ≡ script_text plan.diagram steps =
    subst (λ (q : Plan). c.in_ok-print_script.field-0.items ≡ script_text q.diagram steps) c.deref-plan.ensures c.in_ok-print_script.ensures in
    rw c.if-record_it.true (subst (λ (text : List ℕ). PlanText doc plan (a_simulation c.args.processors true) text) (sym is)
    (recorded_steps c.args.processors steps c.in_ok-steps.ensures.steps))

pub returns-in_err-table-clause-stop : goal.returns-in_err-table-clause-stop
returns-in_err-table-clause-stop c =
    let p = err_from_is_err_and c.from_residual-in_err-table.result c.from_residual-in_err-table.ensures.1 in
    rw (p.1, p.2) (λ input command accepted looked. c.in_err-table.ensures.stop input command c.args.record_it accepted looked)

pub lines-requires : goal.lines-requires
lines-requires c =
    let p = c.args.shared.now.value in
    let table = c.in_ok-table.table in
    rw c.deref-plan.ensures (has_rows p.diagram.tasks p.batches table (meant p table c.in_ok-table.ensures.meant).rows)

pub returns-in_ok-lines-clause-text : goal.returns-in_ok-lines-clause-text
returns-in_ok-lines-clause-text c = λ doc.
    let table = c.in_ok-table.table in
    let plan = c.args.shared.now.value in
    let is : c.in_ok-lines.field-0.items ≡ lines_of plan.diagram plan.batches table =
    subst (λ (q : Plan). c.in_ok-lines.field-0.items ≡ lines_of q.diagram q.batches table) c.deref-plan.ensures c.in_ok-lines.ensures in
    rw c.if-record_it.false (subst (λ (text : List ℕ). PlanText doc plan (a_simulation c.args.processors false) text) (sym is)
    (simulated_lines c.args.processors table c.in_ok-table.ensures.in_time (meant plan table c.in_ok-table.ensures.meant)))
