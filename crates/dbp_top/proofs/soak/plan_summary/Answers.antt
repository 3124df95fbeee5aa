use Rattle.std.proofs.Common.{◌≡◌, sym, subst, ap, ◌∙◌}
use Rattle.std.proofs.lemmas.Result.{IfOk-weaker}
use Rattle.dbp_answers.specs.Summaries.{IsSummary, of_table, summary}
use Rattle.dbp_top.proofs.soak.plan_summary.Goals as goal

pub returns-clause-text : goal.returns-clause-text
returns-clause-text g c =
    let p = c.args.plan.now in
    let table = c.in_ok-table.table in
    let line = c.in_ok-simulation.simulation.items in
    IfOk-weaker c.summary.result (λ text. text.items ≡ summary p table c.deref.result.now) (λ text. IsSummary p text.items)
    (λ text is. subst (IsSummary p) (sym (is ∙ ap (summary p table) c.deref.ensures.value)) (of_table table line c.in_ok-table.ensures.meaning c.in_ok-simulation.ensures)) c.summary.ensures
