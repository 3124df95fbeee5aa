use Rattle.std.proofs.Common.{ℕ, List}
use Rattle.std.proofs.lemmas.Result.{IfOk-weaker}
use Rattle.dbp_load.specs.Texts.{generated_text}
use Rattle.dbp_answers.specs.Answer.{Makes, of_generated}
use Rattle.dbp_answers.specs.Summaries.{IsSummary}
use Rattle.dbp_answers.specs.declared.command.Command.TheVariants.{Soak}
use Rattle.dbp_top.proofs.CrewRuns.{run-of-text}
use Rattle.dbp_top.proofs.soak.soak_text.Goals as goal

pub returns-clause-text : goal.returns-clause-text
returns-clause-text g c =
    let p = c.in_ok-plan.plan in
    IfOk-weaker c.plan_summary.result (λ text. IsSummary p text.items) (λ text. (input : List ℕ) → Makes input (Soak c.args.seed c.args.size) text.items)
    (λ text is. λ input. of_generated c.args.seed c.args.size p text.items c.in_ok-plan.ensures is) c.plan_summary.ensures.text

pub returns-clause-runs : goal.returns-clause-runs
returns-clause-runs g c =
    run-of-text (generated_text c.args.seed c.args.size) c.in_ok-plan.plan (g.C.Crew.runs c.args.crew.now) (g.C.Crew.runs c.plan_summary.new.crew) c.plan_summary.result c.in_ok-plan.ensures c.plan_summary.ensures.runs
