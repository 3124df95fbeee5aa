use Rattle.std.proofs.Common.{refl, sym, subst}
use Rattle.std.proofs.lemmas.Result.{err_from_is_err_and}
use Rattle.dia_read.specs.declared.document.Doc.{Doc}
use Rattle.dbp_answers.specs.Answer.{PlanText, of_plan}
use Rattle.dbp_answers.specs.Commands.{a_replay, count_of}
use Rattle.dbp_answers.specs.declared.command.Command.TheVariants.{Replay}
use Rattle.dbp_answers.proofs.StopLaws.{document-stop}
use Rattle.dbp_answers.proofs.answers.replay_of.Goals as goal

pub returns-in_err-doc-clause-stop : goal.returns-in_err-doc-clause-stop
returns-in_err-doc-clause-stop c =
    let p = err_from_is_err_and c.from_residual.result c.from_residual.ensures.1 in
    rw (p.1, p.2) (document-stop c.args.input.now (Replay c.args.ranked) c.in_err-doc.field-0.0 refl c.in_err-doc.ensures.fault)

pub returns-in_err-text-clause-stop : goal.returns-in_err-text-clause-stop
returns-in_err-text-clause-stop c =
    let p = err_from_is_err_and c.from_residual-in_err-text.result c.from_residual-in_err-text.ensures.1 in
    let a = c.in_ok-doc.ensures.plan in
    rw (p.1, p.2) (c.in_err-text.ensures.stop c.args.input.now a.0 a.1)

pub returns-clause-text : goal.returns-clause-text
returns-clause-text c =
    let plan = c.in_ok-doc.plan in
    let a = c.in_ok-doc.ensures.plan in
    let text = c.in_ok-text.text.items in
    of_plan (Replay c.args.ranked) (a_replay (count_of c.args.ranked)) plan text a.0 refl (subst (λ (d : Doc). PlanText d plan (a_replay (count_of c.args.ranked)) text) (sym a.1) c.in_ok-text.ensures.text)
