use Rattle.std.proofs.Common.{sym, subst}
use Rattle.std.proofs.lemmas.Result.{err_from_is_err_and}
use Rattle.dbp_rules.specs.declared.step.Count.{Count}
use Rattle.dia_read.specs.declared.document.Doc.{Doc}
use Rattle.dbp_replay.specs.Replays.{IsReplay, IsReplayRefusal}
use Rattle.dbp_replay.specs.Scripts.{IsScript, IsScriptRefusal}
use Rattle.dbp_answers.specs.Answer.{heard_steps}
use Rattle.dbp_answers.specs.Commands.{count_of}
use Rattle.dbp_answers.proofs.StopLaws.{replay-stop, script-stop}
use Rattle.dbp_answers.proofs.answers.replay_text.Goals as goal

pub returns-in_err-steps-clause-stop : goal.returns-in_err-steps-clause-stop
returns-in_err-steps-clause-stop c =
    let p = err_from_is_err_and c.from_residual.result c.from_residual.ensures.1 in
    let fault = c.in_err-steps.field-0.0 in
    rw (p.1, p.2) (λ input accepted same.
    let is : IsScriptRefusal c.args.plan.diagram accepted.doc fault = subst (λ (d : Doc). IsScriptRefusal c.args.plan.diagram d fault) (sym same) c.in_err-steps.ensures.fault in
    script-stop input c.args.ranked c.args.plan accepted fault is)

pub returns-in_err-text-clause-stop : goal.returns-in_err-text-clause-stop
returns-in_err-text-clause-stop c =
    let p = err_from_is_err_and c.from_residual-in_err-text.result c.from_residual-in_err-text.ensures.1 in
    let fault = c.in_err-text.field-0.0 in
    let steps = c.in_ok-steps.steps in
    let broken : IsReplayRefusal c.args.plan (count_of c.args.ranked) steps fault = subst (λ (n : Count). IsReplayRefusal c.args.plan n steps fault) c.count_of.ensures c.in_err-text.ensures.illegal in
    rw (p.1, p.2) (λ input accepted same.
    let script : IsScript c.args.plan.diagram accepted.doc steps = subst (λ (d : Doc). IsScript c.args.plan.diagram d steps) (sym same) c.in_ok-steps.ensures.script in
    replay-stop input c.args.ranked c.args.plan accepted steps fault script broken)

pub returns-clause-text : goal.returns-clause-text
returns-clause-text c =
    let steps = c.in_ok-steps.steps in
    let text = c.in_ok-text.text.items in
    let is : IsReplay c.args.plan (count_of c.args.ranked) steps text = subst (λ (n : Count). IsReplay c.args.plan n steps text) c.count_of.ensures c.in_ok-text.ensures.text in
    heard_steps (count_of c.args.ranked) steps text c.in_ok-steps.ensures.script is
