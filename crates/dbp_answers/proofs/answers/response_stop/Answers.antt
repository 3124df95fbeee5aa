use Rattle.std.proofs.Common.{◌≡◌, List, Some, get_or, subst, sym, ap, ◌∙◌}
use Rattle.std.proofs.lemmas.List.{get_or_default}
use Rattle.dbp_plan.specs.declared.diagram.Task.{Task}
use Rattle.dbp_plan.specs.Lookups.{declared_task, no_declared_task}
use Rattle.rta_check.specs.declared.fail.RtaFail.TheVariants as rta
use Rattle.rta_check.specs.Bounds.{IsRtaFail, rta_fault}
use Rattle.rta_check.proofs.RtaFaults.{aperiodic_within}
use Rattle.dbp_answers.specs.Answer.{IsRefused}
use Rattle.dbp_answers.specs.declared.command.Command.TheVariants.{Rta}
use Rattle.dbp_answers.specs.declared.command_code.CommandCode.TheVariants.{NotPeriodic}
use Rattle.dbp_answers.specs.declared.refusal.Refusal.TheVariants.{OfCommand}
use Rattle.dbp_answers.proofs.ResponseLaws.{refused-not-fixed, refused-not-periodic}
use Rattle.dbp_answers.proofs.answers.response_stop.Goals as goal

pub returns-in-NotFixed : goal.returns-in-NotFixed
returns-in-NotFixed c = λ input accepted. refused-not-fixed input c.args.plan.now accepted (subst (IsRtaFail c.args.plan.now.diagram) c.in-NotFixed.is c.requires)

pub returns-in-NotPeriodic : goal.returns-in-NotPeriodic
returns-in-NotPeriodic c =
    let p = c.args.plan.now in
    let i = c.in-NotPeriodic.task in
    let fault : rta_fault p.diagram ≡ Some (rta.NotPeriodic i) = subst (IsRtaFail p.diagram) c.in-NotPeriodic.is c.requires in
    let found = c.index-items-task.result in
    let task : get_or c.items.result.now i found ≡ declared_task p i =
    ap (λ (ts : List Task). get_or ts i found) c.items.ensures.value
    ∙ get_or_default p.diagram.tasks i found no_declared_task (aperiodic_within p.diagram i fault) in
    λ input accepted.
    subst (λ (t : Task). IsRefused input Rta (OfCommand (NotPeriodic t.name))) (sym task) (refused-not-periodic input p accepted i fault)
