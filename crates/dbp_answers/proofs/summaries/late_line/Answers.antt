use Rattle.std.proofs.Common.{◌≡◌, ℕ, List, get_or, sym, ap, subst, ◌∙◌}
use Rattle.std.specs.Prelude.{codes}
use Rattle.std.proofs.lemmas.List.{get_or_default}
use Rattle.std.proofs.lemmas.Result.{IfOk-weaker}
use Rattle.dbp_plan.specs.declared.diagram.Task.{Task}
use Rattle.dbp_plan.specs.Lookups.{declared_task, no_declared_task}
use Rattle.rank_order.specs.Ends.{IsOverrun}
use Rattle.rank_order.specs.Instances.{Instance}
use Rattle.rank_order.specs.Service.{left_of}
use Rattle.rank_order.specs.ServiceOf.{service}
use Rattle.virtual_sim.specs.Outcomes.{IsSimFail}
use Rattle.dbp_answers.specs.OverrunLines.{overrun_after}
use Rattle.dbp_answers.specs.Summaries.{IsSimulationLine, overran}
use Rattle.dbp_answers.proofs.summaries.late_line.Goals as goal

pub returns-in-Overrun : goal.returns-in-Overrun
returns-in-Overrun c =
    let p = c.args.plan.now in
    let x : Instance = record { task = c.in-Overrun.task; number = c.in-Overrun.instance } in
    let late : IsOverrun p (left_of p (service p)) c.in-Overrun.time x = subst (IsSimFail p) c.in-Overrun.is c.requires in
    let found = c.index-items-task.result in
    let task : get_or c.items.result.now c.in-Overrun.task found ≡ declared_task p c.in-Overrun.task =
    ap (λ (ts : List Task). get_or ts c.in-Overrun.task found) c.items.ensures.value
    ∙ get_or_default p.diagram.tasks c.in-Overrun.task found no_declared_task late.late.instance.task in
    let name : c.bytes-name.result.now ≡ (declared_task p c.in-Overrun.task).name = c.bytes-name.ensures.value ∙ ap (λ (t : Task). t.name) task in
    let line : List ℕ → List ℕ = λ n. overrun_after (codes "sim overrun ") n c.in-Overrun.instance c.in-Overrun.time in
    IfOk-weaker c.overrun_after.result (λ text. text.items ≡ line c.bytes-name.result.now) (λ text. IsSimulationLine p text.items)
    (λ text is. subst (IsSimulationLine p) (sym (is ∙ ap line name)) (overran x c.in-Overrun.time late)) c.overrun_after.ensures
