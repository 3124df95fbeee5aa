use Rattle.std.proofs.Common.{◌≡◌, ℕ, ◌<◌, List, Some, length, get_or, refl, sym, ap, subst, ◌∙◌}
use Rattle.std.proofs.lemmas.List.{get_or_default}
use Rattle.dbp_plan.specs.declared.diagram.Diagram.{Diagram}
use Rattle.dbp_plan.specs.declared.diagram.Task.{Task}
use Rattle.dbp_plan.specs.Lookups.{no_declared_task, task_at}
use Rattle.slot_need.specs.declared.fail.NeedFail.{NeedFail}
use Rattle.slot_need.specs.declared.fail.NeedFail.TheVariants as need
use Rattle.slot_need.specs.Faults.{IsNeedFail}
use Rattle.slot_need.proofs.NeedFaults.{sharing-within}
use Rattle.dbp_answers.specs.ScenarioCodes.{fault_code}
use Rattle.dbp_answers.specs.declared.command_code.CommandCode.TheVariants.{SharedEvent}
use Rattle.dbp_answers.proofs.scenarios.fault_code.Goals as goal

-- the task that shares an event is one of the diagram's
there : (d : Diagram) (tasks : List Task) (fail : NeedFail) (task : ℕ) → tasks ≡ d.tasks → (w : ℕ) × IsNeedFail d w fail → fail ≡ need.SharedEvent task → task < length tasks
there d tasks fail task all (w, is) same = subst (λ (ts : List Task). task < length ts) (sym all) (sharing-within d w task (subst (IsNeedFail d w) same is))

pub bounds-tasks-task-in-SharedEvent : goal.bounds-tasks-task-in-SharedEvent
bounds-tasks-task-in-SharedEvent c = there c.args.diagram.now c.items-tasks.result.now c.args.fail c.in-SharedEvent.task c.items-tasks.ensures.value c.requires c.in-SharedEvent.is

pub bounds-tasks-task-in-SharedEvent-2 : goal.bounds-tasks-task-in-SharedEvent-2
bounds-tasks-task-in-SharedEvent-2 c = there c.args.diagram.now c.items-tasks.result.now c.args.fail c.in-SharedEvent.task c.items-tasks.ensures.value c.requires c.in-SharedEvent.is

pub returns-in-SharedEvent : goal.returns-in-SharedEvent
returns-in-SharedEvent c =
    let d = c.args.diagram.now in
    let i = c.in-SharedEvent.task in
    let found = c.index-tasks-task-in-SharedEvent.result in
    let below = there d d.tasks c.args.fail i refl c.requires c.in-SharedEvent.is in
    let task : get_or c.items-tasks.result.now i found ≡ task_at d i =
    ap (λ (ts : List Task). get_or ts i found) c.items-tasks.ensures.value
    ∙ get_or_default d.tasks i found no_declared_task below in
    ap (λ (t : Task). Some (SharedEvent t.name)) task ∙ ap (λ (f : NeedFail). fault_code d (Some f)) (sym c.in-SharedEvent.is)
