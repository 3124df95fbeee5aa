use Rattle.std.proofs.Common.{◌∙◌, List, map, sym, ap, subst}
use Rattle.dbp_plan.specs.declared.diagram.Task.{Task}
use Rattle.dbp_plan.specs.declared.plan.Plan.{Plan}
use Rattle.sync_meaning.specs.FirstRows.{first_rows}
use Rattle.dbp_rules.specs.Wired.{wiring_of}
use Rattle.dbp_rules.specs.declared.state.State.{State}
use Rattle.dbp_rules.proofs.WiringParts.{wired_tasks}
use Rattle.instance_steps.specs.EndedRows.{HasEndedRows}
use Rattle.instance_steps.proofs.RowsKept.{ended_rows_start}
use Rattle.instance_steps.proofs.recorder.Recorder.new.Goals as goal

pub returns-clause-rows : goal.returns-clause-rows
returns-clause-rows c =
    let p = c.args.plan.value in
    let tasks = c.items.ensures.value ∙ ap (λ (q : Plan). q.diagram.tasks) c.deref.ensures in
    subst (λ (s : State). HasEndedRows p s c.in_ok-table.table) (sym c.in_ok-core.ensures.start)
    (ended_rows_start p (wiring_of p c.args.count) c.in_ok-table.table (wired_tasks p c.args.count) (c.in_ok-table.ensures ∙ ap (λ (ts : List Task). map first_rows ts) tasks))
