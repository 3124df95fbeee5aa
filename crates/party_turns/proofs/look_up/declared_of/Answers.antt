use Rattle.std.proofs.Common.{◌≡◌, ℕ, List, get_or, ap, sym, ◌∙◌}
use Rattle.std.proofs.lemmas.Option.{get_or_from_slice_get}
use Rattle.dbp_plan.specs.declared.diagram.Task.{Task}
use Rattle.dbp_plan.specs.declared.plan.Plan.{Plan}
use Rattle.dbp_plan.specs.Lookups.{no_declared_task}
use Rattle.dbp_plan.specs.ListItems.{read_place}
use Rattle.party_turns.proofs.Seats.{declared_inside}
use Rattle.party_turns.proofs.look_up.declared_of.Goals as goal

pub returns : goal.returns
returns c =
    let tasks = c.args.words.now.plan.diagram.tasks in
    let found = c.index-items-task.result in
    let items = c.items.ensures.value ∙ ap (λ (p : Plan). p.diagram.tasks) c.plan.ensures in
    let at : found ≡ get_or tasks c.args.seat.now.task found = c.index-items-task.is ∙ ap (λ (x : List Task × ℕ). get_or x.0 x.1 found) (λ j. (items j, c.task.ensures j)) in
    sym (get_or_from_slice_get tasks c.args.seat.now.task found no_declared_task (read_place tasks c.args.seat.now.task found (declared_inside c.args.words.now c.args.seat.now c.requires) at))
