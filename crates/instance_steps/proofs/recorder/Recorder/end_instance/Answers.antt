use Rattle.std.proofs.Common.{◌≡◌, ◌<◌, ◌∙◌, List, get_or, set, slice_get, Some, length, sym, ap}
use Rattle.std.specs.List.{refill}
use Rattle.std.proofs.lemmas.List.{length-set}
use Rattle.std.proofs.lemmas.Option.{slice_get-get_or}
use Rattle.dbp_plan.specs.declared.table.TaskRows.{TaskRows}
use Rattle.sync_meaning.proofs.Sets.{refill_all}
use Rattle.instance_steps.proofs.Adding.{on_ok_both}
use Rattle.instance_steps.proofs.EndedTask.{row_gained, row_room, rows_there}
use Rattle.instance_steps.proofs.recorder.Recorder.end_instance.Goals as goal

pub push_row-requires : goal.push_row-requires
push_row-requires c =
    let a = c.args.self.now in
    let b = c.make_end.new.self in
    let piece = c.in_ok-make_end.ensures.piece in
    let there : c.args.task < length c.make_end.new.self.table.tasks = rows_there a b c.args.task _ piece c.requires.task c.requires.rows c.in_ok-make_end.ensures.table in
    let old = get_or c.items_mut.result.now c.args.task c.index-items_mut-task.result in
    let at : slice_get c.make_end.new.self.table.tasks c.args.task ≡ Some (get_or c.items_mut.result.now c.args.task c.index-items_mut-task.result) =
    slice_get-get_or c.make_end.new.self.table.tasks c.args.task c.index-items_mut-task.result there ∙ ap (λ (ts : List TaskRows). Some (get_or ts c.args.task c.index-items_mut-task.result)) (sym c.items_mut.ensures.value) in
    row_room a b c.args.task _ piece c.requires.task c.requires.rows c.in_ok-make_end.ensures.table c.row.result.now c.row.ensures.row old at

pub returns-clause-rows : goal.returns-clause-rows
returns-clause-rows c =
    let a = c.args.self.now in
    let b = c.make_end.new.self in
    let piece = c.in_ok-make_end.ensures.piece in
    let more = c.push_row.new.rows in
    let there : c.args.task < length c.make_end.new.self.table.tasks = rows_there a b c.args.task _ piece c.requires.task c.requires.rows c.in_ok-make_end.ensures.table in
    let old = get_or c.items_mut.result.now c.args.task c.index-items_mut-task.result in
    let at : slice_get c.make_end.new.self.table.tasks c.args.task ≡ Some (get_or c.items_mut.result.now c.args.task c.index-items_mut-task.result) =
    slice_get-get_or c.make_end.new.self.table.tasks c.args.task c.index-items_mut-task.result there ∙ ap (λ (ts : List TaskRows). Some (get_or ts c.args.task c.index-items_mut-task.result)) (sym c.items_mut.ensures.value) in
    let all : refill (length c.make_end.new.self.table.tasks) c.make_end.new.self.table.tasks (set c.items_mut.result.now c.args.task c.push_row.new.rows) ≡ set c.make_end.new.self.table.tasks c.args.task c.push_row.new.rows =
    refill_all c.make_end.new.self.table.tasks (set c.items_mut.result.now c.args.task c.push_row.new.rows) (length-set c.items_mut.result.now c.args.task c.push_row.new.rows ∙ ap length c.items_mut.ensures.value)
    ∙ ap (λ (ts : List TaskRows). set ts c.args.task c.push_row.new.rows) c.items_mut.ensures.value in
    on_ok_both c.push_row.result
    (λ ports words.
    row_gained a b c.args.task _ piece c.requires.task c.requires.rows c.in_ok-make_end.ensures.table c.row.result.now c.row.ensures.row old at more
    (record { tasks = refill (length c.make_end.new.self.table.tasks) c.make_end.new.self.table.tasks (set c.items_mut.result.now c.args.task c.push_row.new.rows) }) ports words all)
    c.push_row.ensures.ports c.push_row.ensures.words
