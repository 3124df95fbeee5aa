use Rattle.std.proofs.Common.{◌≡◌, ◌+◌, ◌-◌, ◌<◌, ◌≤◌, ◌++◌, ◌∷◌, [], List, ℕ, arith, drop, get_or, length, set, slice_get, take, Some, refl, sym, ap, ◌∙◌}
use Rattle.std.specs.Fmt.{decimal}
use Rattle.dbp_plan.specs.declared.diagram.Task.{Task}
use Rattle.trace_io.specs.Lines.{line_rest, line_text}
use Rattle.dbp_plan.specs.ListItems.{read_place}
use Rattle.trace_io.specs.Printing.{CanPrint}
use Rattle.trace_io.specs.declared.printed.TheConstants.{PIECE}
use Rattle.trace_io.proofs.BatchLines.{has-next, lines-more}
use Rattle.trace_io.proofs.Pieces.{after-comma, few-digits, with-comma-after}
use Rattle.trace_io.proofs.printed.push_batch.Goals as goal

pub push_piece-requires-clause-end : goal.push_piece-requires-clause-end
push_piece-requires-clause-end c =
    let w = c.write_number-start in
    let digits : List ℕ = decimal c.args.batch.now.time in
    let few : length digits + w.result ≡ 40 = few-digits w.new.room digits _ w.result w.ensures.within w.array_long refl (w.ensures.written w.array_long) in
    let short : length digits ≤ 20 = w.ensures.short in
    let piece : PIECE ≡ 24 = refl in
    (omega (arith, few), omega (arith, few, short, piece))

pub row-requires : goal.row-requires
row-requires c =
    let can : CanPrint c.args.tasks.now c.args.table.now c.args.counts.now c.items-task-items.result.now = rw c.items-task-items.ensures.value c.requires in
    has-next _ _ _ _ _ _ _ _ _ can c.loop-task.invariant c.loop-task-test.true

pub loop-task-preserved : goal.loop-task-preserved
loop-task-preserved c =
    let can : CanPrint c.args.tasks.now c.args.table.now c.args.counts.now c.items-task-items.result.now = rw c.items-task-items.ensures.value c.requires in
    let i = get_or c.items-task-items.result.now c.loop-task.task-index 0 in
    let task = c.index-tasks-place.result in
    let there : i < length c.args.tasks.now = can.there c.loop-task.task-index 0 c.loop-task-test.true in
    let is_task : slice_get c.args.tasks.now i ≡ Some task = read_place c.args.tasks.now i task there c.index-tasks-place.is in
    let name : c.bytes-name.result.now ≡ task.name = c.bytes-name.ensures.value ∙ ap (λ (t : Task). t.name) (sym c.index-tasks-place.is) in
    let w = c.write_number-start in
    let digits : List ℕ = decimal c.args.batch.now.time in
    let number : ℕ = get_or c.loop-task.counts i 0 + 1 in
    let text : List ℕ = c.loop-task.text.items in
    let head : take (41 - w.result) (drop w.result (set w.new.room 40 44)) ≡ digits ++ 44 ∷ [] = with-comma-after w.new.room digits _ w.result w.ensures.within w.array_long refl (w.ensures.written w.array_long) in
    let time : c.push_piece.new.text.items ≡ text ++ (digits ++ 44 ∷ []) = c.in_ok-push_piece.ensures ∙ ap (λ (l : List ℕ). text ++ l) head in
    let told : c.push_line.new.text.items ≡ text ++ line_text c.args.batch.now.time task.name number c.row.result.now =
    c.in_ok-push_line.ensures ∙ ap (λ (l : List ℕ). l ++ line_rest c.bytes-name.result.now number c.row.result.now) time
    ∙ after-comma text digits (line_rest c.bytes-name.result.now number c.row.result.now)
    ∙ ap (λ (l : List ℕ). text ++ line_text c.args.batch.now.time l number c.row.result.now) name in
    lines-more _ _ _ _ _ _ _ _ _ _ _ task c.row.result.now can c.loop-task.invariant c.loop-task-test.true is_task refl c.row.ensures told
