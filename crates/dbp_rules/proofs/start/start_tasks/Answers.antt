use Rattle.std.proofs.Common.{◌≡◌, ℕ, ◌<◌, ◌∷◌, ◌++◌, [], List, arith, length, map, ap, sym, ◌∙◌}
use Rattle.std.specs.List.{range_with_len}
use Rattle.std.proofs.lemmas.List.{length-map}
use Rattle.std.proofs.lemmas.List.FromFn.{length-range_with_len, map-range_with_len_more}
use Rattle.std.proofs.lemmas.Option.{get_or_from_slice_get}
use Rattle.dbp_plan.specs.ListItems.{read_place}
use Rattle.dbp_plan.specs.Lookups.{declared_task, no_declared_task}
use Rattle.dbp_rules.specs.Lookups.{no_task_wiring, wired_task}
use Rattle.dbp_rules.specs.Start.{start_task}
use Rattle.dbp_rules.specs.declared.state.TaskState.{TaskState}
use Rattle.dbp_rules.proofs.start.start_tasks.Goals as goal

pub push-requires : goal.push-requires
push-requires c =
    let f : ℕ → TaskState = λ i. start_task (wired_task c.args.wiring.now i) (declared_task c.args.plan.now i) in
    let size : length (map f (range_with_len 0 c.loop-i.i)) ≡ c.loop-i.i = length-map (range_with_len 0 c.loop-i.i) f ∙ length-range_with_len 0 c.loop-i.i in
    omega (arith, size, ap length c.loop-i.invariant, c.len-i-end.ensures)

pub loop-i-preserved : goal.loop-i-preserved
loop-i-preserved c =
    let f : ℕ → TaskState = λ i. start_task (wired_task c.args.wiring.now i) (declared_task c.args.plan.now i) in
    let below : c.loop-i.i < length c.args.wiring.now.tasks = omega (arith, c.len-i-end.ensures) in
    let own : wired_task c.args.wiring.now c.loop-i.i ≡ c.index-items-i.result =
    get_or_from_slice_get c.args.wiring.now.tasks c.loop-i.i c.index-items-i.result no_task_wiring
    (read_place c.args.wiring.now.tasks c.loop-i.i c.index-items-i.result below (rw c.items.ensures.value at c.index-items-i.is)) in
    let said : declared_task c.args.plan.now c.loop-i.i ≡ c.index-items-i-in-loop-i.result =
    get_or_from_slice_get c.args.plan.now.diagram.tasks c.loop-i.i c.index-items-i-in-loop-i.result no_declared_task
    (read_place c.args.plan.now.diagram.tasks c.loop-i.i c.index-items-i-in-loop-i.result (omega (arith, below, c.requires.tasks)) (rw c.items-in-loop-i.ensures.value at c.index-items-i-in-loop-i.is)) in
    let task : c.in_ok-task.task ≡ f c.loop-i.i = rw (own, said) (c.in_ok-task.ensures) in
    c.in_ok-push.ensures.ok ∙ ap (λ (ts : List TaskState). ts ++ c.in_ok-task.task ∷ []) c.loop-i.invariant ∙ ap (λ (t : TaskState). map f (range_with_len 0 c.loop-i.i) ++ t ∷ []) task
    ∙ sym (map-range_with_len_more f 0 c.loop-i.i c.loop-i.i (omega arith))
