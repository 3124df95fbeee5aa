use Rattle.std.proofs.Common.{◌≡◌, ◌<◌, ℕ, List, ◌++◌, take, drop, length, get_or, sym, ap, ◌∙◌, subst, arith}
use Rattle.dbp_plan.specs.declared.diagram.Task.{Task}
use Rattle.dbp_plan.specs.declared.diagram.Out.{Out}
use Rattle.dbp_plan.specs.Lookups.{declared_task, no_declared_task}
use Rattle.std.proofs.lemmas.List.{get_or_default, take-append-le, take_all}
use Rattle.dbp_slots.specs.TableWords.{Sizes, sizes_of, task_sizes}
use Rattle.word_rule.specs.FirstWords.{HasNumbersSoFar, HasSlotFilled}
use Rattle.word_rule.proofs.FirstNumbers.{ports_are, so_far_all, so_far_more, some_slot, task_count_is}
use Rattle.word_rule.proofs.first_words.first_words.Goals as goal

pub fill_first_slot-requires-clause-task : goal.fill_first_slot-requires-clause-task
fill_first_slot-requires-clause-task c =
    let below = c.loop-task-test.true in
    omega (arith, ap length c.items-declared-items.ensures.value, task_count_is c.args.plan.now, ap (λ (x : Sizes). length x.tasks) c.requires)

pub fill_first_slot-requires-clause-slot : goal.fill_first_slot-requires-clause-slot
fill_first_slot-requires-clause-slot c =
    let below = c.loop-task-test.true in
    let named : c.loop-task.task < length c.args.plan.now.diagram.tasks = omega (arith, ap length c.items-declared-items.ensures.value) in
    omega (arith, some_slot c.args.plan.now c.loop-task.task named, ap (λ (x : Sizes). (task_sizes x c.loop-task.task).slots) c.requires)

-- the task's outs
outs_are : (tasks items : List Task) (i : ℕ) (t d : Task) (outs : List Out) → items ≡ tasks → i < length items → t ≡ get_or items i t → outs ≡ t.outs → outs ≡ (get_or tasks i d).outs
outs_are tasks items i t d outs same below is read =
    read ∙ ap (λ (x : Task). x.outs) (is ∙ get_or_default items i t d below) ∙ ap (λ (l : List Task). (get_or l i d).outs) same

pub fill_first_slot-requires-clause-ports : goal.fill_first_slot-requires-clause-ports
fill_first_slot-requires-clause-ports c =
    let below = c.loop-task-test.true in
    let named : c.loop-task.task < length c.args.plan.now.diagram.tasks = omega (arith, ap length c.items-declared-items.ensures.value) in
    let outs = outs_are c.args.plan.now.diagram.tasks c.items-declared-items.result.now c.loop-task.task c.declared-item.result no_declared_task c.items.result.now c.items-declared-items.ensures.value below c.declared-item.is c.items.ensures.value in
    ap (λ (l : List Out). length l) outs ∙ ports_are c.args.plan.now c.loop-task.task named ∙ ap (λ (x : Sizes). (task_sizes x c.loop-task.task).ports) (sym c.requires)

-- a slice that was lent is put back whole
whole_slice : (n : ℕ) (xs ys : List ℕ) → n ≡ length xs → take n (xs ++ drop (length xs) ys) ≡ xs
whole_slice n xs ys size = take-append-le n xs (drop (length xs) ys) (omega arith) ∙ take_all n xs (omega arith)

pub loop-task-preserved : goal.loop-task-preserved
loop-task-preserved c =
    let below = c.loop-task-test.true in
    let named : c.loop-task.task < length c.args.plan.now.diagram.tasks = omega (arith, ap length c.items-declared-items.ensures.value) in
    let outs = outs_are c.args.plan.now.diagram.tasks c.items-declared-items.result.now c.loop-task.task c.declared-item.result no_declared_task c.items.result.now c.items-declared-items.ensures.value below c.declared-item.is c.items.ensures.value in
    let filled : HasSlotFilled (sizes_of c.args.plan.now.diagram) c.loop-task.task (declared_task c.args.plan.now c.loop-task.task).outs (length (declared_task c.args.plan.now c.loop-task.task).outs) c.loop-task.words.items c.fill_first_slot.new.words =
    subst (λ (y : Sizes × List Out × List ℕ). HasSlotFilled y.0 c.loop-task.task y.1 (length y.1) y.2 c.fill_first_slot.new.words) (λ i. (c.requires i, outs i, c.deref_mut.ensures.value i)) c.fill_first_slot.ensures in
    let size : c.loop-task.words.len ≡ length c.fill_first_slot.new.words = sym (c.fill_first_slot.ensures.size ∙ c.deref_mut.ensures.len) in
    rw (whole_slice c.loop-task.words.len c.fill_first_slot.new.words c.loop-task.words.items size)
    (so_far_more c.args.plan.now c.loop-task.words.items c.fill_first_slot.new.words c.loop-task.task named c.loop-task.invariant filled)

pub returns : goal.returns
returns c =
    let past = c.loop-task-test.false in
    let last : c.loop-task.task ≡ length c.args.plan.now.diagram.tasks = omega (arith, ap length c.items-declared-items.ensures.value, c.loop-task.auto.task-end) in
    so_far_all c.args.plan.now c.loop-task.words.items (subst (λ (n : ℕ). HasNumbersSoFar c.args.plan.now n c.loop-task.words.items) last c.loop-task.invariant)
