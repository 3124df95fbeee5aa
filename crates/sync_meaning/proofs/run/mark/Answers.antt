use Rattle.std.proofs.Common.{◌<◌, ◌+◌, ◌^◌, ℕ, List, length, get_or, subst, refl, sym, rules}
use Rattle.std.specs.List.Sorted.{IsStrictlyIncreasing}
use Rattle.std.proofs.lemmas.Option.{slice_get-get_or}
use Rattle.sync_meaning.proofs.Counts.{marked_more, marked_fits}
use Rattle.sync_meaning.proofs.run.mark.Goals as goal

pub overflow_add-named : goal.overflow_add-named
overflow_add-named c =
    let tasks : List ℕ = c.items-task-items.result.now in
    let k : ℕ = c.loop-task.task-index in
    let i : ℕ = get_or tasks k 0 in
    let below : i < length c.loop-task.named = search rules in
    let fits : get_or c.loop-task.named i 0 + 1 < 2 ^ 32 = marked_fits k i (get_or c.loop-task.named i 0) tasks c.args.named.now c.loop-task.named c.requires.few (slice_get-get_or c.loop-task.named i 0 below) c.loop-task.invariant in
    search rules

pub loop-task-preserved : goal.loop-task-preserved
loop-task-preserved c =
    let tasks : List ℕ = c.items-task-items.result.now in
    let k : ℕ = c.loop-task.task-index in
    let i : ℕ = get_or tasks k 0 in
    let below : i < length c.loop-task.named = search rules in
    let rising : IsStrictlyIncreasing tasks = subst IsStrictlyIncreasing (sym c.items-task-items.ensures.value) c.requires.order in
    marked_more k i (get_or c.loop-task.named i 0) tasks c.args.named.now c.loop-task.named rising c.loop-task-test.true refl (slice_get-get_or c.loop-task.named i 0 below) c.loop-task.invariant
