use Rattle.std.proofs.Common.{◌≡◌, true, length, sym, ap, arith}
use Rattle.std.specs.Prelude.{nat_lt}
use Rattle.std.proofs.lemmas.Bool.{lt-ltb}
use Rattle.dbp_rules.specs.Lookups.{entry_in, wired_task}
use Rattle.dbp_rules.specs.declared.parts.TaskEntry.{TaskEntry}
use Rattle.dbp_rules.specs.declared.wiring.TaskWiring.{TaskWiring}
use Rattle.release_book.proofs.Searches.{least_at}
use Rattle.release_book.proofs.next.first_unended.Goals as goal

pub returns-then-entry-len : goal.returns-then-entry-len
returns-then-entry-len c =
    let w = c.args.wiring.now in
    let r = c.args.part.now in
    let few : nat_lt (entry_in r c.loop-task.task).known (length (wired_task w c.loop-task.task).times) ≡ true =
    lt-ltb (entry_in r c.loop-task.task).known (length (wired_task w c.loop-task.task).times)
    (omega (arith, c.if-entry-len.true, c.len.ensures, ap (λ (e : TaskEntry). e.known) c.entry.ensures, ap (λ (t : TaskWiring). length t.times) c.task.ensures)) in
    sym (least_at (λ i. nat_lt (entry_in r i).known (length (wired_task w i).times)) (length w.tasks) c.loop-task.task c.loop-task.invariant few (omega (arith, c.loop-task-test.true)))
