-- All occurrences of the tasks so far are known to have ended.
use Rattle.std.proofs.Common.{◌≡◌, None, length}
use Rattle.std.specs.Prelude.{nat_lt}
use Rattle.dbp_rules.specs.PartyRules.{least}
use Rattle.dbp_rules.specs.Lookups.{entry_in, wired_task}
use Rattle.release_book.proofs.next.first_unended.Given as goal

abbrev pub invariant-loop-task : goal.invariant-loop-task
invariant-loop-task l = least (λ i. nat_lt (entry_in l.part i).known (length (wired_task l.wiring i).times)) l.task ≡ None
