use Rattle.std.proofs.Common.{◌≡◌, Some, None, sym, ◌∙◌, rules}
use Rattle.dbp_plan.specs.FirstFault.{first_fault}
use Rattle.dia_check.proofs.RankLaws.{task_lines_faults, read_lines_faults, task-first, reads-decide, ends-there, reads-linked}
use Rattle.dia_check.proofs.rank_faults.first_rank_fault.Goals as goal

pub returns-in-Some : goal.returns-in-Some
returns-in-Some c =
    let s = c.args.shaped.now in
    let found : c.tasks_rank_fault.result ≡ Some c.in-Some.fault = search rules in
    let first : c.tasks_rank_fault.result ≡ first_fault (task_lines_faults s) = rw (c.items-tasks.ensures.value, c.items.ensures.value) at c.tasks_rank_fault.ensures in
    sym (task-first s c.in-Some.fault (sym first ∙ found))

pub reads_rank_fault-requires-clause-ends : goal.reads_rank_fault-requires-clause-ends
reads_rank_fault-requires-clause-ends c =
    rw (c.items-tasks.ensures.value, c.items-links.ensures.value) (ends-there c.args.shaped.now.diagram c.requires.closed)

pub reads_rank_fault-requires-clause-linked : goal.reads_rank_fault-requires-clause-linked
reads_rank_fault-requires-clause-linked c =
    rw (c.items-links.ensures.value, c.items-2.ensures.value) (reads-linked c.args.shaped.now c.requires.closed c.requires.lines)

pub returns : goal.returns
returns c =
    let s = c.args.shaped.now in
    let none : c.tasks_rank_fault.result ≡ None = search rules in
    let front : c.tasks_rank_fault.result ≡ first_fault (task_lines_faults s) = rw (c.items-tasks.ensures.value, c.items.ensures.value) at c.tasks_rank_fault.ensures in
    let first : c.reads_rank_fault.result ≡ first_fault (read_lines_faults s) =
    rw (c.items-tasks.ensures.value, c.items-links.ensures.value, c.items-2.ensures.value) at c.reads_rank_fault.ensures in
    first ∙ sym (reads-decide s (sym front ∙ none))
