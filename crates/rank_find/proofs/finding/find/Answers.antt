use Rattle.std.proofs.Common.{length, arith}
use Rattle.dbp_plan.proofs.Listed.{listed_few}
use Rattle.rank_find.proofs.Cycles.{IsSearched, first_cycle_listed, found_cycle, found_none, writers_named}
use Rattle.rank_find.proofs.finding.find.Goals as goal

pub first_cycle-requires-clause-named : goal.first_cycle-requires-clause-named
first_cycle-requires-clause-named c =
    rw c.items-2.ensures.value (writers_named c.args.shaped.now.diagram c.in_ok-writers.writers c.requires c.in_ok-writers.ensures)

pub unreachable-requires : goal.unreachable-requires
unreachable-requires c =
    let d = c.args.shaped.now.diagram in
    let searched : IsSearched c.in_ok-writers.writers c.in_ok-cycle.field-0 = rw c.items-2.ensures.value at c.in_ok-cycle.ensures in
    let all = found_none d c.in_ok-writers.writers c.in_ok-order.order c.in_ok-cycle.field-0 c.requires c.in_ok-writers.ensures c.in_ok-order.ensures.front c.in_ok-order.ensures.end searched c.in_default.is in
    omega (arith, all, c.if-len.false, c.len.ensures, c.len-2.ensures)

pub names_of-requires-clause-named : goal.names_of-requires-clause-named
names_of-requires-clause-named c =
    let d = c.args.shaped.now.diagram in
    let searched : IsSearched c.in_ok-writers.writers c.in_ok-cycle.field-0 = rw c.items-2.ensures.value at c.in_ok-cycle.ensures in
    let found = found_cycle d c.in_ok-writers.writers c.in_ok-cycle.field-0 c.in-Some.cycle c.in_ok-writers.ensures searched c.in-Some.is in
    rw c.items-3.ensures.value (first_cycle_listed d found.0 c.in-Some.cycle c.requires found.1).named

pub names_of-requires-clause-few : goal.names_of-requires-clause-few
names_of-requires-clause-few c =
    let d = c.args.shaped.now.diagram in
    let searched : IsSearched c.in_ok-writers.writers c.in_ok-cycle.field-0 = rw c.items-2.ensures.value at c.in_ok-cycle.ensures in
    let found = found_cycle d c.in_ok-writers.writers c.in_ok-cycle.field-0 c.in-Some.cycle c.in_ok-writers.ensures searched c.in-Some.is in
    let few = listed_few (length d.tasks) c.in-Some.cycle (first_cycle_listed d found.0 c.in-Some.cycle c.requires found.1) in
    rw c.items-3.ensures.value (omega (arith, few, c.requires.tasks))

pub returns-clause-fail : goal.returns-clause-fail
returns-clause-fail c =
    let d = c.args.shaped.now.diagram in
    let searched : IsSearched c.in_ok-writers.writers c.in_ok-cycle.field-0 = rw c.items-2.ensures.value at c.in_ok-cycle.ensures in
    let found = found_cycle d c.in_ok-writers.writers c.in_ok-cycle.field-0 c.in-Some.cycle c.in_ok-writers.ensures searched c.in-Some.is in
    record { start = found.0; cycle = c.in-Some.cycle; is = found.1; named = rw c.items-3.ensures.value at c.in_ok-names.ensures }
