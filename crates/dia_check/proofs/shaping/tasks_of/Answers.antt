use Rattle.std.proofs.Common.{◌≡◌, ◌<◌, ◌≤◌, length, get_or, arith, rules}
use Rattle.std.proofs.lemmas.Result.{err_from_is_err_and}
use Rattle.dia_check.specs.Scopes.{IsTaskRefusal}
use Rattle.dia_check.proofs.Faultless.{faultless}
use Rattle.dia_check.proofs.TaskFaults.{rest-is}
use Rattle.dia_check.proofs.TasksSoFar.{at-place, found-all, found-begins, found-next, lines-there, room, tasks-all, tasks-next, tasks-refused, tasks_begin}
use Rattle.dia_check.proofs.shaping.tasks_of.Goals as goal

pub loop-number-init : goal.loop-number-init
loop-number-init c =
    let doc = c.args.doc.now in
    rw (c.items-rest.ensures.value, c.new-tasks.ensures) (record { tasks = tasks_begin doc; found = found-begins doc c.args.found.now c.requires.none.0 c.requires.none.1 })

pub reads_of-requires-clause-faultless : goal.reads_of-requires-clause-faultless
reads_of-requires-clause-faultless c =
    let doc = c.args.doc.now in
    let k = c.loop-number.number in
    let raw = c.raw-item.result in
    let below : k < length doc.body.tasks = rw c.items-raw-items.ensures.value at c.loop-number-test.true in
    let is : raw ≡ get_or doc.body.tasks k raw = rw c.items-raw-items.ensures.value at c.raw-item.is in
    λ j p at. (faultless doc c.requires.lines c.requires.faultless).parts k j raw p (at-place doc k c.loop-number.tasks c.loop-number.rest.now c.loop-number.invariant.tasks raw below is) at

pub reads_of-requires-clause-lines : goal.reads_of-requires-clause-lines
reads_of-requires-clause-lines c =
    let doc = c.args.doc.now in
    let k = c.loop-number.number in
    let raw = c.raw-item.result in
    let below : k < length doc.body.tasks = rw c.items-raw-items.ensures.value at c.loop-number-test.true in
    let is : raw ≡ get_or doc.body.tasks k raw = rw c.items-raw-items.ensures.value at c.raw-item.is in
    lines-there doc k c.loop-number.tasks c.loop-number.rest.now c.loop-number.invariant.tasks raw below is c.requires.lines

pub reads_of-requires-clause-links_room : goal.reads_of-requires-clause-links_room
reads_of-requires-clause-links_room c =
    let doc = c.args.doc.now in
    let k = c.loop-number.number in
    let raw = c.raw-item.result in
    let below : k < length doc.body.tasks = rw c.items-raw-items.ensures.value at c.loop-number-test.true in
    let is : raw ≡ get_or doc.body.tasks k raw = rw c.items-raw-items.ensures.value at c.raw-item.is in
    omega (arith, room doc k c.loop-number.tasks c.loop-number.rest.now c.loop-number.invariant.tasks raw below is c.requires.printable, c.loop-number.invariant.found.few_links)

pub reads_of-requires-clause-lines_room : goal.reads_of-requires-clause-lines_room
reads_of-requires-clause-lines_room c =
    let doc = c.args.doc.now in
    let k = c.loop-number.number in
    let raw = c.raw-item.result in
    let below : k < length doc.body.tasks = rw c.items-raw-items.ensures.value at c.loop-number-test.true in
    let is : raw ≡ get_or doc.body.tasks k raw = rw c.items-raw-items.ensures.value at c.raw-item.is in
    omega (arith, room doc k c.loop-number.tasks c.loop-number.rest.now c.loop-number.invariant.tasks raw below is c.requires.printable, c.loop-number.invariant.found.few_lines)

pub checked_task-requires-clause-lines : goal.checked_task-requires-clause-lines
checked_task-requires-clause-lines c =
    let doc = c.args.doc.now in
    let k = c.loop-number.number in
    let raw = c.raw-item.result in
    let below : k < length doc.body.tasks = rw c.items-raw-items.ensures.value at c.loop-number-test.true in
    let is : raw ≡ get_or doc.body.tasks k raw = rw c.items-raw-items.ensures.value at c.raw-item.is in
    lines-there doc k c.loop-number.tasks c.loop-number.rest.now c.loop-number.invariant.tasks raw below is c.requires.lines

pub checked_task-requires-clause-faultless : goal.checked_task-requires-clause-faultless
checked_task-requires-clause-faultless c =
    let doc = c.args.doc.now in
    let k = c.loop-number.number in
    let raw = c.raw-item.result in
    let below : k < length doc.body.tasks = rw c.items-raw-items.ensures.value at c.loop-number-test.true in
    let is : raw ≡ get_or doc.body.tasks k raw = rw c.items-raw-items.ensures.value at c.raw-item.is in
    λ j p at. (faultless doc c.requires.lines c.requires.faultless).parts k j raw p (at-place doc k c.loop-number.tasks c.loop-number.rest.now c.loop-number.invariant.tasks raw below is) at

pub returns-in_err-task-clause-fault : goal.returns-in_err-task-clause-fault
returns-in_err-task-clause-fault c =
    let doc = c.args.doc.now in
    let k = c.loop-number.number in
    let raw = c.raw-item.result in
    let below : k < length doc.body.tasks = rw c.items-raw-items.ensures.value at c.loop-number-test.true in
    let is : raw ≡ get_or doc.body.tasks k raw = rw c.items-raw-items.ensures.value at c.raw-item.is in
    let fault : IsTaskRefusal raw (get_or doc.lines.tasks k 0) c.loop-number.rest.now c.in_err-task.field-0.0 = rw c.items-begins.ensures.value at c.in_err-task.ensures.fault in
    let p = err_from_is_err_and c.from_residual-in_err-task.result c.from_residual-in_err-task.ensures.1 in
    rw (p.1, p.2) (tasks-refused doc k c.loop-number.tasks c.loop-number.rest.now c.loop-number.invariant.tasks raw below is c.requires.lines c.requires.faultless c.in_err-task.field-0.0 fault)

pub slice_bounds-rest-count : goal.slice_bounds-rest-count
slice_bounds-rest-count c =
    let doc = c.args.doc.now in
    let k = c.loop-number.number in
    let raw = c.raw-item.result in
    let below : k < length doc.body.tasks = rw c.items-raw-items.ensures.value at c.loop-number-test.true in
    let is : raw ≡ get_or doc.body.tasks k raw = rw c.items-raw-items.ensures.value at c.raw-item.is in
    rw c.items.ensures.value (lines-there doc k c.loop-number.tasks c.loop-number.rest.now c.loop-number.invariant.tasks raw below is c.requires.lines)

pub slice_bounds-rest-start : goal.slice_bounds-rest-start
slice_bounds-rest-start c =
    let doc = c.args.doc.now in
    let k = c.loop-number.number in
    let raw = c.raw-item.result in
    let below : k < length doc.body.tasks = rw c.items-raw-items.ensures.value at c.loop-number-test.true in
    let is : raw ≡ get_or doc.body.tasks k raw = rw c.items-raw-items.ensures.value at c.raw-item.is in
    let fits : length c.items.result.now ≤ length c.loop-number.rest.now = rw c.items.ensures.value (lines-there doc k c.loop-number.tasks c.loop-number.rest.now c.loop-number.invariant.tasks raw below is c.requires.lines) in
    search rules

pub loop-number-preserved : goal.loop-number-preserved
loop-number-preserved c =
    let doc = c.args.doc.now in
    let k = c.loop-number.number in
    let raw = c.raw-item.result in
    let below : k < length doc.body.tasks = rw c.items-raw-items.ensures.value at c.loop-number-test.true in
    let is : raw ≡ get_or doc.body.tasks k raw = rw c.items-raw-items.ensures.value at c.raw-item.is in
    rw (c.items.ensures.value, rest-is (length raw.parts) c.loop-number.rest.now, c.in_ok-push.ensures.ok)
    (record {
      tasks = tasks-next doc k c.loop-number.tasks c.loop-number.rest.now c.loop-number.invariant.tasks raw below is c.in_ok-task.task (c.in_ok-task.ensures.task k c.in_ok-reads.ensures.reads) c.in_ok-task.ensures.whole;
      found = found-next doc k c.loop-number.tasks c.loop-number.rest.now c.loop-number.invariant.tasks raw below is c.loop-number.found c.reads_of.new.found c.loop-number.invariant.found c.in_ok-reads.ensures.links c.in_ok-reads.ensures.lines c.in_ok-reads.ensures.few;
    })

pub returns-clause-whole : goal.returns-clause-whole
returns-clause-whole c =
    let end : c.loop-number.number ≡ length c.args.doc.now.body.tasks = search rules in
    (tasks-all c.args.doc.now c.loop-number.number c.loop-number.tasks c.loop-number.rest.now c.loop-number.invariant.tasks end).1

pub returns-clause-links : goal.returns-clause-links
returns-clause-links c =
    let end : c.loop-number.number ≡ length c.args.doc.now.body.tasks = search rules in
    (found-all c.args.doc.now c.loop-number.number c.loop-number.rest.now c.loop-number.found c.loop-number.invariant.found end).0

pub returns-clause-lines : goal.returns-clause-lines
returns-clause-lines c =
    let end : c.loop-number.number ≡ length c.args.doc.now.body.tasks = search rules in
    (found-all c.args.doc.now c.loop-number.number c.loop-number.rest.now c.loop-number.found c.loop-number.invariant.found end).1
