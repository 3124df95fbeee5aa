use Rattle.std.proofs.Common.{◌≡◌, ◌<◌, None, Some, length, get_or, sym, ◌∙◌, arith, rules}
use Rattle.dia_check.proofs.TaskFaults.{body-line-fault, tasks-later, rest-is}
use Rattle.dia_check.proofs.first_line.tasks_fault.Goals as goal

pub returns-in-Some-body_fault : goal.returns-in-Some-body_fault
returns-in-Some-body_fault c =
    let doc = c.args.doc.now in
    let ts = doc.body.tasks in
    let k = c.loop-place.place in
    let t = c.index-tasks-place.result in
    let items = c.items-tasks.ensures.value in
    let below : k < length ts = search rules in
    let is : t ≡ get_or ts k t = rw items at c.index-tasks-place.is in
    let lines : k < length doc.lines.tasks = omega (arith, below, c.requires.tasks) in
    let none : None ≡ c.task_fault.result = search rules in
    let fault : c.body_fault.result ≡ Some c.in-Some-body_fault.fault = search rules in
    body-line-fault doc.body ts doc.lines.tasks doc.lines.parts k c.loop-place.rest.now c.loop-place.invariant t below is c.in-Some-body_fault.fault lines
    (none ∙ rw items at c.task_fault.ensures) (sym c.body_fault.ensures ∙ fault)

pub loop-place-preserved : goal.loop-place-preserved
loop-place-preserved c =
    let doc = c.args.doc.now in
    let ts = doc.body.tasks in
    let k = c.loop-place.place in
    let t = c.index-tasks-place.result in
    let items = c.items-tasks.ensures.value in
    let below : k < length ts = search rules in
    let is : t ≡ get_or ts k t = rw items at c.index-tasks-place.is in
    let lines : k < length doc.lines.tasks = omega (arith, below, c.requires.tasks) in
    let none : None ≡ c.task_fault.result = search rules in
    let fault : c.body_fault.result ≡ None = search rules in
    let parts = c.items.ensures.value in
    rw (parts, rest-is (length t.parts) c.loop-place.rest.now) (tasks-later doc.body ts doc.lines.tasks doc.lines.parts k c.loop-place.rest.now c.loop-place.invariant t below is lines (none ∙ rw items at c.task_fault.ensures) (sym c.body_fault.ensures ∙ fault))
