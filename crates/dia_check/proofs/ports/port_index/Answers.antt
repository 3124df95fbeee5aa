use Rattle.std.proofs.Common.{◌≡◌, Some, None, get_or, slice_get, sym, ap, ◌∙◌, rules}
use Rattle.std.specs.List.{flat_map, position}
use Rattle.std.specs.Option.{option_map}
use Rattle.std.proofs.lemmas.Option.{slice_get-get_or}
use Rattle.dia_check.specs.Indexes.{find_index}
use Rattle.dia_check.specs.Names.{out_name}
use Rattle.dia_check.specs.Tests.{is_task}
use Rattle.dia_check.proofs.PortLaws.{a-port, no-port, task-below}
use Rattle.dia_check.proofs.ports.port_index.Goals as goal

pub returns-in_err-writer : goal.returns-in_err-writer
returns-in_err-writer c =
    let none : c.from_residual.result ≡ None = search rules in
    let nobody : position (is_task c.args.writer.now) c.args.tasks.now ≡ None = sym (rw (c.items-tasks.ensures.value, c.in_err-writer.was) at c.task_index.ensures) in
    none ∙ sym (no-port c.args.tasks.now c.args.writer.now c.args.port.now nobody)

pub returns-in_err-port : goal.returns-in_err-port
returns-in_err-port c =
    let tasks = c.args.tasks.now in
    let i = c.in_ok-writer.writer in
    let t = get_or c.items-tasks.result.now i c.index-tasks-writer.result in
    let none : c.from_residual-in_err-port.result ≡ None = search rules in
    let found : position (is_task c.args.writer.now) tasks ≡ Some i = sym (rw (c.items-tasks.ensures.value, c.in_ok-writer.was) at c.task_index.ensures) in
    let at : slice_get tasks i ≡ Some t = rw c.items-tasks.ensures.value (slice_get-get_or tasks i c.index-tasks-writer.result (task-below tasks c.args.writer.now c.args.port.now i t found)) in
    let index : find_index (flat_map out_name t.parts) c.args.port.now ≡ None = sym (rw (c.items.ensures.value, c.in_err-port.was) at c.out_index.ensures) in
    none ∙ sym (a-port tasks c.args.writer.now c.args.port.now i t found at ∙ ap (option_map (λ k. (i, k))) index)

pub returns : goal.returns
returns c =
    let tasks = c.args.tasks.now in
    let i = c.in_ok-writer.writer in
    let t = get_or c.items-tasks.result.now i c.index-tasks-writer.result in
    let found : position (is_task c.args.writer.now) tasks ≡ Some i = sym (rw (c.items-tasks.ensures.value, c.in_ok-writer.was) at c.task_index.ensures) in
    let at : slice_get tasks i ≡ Some t = rw c.items-tasks.ensures.value (slice_get-get_or tasks i c.index-tasks-writer.result (task-below tasks c.args.writer.now c.args.port.now i t found)) in
    let index : find_index (flat_map out_name t.parts) c.args.port.now ≡ Some c.in_ok-port.port = sym (rw (c.items.ensures.value, c.in_ok-port.was) at c.out_index.ensures) in
    sym (a-port tasks c.args.writer.now c.args.port.now i t found at ∙ ap (option_map (λ k. (i, k))) index)
