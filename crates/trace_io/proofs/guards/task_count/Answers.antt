use Rattle.std.proofs.Common.{rules, ◌≡◌, ◌<◌, ℕ, List, length, get_or, slice_get, Some, sym, ap, ◌∙◌, w64}
use Rattle.std.specs.Prelude.{filter}
use Rattle.std.proofs.lemmas.Int.{to_z-of_z}
use mir.Val.{to_z, of_z}
use Rattle.dbp_plan.specs.declared.diagram.Input.{Input}
use Rattle.dbp_plan.specs.declared.diagram.Task.{Task}
use Rattle.dbp_plan.specs.Clocks.{base_times}
use Rattle.dbp_plan.specs.ListItems.{read_place}
use Rattle.trace_io.specs.Counts.{HasNumbersInRange, count_of}
use Rattle.trace_io.specs.Spans.{is_on_by}
use Rattle.trace_io.proofs.Counting.{base-count}
use Rattle.trace_io.proofs.MergeClocks.{guarded-times, plain-times, rising-at, same-task}
use Rattle.trace_io.proofs.Merges.{in-range}
use Rattle.trace_io.proofs.Plans.{clock_fits_at, input_at}
use Rattle.trace_io.proofs.guards.task_count.Goals as goal

pub count_on-requires-clause-rising : goal.count_on-requires-clause-rising
count_on-requires-clause-rising c = rw c.samples_at-samples.ensures (rising-at c.args.own.now c.in-Some.input c.requires.rising)

pub returns-in-None-clause-is : goal.returns-in-None-clause-is
returns-in-None-clause-is c samples t at its =
    let d = c.args.diagram.now in
    let read : Task = c.index-items-i.result in
    let same : read ≡ t = same-task d c.args.i read t c.requires.inside (rw c.items.ensures.value at c.index-items-i.is) at in
    let range : HasNumbersInRange t.clock = in-range (length d.events) t.clock (clock_fits_at d c.requires.ranked.closed c.args.i t at) in
    c.occurrences.ensures.is ∙ ap (λ (u : Task). count_of d.until c.args.events.now u.clock) same ∙ sym (base-count d.until c.args.events.now t.clock range)
    ∙ ap (λ (ts : List ℕ). length ts) (sym (plain-times d samples c.args.events.now t (ap (λ (u : Task). u.when) (sym same) ∙ c.in-None.is)))

pub returns-in-Some-clause-is : goal.returns-in-Some-clause-is
returns-in-Some-clause-is c samples t at its =
    let d = c.args.diagram.now in
    let read : Task = c.index-items-i.result in
    let same : read ≡ t = same-task d c.args.i read t c.requires.inside (rw c.items.ensures.value at c.index-items-i.is) at in
    let when : t.when ≡ Some c.in-Some.input = ap (λ (u : Task). u.when) (sym same) ∙ c.in-Some.is in
    let inside : c.in-Some.input < length d.inputs = input_at d c.requires.ranked.closed c.args.i t c.in-Some.input at when in
    let input : slice_get d.inputs c.in-Some.input ≡ Some c.index-items-input.result = read_place d.inputs c.in-Some.input c.index-items-input.result inside (rw c.items-in-Some.ensures.value at c.index-items-input.is) in
    let first : Input = get_or c.items-in-Some.result.now c.in-Some.input c.index-items-input.result in
    let shown_first : to_z w64 (of_z w64 first.first) ≡ first.first = search (rules, to_z-of_z) in
    let shown : to_z w64 (of_z w64 first.first) ≡ c.index-items-input.result.first = shown_first ∙ ap (λ (i : Input). i.first) (sym c.index-items-input.is) in
    c.count_on.ensures.is
    ∙ (λ j. length (filter (is_on_by (shown j) (c.samples_at-samples.ensures j)) (base_times d.until c.args.events.now (same j).clock)))
    ∙ ap (λ (ts : List ℕ). length ts) (guarded-times d samples c.args.events.now c.args.own.now t c.in-Some.input c.index-items-input.result when input its)
