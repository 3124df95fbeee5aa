use Rattle.std.proofs.Common.{rules, ◌≡◌, ◌<◌, ◌++◌, ◌∷◌, [], ℕ, List, length, get_or, slice_get, Some, sym, ap, ◌∙◌, w64}
use Rattle.std.specs.Prelude.{filter}
use Rattle.std.proofs.lemmas.Int.{to_z-of_z}
use mir.Val.{to_z, of_z}
use Rattle.dbp_plan.specs.declared.diagram.Input.{Input}
use Rattle.dbp_plan.specs.declared.diagram.Task.{Task}
use Rattle.dbp_plan.specs.Clocks.{base_times}
use Rattle.dbp_plan.specs.ListItems.{read_place}
use Rattle.trace_io.specs.Counts.{IsClockOf}
use Rattle.trace_io.specs.Spans.{is_on_by}
use Rattle.trace_io.proofs.MergeClocks.{clock-more, event-times, guarded-times, plain-times, same-task, table-more}
use Rattle.trace_io.proofs.Plans.{clock_fits_at, input_at}
use Rattle.trace_io.proofs.guards.merge_clock.Goals as goal

pub returns-in-None-clause-times : goal.returns-in-None-clause-times
returns-in-None-clause-times c samples t at its =
    let d = c.args.diagram.now in
    let read : Task = c.index-items-i.result in
    let same : read ≡ t = same-task d c.args.i read t c.requires.inside (rw c.items.ensures.value at c.index-items-i.is) at in
    ap (λ (u : Task). base_times d.until c.args.events.now.items u.clock) same ∙ sym (plain-times d samples c.args.events.now.items t (ap (λ (u : Task). u.when) (sym same) ∙ c.in-None.is))

pub returns-in_ok-push-in-Some-clause-table : goal.returns-in_ok-push-in-Some-clause-table
returns-in_ok-push-in-Some-clause-table c =
    let d = c.args.diagram.now in
    let read : Task = c.index-items-i.result in
    let at : slice_get d.tasks c.args.i ≡ Some read = read_place d.tasks c.args.i read c.requires.inside (rw c.items.ensures.value at c.index-items-i.is) in
    let clock : IsClockOf (length c.args.events.now.items) read.clock = clock-more (length d.events) (length c.args.events.now.items) read.clock c.requires.events (clock_fits_at d c.requires.ranked.closed c.args.i read at) in
    let times = rw c.deref.ensures.value at c.in_ok-times-in-Some.ensures in
    rw (c.in_ok-push-in-Some.ensures.items, times) (table-more d.until c.args.events.now.items read.clock (is_on_by _ c.samples_at-samples.result.now) clock c.requires.table)

pub returns-in_ok-push-in-Some-clause-times : goal.returns-in_ok-push-in-Some-clause-times
returns-in_ok-push-in-Some-clause-times c samples t at its =
    let d = c.args.diagram.now in
    let read : Task = c.index-items-i.result in
    let same : read ≡ t = same-task d c.args.i read t c.requires.inside (rw c.items.ensures.value at c.index-items-i.is) at in
    let when : t.when ≡ Some c.in-Some.input = ap (λ (u : Task). u.when) (sym same) ∙ c.in-Some.is in
    let inside : c.in-Some.input < length d.inputs = input_at d c.requires.ranked.closed c.args.i t c.in-Some.input at when in
    let input : slice_get d.inputs c.in-Some.input ≡ Some c.index-items-input.result = read_place d.inputs c.in-Some.input c.index-items-input.result inside (rw c.items-in-Some.ensures.value at c.index-items-input.is) in
    let first : Input = get_or c.items-in-Some.result.now c.in-Some.input c.index-items-input.result in
    let shown_first : to_z w64 (of_z w64 first.first) ≡ first.first = search (rules, to_z-of_z) in
    let shown : to_z w64 (of_z w64 first.first) ≡ c.index-items-input.result.first = shown_first ∙ ap (λ (i : Input). i.first) (sym c.index-items-input.is) in
    let count : c.len-event.result ≡ length c.args.events.now.items = search rules in
    ap (λ (es : List (List ℕ)). get_or es c.len-event.result []) c.in_ok-push-in-Some.ensures.items ∙ ap (λ (n : ℕ). get_or (c.args.events.now.items ++ c.in_ok-times-in-Some.times ∷ []) n []) count
    ∙ event-times d.until c.args.events.now.items c.in_ok-times-in-Some.times ∙ c.in_ok-times-in-Some.ensures
    ∙ (λ j. filter (is_on_by (shown j) (c.samples_at-samples.ensures j)) (base_times d.until (c.deref.ensures.value j) (same j).clock))
    ∙ guarded-times d samples c.args.events.now.items c.args.own.now t c.in-Some.input c.index-items-input.result when input its
