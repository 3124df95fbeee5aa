use Rattle.std.proofs.Common.{◌≡◌, ◌∙◌, ◌<◌, ◌≤◌, All, [], sym}
use Rattle.std.proofs.lemmas.Result.{err_from_is_err_and}
use Rattle.dbp_plan.specs.declared.limits.TheConstants.{MAX_OCCURRENCES}
use Rattle.trace_io.specs.Batches.{total_of}
use Rattle.trace_io.specs.Guards.{HasItsSamples}
use Rattle.trace_io.specs.Traces.{events_of, given_samples, IsTraceOf}
use Rattle.dia_read.proofs.OneMore.{nothing-left}
use Rattle.trace_io.proofs.Timetables.{named-samples, rising-samples, timetable}
use Rattle.trace_io.proofs.TraceFaults.{no-line, some-bytes, too-many-at}
use Rattle.trace_io.proofs.trace.section_trace.Goals as goal

pub own_samples-requires-clause-named : goal.own_samples-requires-clause-named
own_samples-requires-clause-named c = named-samples c.args.doc.now c.args.diagram.now c.in_ok-said.said.events.items c.in_ok-said.said.samples c.in_ok-said.ensures.trace

pub own_samples-requires-clause-order : goal.own_samples-requires-clause-order
own_samples-requires-clause-order c =
    rising-samples c.args.doc.now c.args.diagram.now c.in_ok-said.said.events.items c.in_ok-said.said.samples c.in_ok-said.ensures.trace c.requires.printable c.requires.lines

pub check_occurrences-requires-clause-table : goal.check_occurrences-requires-clause-table
check_occurrences-requires-clause-table c =
    rw c.deref.ensures.value (timetable c.args.doc.now c.args.diagram.now c.in_ok-said.said.events.items c.in_ok-said.said.samples c.in_ok-said.ensures.trace c.requires.printable c.requires.lines c.requires.ranked)

pub check_occurrences-requires-clause-rising : goal.check_occurrences-requires-clause-rising
check_occurrences-requires-clause-rising c = rw c.own_lists-lists.ensures c.in_ok-own.ensures.rising

pub returns-then-is_empty-clause-fault : goal.returns-then-is_empty-clause-fault
returns-then-is_empty-clause-fault c =
    let empty : c.args.text.now ≡ [] = nothing-left c.args.text.now (sym c.is_empty.ensures ∙ c.if-is_empty.true) in
    rw c.bad_header.ensures (no-line c.args.doc.now c.args.diagram.now c.args.text.now c.requires.section empty)

pub returns-in_err-said-clause-no_line : goal.returns-in_err-said-clause-no_line
returns-in_err-said-clause-no_line c empty = absurd (some-bytes c.args.text.now (sym c.is_empty.ensures ∙ c.if-is_empty.false) empty)

pub returns-in_err-own-clause-no_line : goal.returns-in_err-own-clause-no_line
returns-in_err-own-clause-no_line c empty = absurd (some-bytes c.args.text.now (sym c.is_empty.ensures ∙ c.if-is_empty.false) empty)

pub returns-in_err-check_occurrences-clause-no_line : goal.returns-in_err-check_occurrences-clause-no_line
returns-in_err-check_occurrences-clause-no_line c empty = absurd (some-bytes c.args.text.now (sym c.is_empty.ensures ∙ c.if-is_empty.false) empty)

pub returns-clause-no_line : goal.returns-clause-no_line
returns-clause-no_line c empty = absurd (some-bytes c.args.text.now (sym c.is_empty.ensures ∙ c.if-is_empty.false) empty)

pub returns-in_err-check_occurrences-clause-fault : goal.returns-in_err-check_occurrences-clause-fault
returns-in_err-check_occurrences-clause-fault c =
    let doc = c.args.doc.now in
    let d = c.args.diagram.now in
    let said = c.in_ok-said.said in
    let told = c.in_err-check_occurrences.ensures in
    let trace : IsTraceOf doc d said.events.items said.samples = c.in_ok-said.ensures.trace in
    let its : All (HasItsSamples said.samples c.own_lists-lists.result.now) d.tasks = rw c.own_lists-lists.ensures c.in_ok-own.ensures.own in
    let events : c.deref.result.now ≡ events_of doc d = c.deref.ensures.value ∙ trace.events_are in
    let over : MAX_OCCURRENCES < total_of d said.samples c.deref.result.now = told.many said.samples its in
    let many : MAX_OCCURRENCES < total_of d (given_samples doc d) (events_of doc d) = rw (events, trace.samples_are) at over in
    let p = err_from_is_err_and c.from_residual-in_err-check_occurrences.result c.from_residual-in_err-check_occurrences.ensures.1 in
    rw (p.1, p.2) (too-many-at doc d _ _ told.line told.code trace.faultless many)

pub returns-clause-few : goal.returns-clause-few
returns-clause-few c =
    let doc = c.args.doc.now in
    let d = c.args.diagram.now in
    let said = c.in_ok-said.said in
    let trace : IsTraceOf doc d said.events.items said.samples = c.in_ok-said.ensures.trace in
    let its : All (HasItsSamples said.samples c.own_lists-lists.result.now) d.tasks = rw c.own_lists-lists.ensures c.in_ok-own.ensures.own in
    let events : c.deref.result.now ≡ events_of doc d = c.deref.ensures.value ∙ trace.events_are in
    let under : total_of d said.samples c.deref.result.now ≤ MAX_OCCURRENCES = c.in_ok-check_occurrences.ensures.few said.samples its in
    let few : total_of d (given_samples doc d) (events_of doc d) ≤ MAX_OCCURRENCES = rw (events, trace.samples_are) at under in
    few
