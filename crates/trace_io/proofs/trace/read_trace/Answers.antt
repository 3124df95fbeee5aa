use Rattle.std.proofs.Common.{◌≡◌, All, subst, refl, arith}
use Rattle.trace_io.specs.Batches.{AreBatches, total_of}
use Rattle.trace_io.specs.Guards.{HasItsSamples}
use Rattle.trace_io.specs.Merging.{AreMerged}
use Rattle.trace_io.specs.Traces.{events_of, given_samples, IsTraceOf}
use Rattle.trace_io.proofs.MergeClocks.{merged-tasks, same-count, same-total}
use Rattle.trace_io.proofs.Plans.{plan_from}
use Rattle.trace_io.proofs.Timetables.{named-samples, rising-samples, timetable}
use Rattle.trace_io.proofs.TraceFaults.{no-fault}
use Rattle.trace_io.proofs.trace.read_trace.Goals as goal

pub merge_clocks-requires-clause-table : goal.merge_clocks-requires-clause-table
merge_clocks-requires-clause-table c =
    timetable c.args.doc.now c.args.diagram c.in_ok-events.field-0.events.items c.in_ok-events.field-0.samples c.in_ok-events.ensures.trace c.requires.printable c.requires.lines c.requires.ranked

pub merged-requires-clause-tasks : goal.merged-requires-clause-tasks
merged-requires-clause-tasks c =
    let d = c.args.diagram in
    let trace = c.in_ok-events.field-0 in
    let its : All (HasItsSamples trace.samples c.own_lists-lists.result.now) d.tasks = rw c.own_lists-lists.ensures c.in_ok-events.ensures.own in
    let count = same-count d trace.samples trace.events.items c.merge_clocks.new.events.items c.in_ok-clocks.clocks.items (c.in_ok-clocks.ensures.times trace.samples its) in
    rw c.deref-2.ensures.value (omega (arith, count, c.requires.ranked.closed.tasks))

pub merged-requires-clause-few : goal.merged-requires-clause-few
merged-requires-clause-few c =
    let doc = c.args.doc.now in
    let d = c.args.diagram in
    let trace = c.in_ok-events.field-0 in
    let is : IsTraceOf doc d trace.events.items trace.samples = c.in_ok-events.ensures.trace in
    let its : All (HasItsSamples trace.samples c.own_lists-lists.result.now) d.tasks = rw c.own_lists-lists.ensures c.in_ok-events.ensures.own in
    let total = same-total d trace.samples trace.events.items c.merge_clocks.new.events.items c.in_ok-clocks.clocks.items c.in_ok-clocks.ensures.clocks (c.in_ok-clocks.ensures.times trace.samples its) in
    let same : total_of d trace.samples trace.events.items ≡ total_of d (given_samples doc d) (events_of doc d) = λ j. total_of d (is.samples_are j) (is.events_are j) in
    rw (c.deref.ensures.value, c.deref-2.ensures.value) (omega (arith, total, same, c.in_ok-events.ensures.few))

pub invariant_of-result : goal.invariant_of-result
invariant_of-result c =
    let doc = c.args.doc.now in
    let d = c.args.diagram in
    let trace = c.in_ok-events.field-0 in
    let is : IsTraceOf doc d trace.events.items trace.samples = c.in_ok-events.ensures.trace in
    let its : All (HasItsSamples trace.samples c.own_lists-lists.result.now) d.tasks = rw c.own_lists-lists.ensures c.in_ok-events.ensures.own in
    let merged : AreMerged d.until c.merge_clocks.new.events.items c.in_ok-clocks.clocks.items c.in_ok-batches.batches = rw (c.deref.ensures.value, c.deref-2.ensures.value) at c.in_ok-batches.ensures in
    let made : AreBatches d trace.samples trace.events.items c.in_ok-batches.batches =
    merged-tasks d trace.samples trace.events.items c.merge_clocks.new.events.items c.in_ok-clocks.clocks.items c.in_ok-batches.batches c.in_ok-clocks.ensures.clocks (c.in_ok-clocks.ensures.times trace.samples its) merged in
    record {
      rules = plan_from d trace.events.items trace.samples c.in_ok-batches.batches c.requires.ranked made
          (rising-samples doc d trace.events.items trace.samples is c.requires.printable c.requires.lines) (named-samples doc d trace.events.items trace.samples is);
    }

pub returns-clause-plan : goal.returns-clause-plan
returns-clause-plan c =
    let doc = c.args.doc.now in
    let d = c.args.diagram in
    let trace = c.in_ok-events.field-0 in
    let is : IsTraceOf doc d trace.events.items trace.samples = c.in_ok-events.ensures.trace in
    let its : All (HasItsSamples trace.samples c.own_lists-lists.result.now) d.tasks = rw c.own_lists-lists.ensures c.in_ok-events.ensures.own in
    let merged : AreMerged d.until c.merge_clocks.new.events.items c.in_ok-clocks.clocks.items c.in_ok-batches.batches = rw (c.deref.ensures.value, c.deref-2.ensures.value) at c.in_ok-batches.ensures in
    let made : AreBatches d trace.samples trace.events.items c.in_ok-batches.batches =
    merged-tasks d trace.samples trace.events.items c.merge_clocks.new.events.items c.in_ok-clocks.clocks.items c.in_ok-batches.batches c.in_ok-clocks.ensures.clocks (c.in_ok-clocks.ensures.times trace.samples its) merged in
    record {
      faultless = no-fault doc d is.faultless c.in_ok-events.ensures.few;
      diagram = refl;
      samples = is.samples_are;
      batches = subst (λ ss. AreBatches d ss (events_of doc d) c.in_ok-batches.batches) is.samples_are (subst (λ es. AreBatches d trace.samples es c.in_ok-batches.batches) is.events_are made);
    }
