use Rattle.std.proofs.Common.{◌≡◌, ◌<◌, ◌++◌, get_or, length, rules, sym}
use Rattle.trace_io.specs.Printing.{Counts, numbered_lines}
use Rattle.trace_io.proofs.AllLines.{can-print, printed-more}
use Rattle.dbp_plan.proofs.ListParts.{refilled}
use Rattle.trace_io.proofs.printed.lines.Goals as goal

pub push_batch-requires : goal.push_batch-requires
push_batch-requires c =
    let plan = c.args.plan.now in
    let fits : c.loop-batch.batch-index < length plan.batches = rw (sym c.items-batch-items.ensures.value) c.loop-batch-test.true in
    let same : get_or plan.batches c.loop-batch.batch-index c.batch-item.result ≡ c.batch-item.result = rw (sym c.items-batch-items.ensures.value) (sym c.batch-item.is) in
    rw (c.items-tasks.ensures.value, c.deref_mut.ensures.value)
    (can-print plan.diagram plan.samples plan.batches c.args.table.now c.loop-batch.batch-index c.loop-batch.counts.items c.loop-batch.text.items c.batch-item.result plan.rules c.requires c.loop-batch.invariant fits same)

pub loop-batch-preserved : goal.loop-batch-preserved
loop-batch-preserved c =
    let plan = c.args.plan.now in
    let fits : c.loop-batch.batch-index < length plan.batches = rw (sym c.items-batch-items.ensures.value) c.loop-batch-test.true in
    let same : get_or plan.batches c.loop-batch.batch-index c.batch-item.result ≡ c.batch-item.result = rw (sym c.items-batch-items.ensures.value) (sym c.batch-item.is) in
    let counts : Counts c.loop-batch.counts.items c.push_batch.new.counts c.batch-item.result.tasks = rw c.deref_mut.ensures.value at c.in_ok-push_batch.ensures.counts in
    let lines : c.push_batch.new.text.items ≡ c.loop-batch.text.items ++ numbered_lines plan.diagram.tasks c.args.table.now c.batch-item.result.time c.loop-batch.counts.items c.batch-item.result.tasks =
    rw (c.deref_mut.ensures.value, c.items-tasks.ensures.value) at c.in_ok-push_batch.ensures.lines in
    let len : c.loop-batch.counts.len ≡ length c.loop-batch.counts.items = search rules in
    rw (refilled c.loop-batch.counts.len c.loop-batch.counts.items c.push_batch.new.counts len counts.places, lines)
    (printed-more plan.diagram plan.samples plan.batches c.args.table.now c.loop-batch.batch-index c.loop-batch.counts.items c.push_batch.new.counts c.loop-batch.text.items c.batch-item.result plan.rules c.loop-batch.invariant fits same counts)
