use Rattle.std.proofs.Common.{◌≡◌, ◌<◌, ◌≤◌, ◌++◌, ◌∷◌, [], length, rules, arith, sym, ◌∙◌}
use Rattle.dbp_plan.specs.declared.schedule.Batch.{Batch}
use Rattle.dbp_plan.proofs.ListParts.{refilled}
use Rattle.trace_io.specs.Merging.{AreNext, TakesDue}
use Rattle.trace_io.proofs.Merges.{Merged, after, after-push, least-next, none-next, merge-step, merge-end, made-few, taken-small}
use Rattle.trace_io.proofs.batches.merged.Goals as goal

pub take_due-requires-clause-few : goal.take_due-requires-clause-few
take_due-requires-clause-few c =
    rw c.deref_mut.ensures.value (taken-small c.args.until c.args.events.now c.args.clocks.now c.loop-time.taken.items c.loop-time.made c.requires.clocks c.loop-time.invariant.merged c.requires.few)

pub push-requires : goal.push-requires
push-requires c =
    let few = made-few c.args.until c.args.events.now c.args.clocks.now c.loop-time.taken.items c.loop-time.made c.requires.clocks c.loop-time.invariant.merged c.requires.few in
    omega (arith, few)

-- what one turn of the loop does
abbrev Turns : goal.In_ok-push → Type 0
Turns c =
    Merged c.args.until c.args.events.now c.args.clocks.now c.take_due.new.taken (c.loop-time.made ++ record { time = c.loop-time.time; tasks = c.in_ok-tasks.tasks } ∷ [])
    × (after c.loop-time.made ≤ c.loop-time.time) × (c.loop-time.time < c.args.until)

turn : (c : goal.In_ok-push) → Turns c
turn c =
    let least = least-next c.args.until c.args.events.now c.args.clocks.now c.loop-time.taken.items c.loop-time.next.items c.loop-time.time c.loop-time.invariant.now c.loop-time.invariant.least (omega (arith, c.loop-time-test.true)) in
    let due : TakesDue c.args.until c.args.events.now c.args.clocks.now c.loop-time.taken.items c.take_due.new.taken c.loop-time.time (length c.args.clocks.now) c.in_ok-tasks.tasks = rw c.deref_mut.ensures.value at c.in_ok-tasks.ensures.due in
    merge-step c.args.until c.args.events.now c.args.clocks.now c.loop-time.taken.items c.take_due.new.taken c.loop-time.made c.loop-time.time c.in_ok-tasks.tasks
    c.requires.table c.requires.clocks c.loop-time.invariant.merged least due

pub loop-time-smaller : goal.loop-time-smaller
loop-time-smaller c =
    let t = turn c in
    let b : Batch = record { time = c.loop-time.time; tasks = c.in_ok-tasks.tasks } in
    let push = after-push c.loop-time.made b t.1 in
    rw c.in_ok-push.ensures.ok (omega (arith, push, t.1, t.2))

pub loop-time-preserved : goal.loop-time-preserved
loop-time-preserved c =
    let t = turn c in
    let next : AreNext c.args.until c.args.events.now c.args.clocks.now c.take_due.new.taken c.take_due.new.next = c.in_ok-tasks.ensures.next in
    let same : length c.take_due.new.taken ≡ length c.loop-time.taken.items = t.0.places ∙ sym c.loop-time.invariant.merged.places in
    let same_next : length c.take_due.new.next ≡ length c.loop-time.next.items = next.0 ∙ sym c.loop-time.invariant.now.0 in
    let len : c.loop-time.taken.len ≡ length c.loop-time.taken.items = search rules in
    let len_next : c.loop-time.next.len ≡ length c.loop-time.next.items = search rules in
    rw
    (c.in_ok-push.ensures.ok, refilled c.loop-time.taken.len c.loop-time.taken.items c.take_due.new.taken len same, refilled c.loop-time.next.len c.loop-time.next.items c.take_due.new.next len_next same_next)
    (record { merged = t.0; now = next; least = c.in_ok-tasks.ensures.least })

pub returns : goal.returns
returns c =
    let ended = none-next c.args.until c.args.events.now c.args.clocks.now c.loop-time.taken.items c.loop-time.next.items c.loop-time.time c.requires.table c.requires.clocks c.loop-time.invariant.now c.loop-time.invariant.least (omega (arith, c.loop-time-test.false)) in
    merge-end c.args.until c.args.events.now c.args.clocks.now c.loop-time.taken.items c.loop-time.made c.requires.clocks c.requires.few c.loop-time.invariant.merged ended
