use Rattle.std.proofs.Common.{[], ◌∷◌, length, length-append, arith}
use Rattle.dbp_plan.proofs.Listed.{listed_room}
use Rattle.rank_find.specs.Fronts.{AllWait}
use Rattle.rank_find.specs.Orders.{IsFirstFree}
use Rattle.rank_find.proofs.OrderFronts.{front_more}
use Rattle.rank_find.proofs.order.front_of_order.Goals as goal

pub push-requires : goal.push-requires
push-requires c =
    let next : IsFirstFree c.args.diagram.now c.loop-next.placed c.in-Some.next = rw c.items.ensures.value at c.in-Some.ensures in
    omega (arith, listed_room (length c.args.diagram.now.tasks) c.loop-next.placed c.in-Some.next c.loop-next.invariant.listed next.free.named next.free.unplaced, c.requires.closed.tasks)

pub loop-next-smaller : goal.loop-next-smaller
loop-next-smaller c =
    let next : IsFirstFree c.args.diagram.now c.loop-next.placed c.in-Some.next = rw c.items.ensures.value at c.in-Some.ensures in
    rw c.in_ok-push.ensures.ok
    (omega (arith, length-append c.loop-next.placed (c.in-Some.next ∷ []), listed_room (length c.args.diagram.now.tasks) c.loop-next.placed c.in-Some.next c.loop-next.invariant.listed next.free.named next.free.unplaced))

pub loop-next-preserved : goal.loop-next-preserved
loop-next-preserved c =
    let next : IsFirstFree c.args.diagram.now c.loop-next.placed c.in-Some.next = rw c.items.ensures.value at c.in-Some.ensures in
    rw c.in_ok-push.ensures.ok (front_more c.args.diagram.now c.loop-next.placed c.in-Some.next c.loop-next.invariant next)

pub returns-clause-end : goal.returns-clause-end
returns-clause-end c =
    let wait : AllWait c.args.diagram.now c.loop-next.placed = rw c.items.ensures.value at c.in_default.ensures in
    wait
