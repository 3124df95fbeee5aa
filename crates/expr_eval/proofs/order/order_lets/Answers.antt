use Rattle.std.proofs.Common.{◌<◌, ℕ, [], ◌∷◌, length, length-append, arith}
use Rattle.expr_eval.specs.LetOrders.{AllWait, IsNextReady, LiesOnCycle}
use Rattle.dbp_plan.proofs.Listed.{listed_few, listed_room}
use Rattle.expr_eval.proofs.FrontOrders.{front_more, front_end}
use Rattle.dbp_plan.specs.Listed.{AreListed}
use Rattle.expr_eval.proofs.Cycles.{all_placed}
use Rattle.expr_eval.proofs.Searches.{found_listed, found_none}
use Rattle.expr_eval.proofs.order.order_lets.Goals as goal

pub push-requires : goal.push-requires
push-requires c =
    let next : IsNextReady c.args.base c.args.lets.now c.loop-next.order c.in-Some.next = rw c.items.ensures.value at c.in-Some.ensures in
    omega (arith, listed_room (length c.args.lets.now) c.loop-next.order c.in-Some.next c.loop-next.invariant.listed next.named next.unplaced, c.requires.few)

pub loop-next-smaller : goal.loop-next-smaller
loop-next-smaller c =
    let next : IsNextReady c.args.base c.args.lets.now c.loop-next.order c.in-Some.next = rw c.items.ensures.value at c.in-Some.ensures in
    rw c.in_ok-push.ensures.ok
    (omega (arith, length-append c.loop-next.order (c.in-Some.next ∷ []), listed_room (length c.args.lets.now) c.loop-next.order c.in-Some.next c.loop-next.invariant.listed next.named next.unplaced))

pub loop-next-preserved : goal.loop-next-preserved
loop-next-preserved c =
    let next : IsNextReady c.args.base c.args.lets.now c.loop-next.order c.in-Some.next = rw c.items.ensures.value at c.in-Some.ensures in
    rw c.in_ok-push.ensures.ok (front_more c.args.base c.args.lets.now c.loop-next.order c.in-Some.next c.loop-next.invariant next)

pub names_of-requires-clause-named : goal.names_of-requires-clause-named
names_of-requires-clause-named c =
    let listed : AreListed (length c.args.lets.now) c.in-Some-2.cycle =
    found_listed c.args.base c.args.lets.now c.in_ok-cycle.field-0 c.in-Some-2.cycle c.in-Some-2.is c.in_ok-cycle.ensures in
    rw c.items-2.ensures.value listed.named

pub names_of-requires-clause-few : goal.names_of-requires-clause-few
names_of-requires-clause-few c =
    let listed : AreListed (length c.args.lets.now) c.in-Some-2.cycle =
    found_listed c.args.base c.args.lets.now c.in_ok-cycle.field-0 c.in-Some-2.cycle c.in-Some-2.is c.in_ok-cycle.ensures in
    rw c.items-2.ensures.value (listed_few (length c.args.lets.now) c.in-Some-2.cycle listed)

pub returns-then-len-clause-front : goal.returns-then-len-clause-front
returns-then-len-clause-front c = front_end c.args.base c.args.lets.now c.loop-next.order c.loop-next.invariant (omega arith)

pub returns-then-len-clause-order : goal.returns-then-len-clause-order
returns-then-len-clause-order c = (front_end c.args.base c.args.lets.now c.loop-next.order c.loop-next.invariant (omega arith)).is_order

pub unreachable-requires : goal.unreachable-requires
unreachable-requires c =
    let wait : AllWait c.args.base c.args.lets.now c.loop-next.order = rw c.items.ensures.value at c.in_default.ensures in
    let none : (i : ℕ) → i < length c.args.lets.now → LiesOnCycle c.args.base c.args.lets.now i → ⊥ =
    found_none c.args.base c.args.lets.now c.in_ok-cycle.field-0 c.in_default-2.is c.in_ok-cycle.ensures in
    let all = all_placed c.args.base c.args.lets.now c.loop-next.order c.requires.variables c.loop-next.invariant wait none in
    absurd (omega (arith, all))
