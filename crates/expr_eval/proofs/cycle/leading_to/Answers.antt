use Rattle.std.proofs.Common.{arith, [], ◌∷◌, length-append}
use Rattle.expr_eval.specs.LetSearch.{AreAllLeading, IsNextUser}
use Rattle.expr_eval.proofs.Searches.{lead_more, lead_room}
use Rattle.expr_eval.proofs.cycle.leading_to.Goals as goal

pub push-requires-in-Some : goal.push-requires-in-Some
push-requires-in-Some c =
    let next : IsNextUser c.args.base c.args.lets.now c.loop-user.found c.in-Some.user = rw c.items.ensures.value at c.in-Some.ensures in
    omega (arith, lead_room c.args.base c.args.lets.now c.args.target c.loop-user.found c.in-Some.user c.loop-user.invariant next)

pub loop-user-smaller : goal.loop-user-smaller
loop-user-smaller c =
    let next : IsNextUser c.args.base c.args.lets.now c.loop-user.found c.in-Some.user = rw c.items.ensures.value at c.in-Some.ensures in
    rw c.in_ok-push-2.ensures.ok
    (omega (arith, length-append c.loop-user.found (c.in-Some.user ∷ []), lead_room c.args.base c.args.lets.now c.args.target c.loop-user.found c.in-Some.user c.loop-user.invariant next))

pub loop-user-preserved : goal.loop-user-preserved
loop-user-preserved c =
    let next : IsNextUser c.args.base c.args.lets.now c.loop-user.found c.in-Some.user = rw c.items.ensures.value at c.in-Some.ensures in
    rw c.in_ok-push-2.ensures.ok (lead_more c.args.base c.args.lets.now c.args.target c.loop-user.found c.in-Some.user c.loop-user.invariant next.named next.new next.user)

pub returns-clause-all : goal.returns-clause-all
returns-clause-all c =
    let all : AreAllLeading c.args.base c.args.lets.now c.loop-user.found = rw c.items.ensures.value at c.in_default.ensures in
    all
