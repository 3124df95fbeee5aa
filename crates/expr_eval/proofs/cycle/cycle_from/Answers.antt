use Rattle.std.proofs.Common.{◌≡◌, ℕ, get_or, slice_get, Some, length, arith, sym, ◌∙◌, ap, subst}
use Rattle.std.proofs.lemmas.Option.{slice_get_within, slice_get-get_or, same_Some}
use Rattle.expr_eval.specs.LetOrders.{Uses}
use Rattle.dbp_plan.specs.ListItems.{take_inside}
use Rattle.dbp_plan.proofs.Listed.{listed_few}
use Rattle.expr_eval.proofs.Searches.{descent_more, descent_closed, descent_few, descent_none}
use Rattle.expr_eval.proofs.cycle.cycle_from.Goals as goal

pub returns-then-place-eq0 : goal.returns-then-place-eq0
returns-then-place-eq0 c =
    let found = c.args.found.now in
    let next = c.in-Some.ensures in
    let at : slice_get found 0 ≡ Some next.used = ap (λ (z : ℕ). slice_get found z) (sym c.if-place-eq0.true) ∙ (take_inside found c.loop-place.bound c.in-Some.place next.used next.is).1 in
    descent_closed c.args.base c.args.lets.now c.args.target found c.loop-place.bound c.loop-place.cycle c.loop-place.user next.used c.requires.lead c.loop-place.invariant at next.uses

pub bounds-found-place : goal.bounds-found-place
bounds-found-place c =
    let found = c.args.found.now in
    let next = c.in-Some.ensures in
    slice_get_within found c.in-Some.place next.used ((take_inside found c.loop-place.bound c.in-Some.place next.used next.is).1)

pub push-requires-in-Some : goal.push-requires-in-Some
push-requires-in-Some c =
    let few = listed_few (length c.args.lets.now) c.loop-place.cycle (descent_few c.args.base c.args.lets.now c.args.target c.args.found.now c.loop-place.bound c.loop-place.cycle c.loop-place.user c.requires.lead c.loop-place.invariant) in
    omega (arith, few, c.requires.few)

pub loop-place-smaller : goal.loop-place-smaller
loop-place-smaller c =
    let next = c.in-Some.ensures in
    (take_inside c.args.found.now c.loop-place.bound c.in-Some.place next.used next.is).0

pub loop-place-preserved : goal.loop-place-preserved
loop-place-preserved c =
    let found = c.args.found.now in
    let place : ℕ = c.in-Some.place in
    let next = c.in-Some.ensures in
    let there : slice_get found place ≡ Some next.used = (take_inside found c.loop-place.bound place next.used next.is).1 in
    let at : slice_get found place ≡ Some (get_or found place 0) = slice_get-get_or found place 0 (slice_get_within found place next.used there) in
    let used : Uses c.args.base c.args.lets.now c.loop-place.user (get_or found place 0) =
    subst (λ (z : ℕ). Uses c.args.base c.args.lets.now c.loop-place.user z) (same_Some next.used (get_or found place 0) (sym there ∙ at)) next.uses in
    rw c.in_ok-push-2.ensures.ok
    (descent_more c.args.base c.args.lets.now c.args.target found c.loop-place.bound c.loop-place.cycle c.loop-place.user place (get_or found place 0)
    c.requires.lead c.loop-place.invariant (omega arith) ((take_inside found c.loop-place.bound place next.used next.is).0) at used)

pub returns : goal.returns
returns c =
    descent_none c.args.base c.args.lets.now c.args.target c.args.found.now c.loop-place.bound c.loop-place.cycle c.loop-place.user c.requires.lead c.requires.all c.loop-place.invariant c.in_default.ensures
