use Rattle.std.proofs.Common.{◌<◌, ◌≤◌, ◌++◌, [], ◌∷◌, length, arith}
use Rattle.std.proofs.lemmas.List.{length_push}
use Rattle.rank_find.specs.declared.distance.TheConstants.{FAR}
use Rattle.rank_find.specs.Links.{IsWriter}
use Rattle.rank_find.proofs.Descents.{descent_back, descent_few, descent_more, descent_none, descent_one}
use Rattle.rank_find.proofs.cycle.descend.Goals as goal

pub loop-next-init : goal.loop-next-init
loop-next-init c =
    let writers = c.args.writers.now in
    let small : length writers < FAR = omega (arith, c.requires.few) in
    rw c.new-cycle.ensures (descent_one (IsWriter writers) c.args.start (length writers) c.args.distances.now small c.requires.named c.requires.distances)

pub push-requires : goal.push-requires
push-requires c =
    let writers = c.args.writers.now in
    let cycle = c.loop-next.cycle in
    let task = c.loop-next.task in
    let small : length writers < FAR = omega (arith, c.requires.few) in
    let few : length (cycle ++ task ∷ []) ≤ length writers =
    descent_few (IsWriter writers) c.args.start (length writers) c.args.distances.now small c.requires.named c.requires.distances (cycle ++ task ∷ []) task c.loop-next.invariant c.requires.start in
    omega (arith, few, length_push cycle task, c.requires.few)

pub returns-then-next-start : goal.returns-then-next-start
returns-then-next-start c =
    let writers = c.args.writers.now in
    let cycle = c.loop-next.cycle in
    let task = c.loop-next.task in
    let small : length writers < FAR = omega (arith, c.requires.few) in
    rw c.in_ok-push.ensures.ok
    (descent_back (IsWriter writers) c.args.start (length writers) c.args.distances.now small c.requires.named c.requires.distances (cycle ++ task ∷ []) task c.loop-next.invariant
    c.in-Some.next c.in-Some.ensures c.if-next-start.true)

pub loop-next-smaller : goal.loop-next-smaller
loop-next-smaller c =
    let writers = c.args.writers.now in
    let cycle = c.loop-next.cycle in
    let task = c.loop-next.task in
    let small : length writers < FAR = omega (arith, c.requires.few) in
    let few : length (cycle ++ task ∷ []) ≤ length writers =
    descent_few (IsWriter writers) c.args.start (length writers) c.args.distances.now small c.requires.named c.requires.distances (cycle ++ task ∷ []) task c.loop-next.invariant c.requires.start in
    rw c.in_ok-push.ensures.ok (omega (arith, few, length_push cycle task))

pub loop-next-preserved : goal.loop-next-preserved
loop-next-preserved c =
    let writers = c.args.writers.now in
    let cycle = c.loop-next.cycle in
    let task = c.loop-next.task in
    let small : length writers < FAR = omega (arith, c.requires.few) in
    rw c.in_ok-push.ensures.ok
    (descent_more (IsWriter writers) c.args.start (length writers) c.args.distances.now small c.requires.named c.requires.distances (cycle ++ task ∷ []) task c.loop-next.invariant
    c.in-Some.next c.in-Some.ensures c.if-next-start.false)

pub returns : goal.returns
returns c =
    let writers = c.args.writers.now in
    let cycle = c.loop-next.cycle in
    let task = c.loop-next.task in
    let small : length writers < FAR = omega (arith, c.requires.few) in
    descent_none (IsWriter writers) c.args.start (length writers) c.args.distances.now small c.requires.named c.requires.distances (cycle ++ task ∷ []) task c.loop-next.invariant c.in_default.ensures
