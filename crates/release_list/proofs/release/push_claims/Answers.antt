-- Room for one task's claims more.
use Rattle.std.proofs.Common.{◌+◌, ◌*◌, ◌≤◌, arith, take, length, length-append, ap}
use Rattle.std.proofs.Math.Nat.{mul-le-mul_right}
use Rattle.std.proofs.lemmas.List.{length-take-le}
use Rattle.release_list.specs.Releases.{claims_of}
use Rattle.release_list.proofs.Room.{claims_few}
use Rattle.release_list.proofs.release.push_claims.Goals as goal

pub push_claims_into-requires-clause-claims : goal.push_claims_into-requires-clause-claims
push_claims_into-requires-clause-claims c = c.requires.claims

pub push_claims_into-requires-clause-task : goal.push_claims_into-requires-clause-task
push_claims_into-requires-clause-task c = c.requires.named c.loop-task.task-index 0 c.loop-task-test.true

pub push_claims_into-requires-clause-room : goal.push_claims_into-requires-clause-room
push_claims_into-requires-clause-room c =
    let links = c.args.links.now in
    let front = take c.loop-task.task-index c.args.tasks.now in
    let one : (length front + 1) * length links ≤ length c.args.tasks.now * length links = mul-le-mul_right (length links) (omega (arith, length-take-le c.loop-task.task-index c.args.tasks.now)) in
    omega (arith, ap length c.loop-task.invariant, length-append c.args.list.now (claims_of links front), claims_few links front, one)
