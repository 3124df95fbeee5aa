use Rattle.std.proofs.Common.{refl}
use Rattle.party_turns.specs.Parties.{HasFinished}
use Rattle.party_exec.proofs.EachPlace.{next_place}
use Rattle.party_exec.proofs.all_parties.have_finished.Goals as goal

pub loop-party-preserved : goal.loop-party-preserved
loop-party-preserved c =
    next_place (HasFinished c.args.words.now) c.args.parties.now c.loop-party.party-index c.party-item.result c.loop-party-test.true c.party-item.is (c.if-not-has_finished.ensures.0 refl) c.loop-party.invariant
