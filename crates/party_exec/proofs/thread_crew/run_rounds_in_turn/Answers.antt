use Rattle.party_exec.specs.Jobs.{no_round}
use Rattle.party_exec.proofs.ManyRounds.{rounds_further}
use Rattle.party_exec.proofs.Rounds.{rounds_belong, rounds_finished, rounds_same_parties}
use Rattle.party_exec.proofs.thread_crew.run_rounds_in_turn.Goals as goal

pub loop-init : goal.loop-init
loop-init g c = record { here = rounds_belong c.args.words.now c.args.parties.now c.args.parties.now no_round c.requires; rounds = no_round }

pub returns-then-have_finished-clause-rounds : goal.returns-then-have_finished-clause-rounds
returns-then-have_finished-clause-rounds g c = c.loop.invariant.rounds

pub returns-then-have_finished-clause-same : goal.returns-then-have_finished-clause-same
returns-then-have_finished-clause-same g c = rounds_same_parties c.args.words.now c.args.parties.now c.loop.parties c.loop.invariant.rounds

pub returns-then-have_finished-clause-finished : goal.returns-then-have_finished-clause-finished
returns-then-have_finished-clause-finished g c =
    rounds_finished c.args.words.now c.args.parties.now c.loop.parties c.loop.invariant.rounds c.requires (c.have_finished.ensures.0 c.if-have_finished.true)

pub loop-preserved : goal.loop-preserved
loop-preserved g c =
    let w = c.args.words.now in
    let ps = c.args.parties.now in
    let now = c.round_in_turn.new.parties in
    let rounds = rounds_further w 1 ps c.loop.parties now c.loop.invariant.rounds c.round_in_turn.ensures in
    record { here = rounds_belong w ps now rounds c.requires; rounds = rounds }
