use Rattle.std.proofs.Common.{◌+◌, inr, arith}
use Rattle.std.proofs.lemmas.Bool.{false≢true}
use Rattle.party_turns.proofs.SameParties.{still_belongs}
use Rattle.party_exec.specs.Jobs.{at_first}
use Rattle.party_exec.proofs.Jobs.{idle_most, worked_further}
use Rattle.party_exec.proofs.SameJobs.{counted_turn_same}
use Rattle.party_exec.proofs.job.make_turns.Goals as goal

pub loop-init : goal.loop-init
loop-init g c = record { here = c.requires; quiet = omega arith; turns = at_first }

pub returns-then-idle-eq-MOST_IDLE : goal.returns-then-idle-eq-MOST_IDLE
returns-then-idle-eq-MOST_IDLE g c =
    let before = c.loop.invariant in record {
      made = c.loop.counter + 1;
      idle = c.idle_turns-idle.result;
      turns = worked_further c.args.words.now c.args.party.now c.loop.counter c.loop.idle c.idle_turns-idle.result c.loop.party c.told_turn-turn.new.party c.told_turn-turn.result before.turns c.loop-test.true before.quiet
          (λ done. false≢true (c.if-has_finished.ensures.1 done)) c.told_turn-turn.ensures c.idle_turns-idle.ensures;
      stops = inr (inr c.if-idle-eq-MOST_IDLE.true);
    }

pub loop-preserved : goal.loop-preserved
loop-preserved g c =
    let before = c.loop.invariant in
    let turn = c.told_turn-turn.ensures in
    let most = idle_most c.loop.idle c.told_turn-turn.result before.quiet in record {
      here = still_belongs c.args.words.now c.loop.party c.told_turn-turn.new.party before.here (counted_turn_same c.args.words.now c.loop.party c.told_turn-turn.new.party c.told_turn-turn.result turn);
      quiet = omega (arith, most, c.idle_turns-idle.ensures, c.if-idle-eq-MOST_IDLE.false);
      turns = worked_further c.args.words.now c.args.party.now c.loop.counter c.loop.idle c.idle_turns-idle.result c.loop.party c.told_turn-turn.new.party c.told_turn-turn.result before.turns c.loop-test.true before.quiet
          (λ done. false≢true (c.if-has_finished.ensures.1 done)) turn c.idle_turns-idle.ensures;
    }
