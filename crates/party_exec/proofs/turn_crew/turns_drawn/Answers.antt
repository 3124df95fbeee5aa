use Rattle.party_turns.proofs.SameParties.{still_belongs, turn_same}
use Rattle.party_exec.specs.Jobs.{no_turn, one_turn}
use Rattle.party_exec.proofs.turn_crew.turns_drawn.Goals as goal

pub loop-init : goal.loop-init
loop-init c = record { here = c.requires; turns = no_turn }

pub loop-preserved : goal.loop-preserved
loop-preserved c =
    let before = c.loop.invariant in
    let turn = c.turn.ensures.turn in record {
      here = still_belongs c.args.words.now c.loop.party c.turn.new.self before.here (turn_same c.args.words.now c.loop.party c.turn.new.self c.turn.result turn);
      turns = one_turn c.loop.counter c.loop.party c.turn.new.self c.turn.result before.turns turn;
    }
