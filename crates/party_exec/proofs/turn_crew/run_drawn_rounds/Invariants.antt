use Rattle.std.proofs.Common.{All}
use Rattle.party_turns.specs.Parties.{Belongs}
use Rattle.party_exec.specs.Draws.{HaveDrawnRounds}
use Rattle.party_exec.proofs.turn_crew.run_drawn_rounds.Given as goal

abbrev pub invariant-loop : goal.invariant-loop
invariant-loop g l = record {
  here : All (Belongs l.words) l.parties;
  rounds : HaveDrawnRounds l.words l.seed l.initial.parties l.draws l.parties;
}
