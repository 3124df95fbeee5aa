use Rattle.std.proofs.Common.{All}
use Rattle.party_turns.specs.Parties.{Belongs}
use Rattle.party_exec.specs.Jobs.{HaveRounds}
use Rattle.party_exec.proofs.thread_crew.run_rounds_in_turn.Given as goal

abbrev pub invariant-loop : goal.invariant-loop
invariant-loop g l = record {
  here : All (Belongs l.words) l.parties;
  rounds : HaveRounds l.words l.initial.parties l.parties;
}
