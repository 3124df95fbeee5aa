use Rattle.party_turns.specs.Parties.{Belongs}
use Rattle.party_exec.specs.Jobs.{MakesTurns}
use Rattle.party_exec.proofs.turn_crew.turns_drawn.Given as goal

abbrev pub invariant-loop : goal.invariant-loop
invariant-loop l = record {
  here : Belongs l.words l.party;
  turns : MakesTurns l.words l.initial.party l.counter l.party;
}
