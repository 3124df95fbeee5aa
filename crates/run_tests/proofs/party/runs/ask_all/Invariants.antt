use Rattle.party_turns.specs.Parties.{AreParties}
use Rattle.run_tests.proofs.party.runs.ask_all.Given as goal

abbrev pub invariant-loop-asked : goal.invariant-loop-asked
invariant-loop-asked g l = AreParties l.words l.parties
