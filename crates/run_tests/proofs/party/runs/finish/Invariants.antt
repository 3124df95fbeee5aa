use Rattle.party_turns.specs.Parties.{AreParties}
use Rattle.run_tests.proofs.party.runs.finish.Given as goal

abbrev pub invariant-loop : goal.invariant-loop
invariant-loop g l = AreParties l.words l.parties
