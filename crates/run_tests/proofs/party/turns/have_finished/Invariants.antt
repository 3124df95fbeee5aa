use Rattle.std.proofs.Common.{ℕ, ◌<◌}
use Rattle.std.specs.Prelude.{slice_index_or}
use Rattle.party_turns.specs.Parties.{HasFinished}
use Rattle.party_turns.specs.declared.party.Party.{Party}
use Rattle.run_tests.proofs.party.turns.have_finished.Given as goal

abbrev pub invariant-loop-party : goal.invariant-loop-party
invariant-loop-party l = (k : ℕ) (d : Party) → k < l.party-index → HasFinished l.words (slice_index_or l.parties k d)
