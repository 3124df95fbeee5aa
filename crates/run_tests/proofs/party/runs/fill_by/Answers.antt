use Rattle.party_turns.proofs.Places.{fresh_parties}
use Rattle.run_tests.proofs.party.runs.fill_by.Goals as goal

pub fill_rows-requires : goal.fill_rows-requires
fill_rows-requires g c = fresh_parties c.in_ok-words.words c.in_ok-words.parties c.in_ok-words.ensures.fresh
