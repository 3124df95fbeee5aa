-- The rounds that a crew of threads makes.
use Rattle.std.proofs.Common.{◌≡◌, All, List, length, refl, ◌∙◌}
use Rattle.word_rule.specs.declared.seats.SlotWords.{SlotWords}
use Rattle.party_turns.specs.Parties.{AreFresh, Belongs, HasFinished, HaveFinished}
use Rattle.party_turns.specs.SameSeats.{AreSame, AreSameParties}
use Rattle.party_turns.specs.declared.party.Party.{Party}
use Rattle.party_turns.proofs.Places.{fresh_parties}
use Rattle.party_turns.proofs.SameParties.{all_belong, all_same, all_there_belong, places_stay, same_all_further, same_parties}
use Rattle.party_exec.specs.Jobs.{HaveRounds, no_round, one_round}
use Rattle.party_exec.proofs.SameJobs.{jobs_same}

pub rounds_size : (w : SlotWords) (ps qs : List Party) → HaveRounds w ps qs → length qs ≡ length ps
rounds_size w ps qs no_round = refl
rounds_size w ps rs (one_round qs last before more round) = round.size ∙ rounds_size w ps qs before

pub rounds_same : (w : SlotWords) (ps qs : List Party) → HaveRounds w ps qs → AreSame ps qs
rounds_same w ps qs no_round = all_same ps
rounds_same w ps rs (one_round qs last before more round) =
    same_all_further ps qs rs (rounds_size w ps qs before) (rounds_same w ps qs before) (jobs_same w qs rs round.jobs)

-- ---- of parties that had made no step

module _ (w : SlotWords) (ps qs : List Party) (rounds : HaveRounds w ps qs) where
  pub rounds_same_parties : AreSameParties ps qs
  rounds_same_parties = same_parties ps qs (rounds_size w ps qs rounds) (rounds_same w ps qs rounds)

  pub rounds_belong : AreFresh w ps → All (Belongs w) qs
  rounds_belong fresh = all_belong w ps qs (rounds_size w ps qs rounds) (all_there_belong w ps (fresh_parties w ps fresh)) (rounds_same w ps qs rounds)

  pub rounds_finished : AreFresh w ps → All (HasFinished w) qs → HaveFinished w qs
  rounds_finished fresh all = record {
    parties = places_stay w ps qs (rounds_size w ps qs rounds) (rounds_same w ps qs rounds) (fresh_parties w ps fresh);
    finished = all;
  }
