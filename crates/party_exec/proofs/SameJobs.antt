-- The parties of which jobs and turns are made stay those of their seats.
use Rattle.std.proofs.Common.{inl, inr, ℕ, List, get_or, sym, subst}
use Rattle.word_rule.specs.declared.seats.SlotWords.{SlotWords}
use Rattle.party_turns.specs.SameSeats.{AreSame, IsSameParty}
use Rattle.party_turns.specs.declared.party.Party.{Party}
use Rattle.party_turns.specs.declared.turn.Turn.{Turn}
use Rattle.party_turns.proofs.SameParties.{counted_same, same_further, same_party, turn_same}
use Rattle.party_exec.specs.Jobs.{AreJobs, IsCountedTurn, IsJob, IsNextJob, MakesJobs, MakesTurns, HasWorked, after_one, at_first, no_job, no_turn, one_job, one_turn}

pub counted_turn_same : (w : SlotWords) (p q : Party) (t : Turn) → IsCountedTurn w p q t → IsSameParty p q
counted_turn_same w p q t h = same_further p h.counted q (counted_same p h.counted h.count) (turn_same w h.counted q t h.turn)

pub worked_same : (w : SlotWords) (p : Party) (made idle : ℕ) (q : Party) → HasWorked w p made idle q → IsSameParty p q
worked_same w p made idle q at_first = same_party p
worked_same w p made idle q (after_one m i r s t before few quiet more turn) = same_further p r q (worked_same w p m i r before) (counted_turn_same w r q t turn)

pub turned_same : (w : SlotWords) (p : Party) (made : ℕ) (q : Party) → MakesTurns w p made q → IsSameParty p q
turned_same w p made q no_turn = same_party p
turned_same w p made q (one_turn m r s t before turn) = same_further p r q (turned_same w p m r before) (turn_same w r q t turn)

pub next_job_same : (w : SlotWords) (p q : Party) → IsNextJob w p q → IsSameParty p q
next_job_same w p q next = elim next [
  | inl rests ↦ subst (λ (x : Party). IsSameParty p x) (sym rests.1) (same_party p)
  | inr works ↦ let job : IsJob w p q = works.1 in worked_same w p job.made job.idle q job.turns
]

pub made_jobs_same : (w : SlotWords) (p : Party) (made : ℕ) (q : Party) → MakesJobs w p made q → IsSameParty p q
made_jobs_same w p made q no_job = same_party p
made_jobs_same w p made q (one_job m r s before next) = same_further p r q (made_jobs_same w p m r before) (next_job_same w r q next)

pub jobs_same : (w : SlotWords) (ps qs : List Party) → AreJobs w ps qs → AreSame ps qs
jobs_same w ps qs jobs k d few =
    let job : IsJob w (get_or ps k d) (get_or qs k d) = jobs k d few in
    worked_same w (get_or ps k d) job.made job.idle (get_or qs k d) job.turns
