-- Parties at their places.
use Rattle.std.proofs.Common.{◌≡◌, ◌≢◌, ⊎_elim, ℕ, zero, suc, List, set, slice_get, Some, sym, ◌∙◌, subst, length-set}
use Rattle.sync_meaning.proofs.Sets.{set_cases}
use Rattle.word_rule.specs.Seats.{ReleaserSits, TaskSits}
use Rattle.word_rule.specs.declared.seats.SlotWords.{SlotWords}
use Rattle.party_turns.specs.Parties.{AreFresh, AreParties, Belongs, IsFresh, IsPartyAt, IsTurn}
use Rattle.party_turns.specs.Turns.{IsReleaserTurn, IsTaskTurn}
use Rattle.party_turns.specs.declared.party.Party.{Party}
use Rattle.party_turns.specs.declared.party.Party.TheVariants.{Releaser, Task}
use Rattle.party_turns.specs.declared.releaser_party.ReleaserParty.{ReleaserParty}
use Rattle.party_turns.specs.declared.task_party.TaskParty.{TaskParty}
use Rattle.party_turns.specs.declared.turn.Turn.{Turn}
use Rattle.party_turns.specs.declared.turn.Turn.TheVariants.{Stepped, Idle, Finished}

-- a party at a place belongs to the table
pub belongs : (w : SlotWords) (k : ℕ) (p : Party) → IsPartyAt w k p → Belongs w p
belongs w zero (Releaser s) h = h
belongs w zero (Task s) h = elim h [ ]
belongs w (suc i) (Releaser s) h = elim h [ ]
belongs w (suc i) (Task s) h = h.0

-- fresh parties stand at their places
fresh_party : (w : SlotWords) (k : ℕ) (p : Party) → IsFresh w k p → IsPartyAt w k p
fresh_party w zero (Releaser s) h = h.seat.here
fresh_party w zero (Task s) h = elim h [ ]
fresh_party w (suc i) (Releaser s) h = elim h [ ]
fresh_party w (suc i) (Task s) h = (h.seat.here, h.seat.task)

pub fresh_parties : (w : SlotWords) (ps : List Party) → AreFresh w ps → AreParties w ps
fresh_parties w ps h = record { size = h.size; each = λ k p at. fresh_party w k p (h.each k p at) }

-- ---- after a turn they still stand there

releaser_still : (w : SlotWords) (old new : ReleaserParty) (turn : Turn) → IsReleaserTurn w old new turn → ReleaserSits w old.seat → ReleaserSits w new.seat
releaser_still w old new Finished h here = subst (λ (s : ReleaserParty). ReleaserSits w s.seat) (sym h) here
releaser_still w old new Stepped h here = (h.seat.table ∙ here.0, h.seat.plan ∙ here.1)
releaser_still w old new (Idle cause) h here = (h.seat.table ∙ here.0, h.seat.plan ∙ here.1)

task_still : (w : SlotWords) (i : ℕ) (old new : TaskParty) (turn : Turn) → IsTaskTurn w old new turn → TaskSits w old.seat × (old.seat.task ≡ i) → TaskSits w new.seat × (new.seat.task ≡ i)
task_still w i old new Finished h here = subst (λ (s : TaskParty). TaskSits w s.seat × (s.seat.task ≡ i)) (sym h) here
task_still w i old new Stepped h here = ((h.seat.table ∙ here.0.0, h.seat.plan ∙ here.0.1), h.seat.task ∙ here.1)
task_still w i old new (Idle cause) h here = ((h.seat.table ∙ here.0.0, h.seat.plan ∙ here.0.1), h.seat.task ∙ here.1)

pub still_party : (w : SlotWords) (k : ℕ) (old new : Party) (turn : Turn) → IsTurn w old new turn → IsPartyAt w k old → IsPartyAt w k new
still_party w zero (Releaser old) (Releaser new) turn h here = releaser_still w old new turn h here
still_party w (suc i) (Task old) (Task new) turn h here = task_still w i old new turn h here
still_party w zero (Task old) new turn h here = elim here [ ]
still_party w (suc i) (Releaser old) new turn h here = elim here [ ]
still_party w zero (Releaser old) (Task new) turn h here = elim h [ ]
still_party w (suc i) (Task old) (Releaser new) turn h here = elim h [ ]

pub still_parties : (w : SlotWords) (ps : List Party) (k : ℕ) (old new : Party) (turn : Turn) → AreParties w ps → slice_get ps k ≡ Some old → IsTurn w old new turn → AreParties w (set ps k new)
still_parties w ps k old new turn h here made = record {
  size = length-set ps k new ∙ h.size;
  each = λ j p at. ⊎_elim
      (λ (is : (j ≡ k) × (new ≡ p)). subst (λ (x : ℕ × Party). IsPartyAt w x.0 x.1) (λ i. (sym is.0 i, is.1 i)) (still_party w k old new turn made (h.each k old here)))
      (λ (was : (j ≢ k) × (slice_get ps j ≡ Some p)). h.each j p was.1)
      (set_cases ps k j new p at);
}
