-- Parties that make turns stay those of their seats.
use Rattle.std.proofs.Common.{◌≡◌, inl, inr, ℕ, zero, suc, ◌<◌, List, length, All, get_or, set, refl, sym, ◌∙◌, ap, subst, arith}
use Rattle.std.proofs.lemmas.Bool.{cases_eq}
use Rattle.std.proofs.lemmas.Grind.{get_or-set_at}
use Rattle.std.proofs.lemmas.List.{get_or-set_other, get_or_default}
use Rattle.std.proofs.lemmas.Option.{get_or_from_slice_get, slice_get-get_or, slice_get_within}
use Rattle.word_rule.specs.declared.seats.ReleaserSeat.{ReleaserSeat}
use Rattle.word_rule.specs.declared.seats.SlotWords.{SlotWords}
use Rattle.word_rule.specs.declared.seats.TaskSeat.{TaskSeat}
use Rattle.party_turns.specs.Counts.{IsCounted}
use Rattle.party_turns.specs.Parties.{AreParties, Belongs, IsPartyAt, IsTurn}
use Rattle.party_turns.specs.SameSeats.{AreSame, AreSameParties, IsSameParty, IsSameReleaserSeat, IsSameTaskSeat}
use Rattle.party_turns.specs.declared.party.Party.{Party}
use Rattle.party_turns.specs.declared.party.Party.TheVariants.{Releaser, Task}
use Rattle.party_turns.specs.declared.releaser_party.ReleaserParty.{ReleaserParty}
use Rattle.party_turns.specs.declared.task_party.TaskParty.{TaskParty}
use Rattle.party_turns.specs.declared.turn.Turn.{Turn}
use Rattle.party_turns.specs.declared.turn.Turn.TheVariants.{Finished, Idle, Stepped}
use Rattle.party_turns.proofs.Places.{belongs}

-- ---- one party

pub same_party : (p : Party) → IsSameParty p p
same_party (Releaser s) = record { table = refl; seat = refl; plan = refl }
same_party (Task s) = record { table = refl; seat = refl; plan = refl; task = refl }

pub same_further : (p q r : Party) → IsSameParty p q → IsSameParty q r → IsSameParty p r
same_further (Releaser a) (Releaser b) (Releaser c) x y = record { table = y.table ∙ x.table; seat = y.seat ∙ x.seat; plan = y.plan ∙ x.plan }
same_further (Releaser a) (Releaser b) (Task c) x y = elim y [ ]
same_further (Releaser a) (Task b) r x y = elim x [ ]
same_further (Task a) (Task b) (Task c) x y = record { table = y.table ∙ x.table; seat = y.seat ∙ x.seat; plan = y.plan ∙ x.plan; task = y.task ∙ x.task }
same_further (Task a) (Task b) (Releaser c) x y = elim y [ ]
same_further (Task a) (Releaser b) r x y = elim x [ ]

pub still_belongs : (w : SlotWords) (p q : Party) → Belongs w p → IsSameParty p q → Belongs w q
still_belongs w (Releaser a) (Releaser b) here same = (same.table ∙ here.0, same.plan ∙ here.1)
still_belongs w (Releaser a) (Task b) here same = elim same [ ]
still_belongs w (Task a) (Task b) here same = (same.table ∙ here.0, same.plan ∙ here.1)
still_belongs w (Task a) (Releaser b) here same = elim same [ ]

same_releaser : (a b : ReleaserSeat) → b ≡ a → IsSameReleaserSeat a b
same_releaser a b e = rw e (record { table = refl; seat = refl; plan = refl })

same_task : (a b : TaskSeat) → b ≡ a → IsSameTaskSeat a b
same_task a b e = rw e (record { table = refl; seat = refl; plan = refl; task = refl })

pub counted_same : (p q : Party) → IsCounted p q → IsSameParty p q
counted_same (Releaser a) (Releaser b) h = same_releaser a.seat b.seat h.0
counted_same (Releaser a) (Task b) h = elim h [ ]
counted_same (Task a) (Task b) h = same_task a.seat b.seat h.0
counted_same (Task a) (Releaser b) h = elim h [ ]

pub turn_same : (w : SlotWords) (p q : Party) (t : Turn) → IsTurn w p q t → IsSameParty p q
turn_same w (Releaser a) (Releaser b) Stepped h = record { table = h.seat.table; seat = h.seat.seat; plan = h.seat.plan }
turn_same w (Releaser a) (Releaser b) (Idle cause) h = record { table = h.seat.table; seat = h.seat.seat; plan = h.seat.plan }
turn_same w (Releaser a) (Releaser b) Finished h = same_releaser a.seat b.seat (ap (λ (x : ReleaserParty). x.seat) h)
turn_same w (Releaser a) (Task b) t h = elim h [ ]
turn_same w (Task a) (Task b) Stepped h = record { table = h.seat.table; seat = h.seat.seat; plan = h.seat.plan; task = h.seat.task }
turn_same w (Task a) (Task b) (Idle cause) h = record { table = h.seat.table; seat = h.seat.seat; plan = h.seat.plan; task = h.seat.task }
turn_same w (Task a) (Task b) Finished h = same_task a.seat b.seat (ap (λ (x : TaskParty). x.seat) h)
turn_same w (Task a) (Releaser b) t h = elim h [ ]

-- ---- all parties

pub all_same : (ps : List Party) → AreSame ps ps
all_same ps k d few = same_party (get_or ps k d)

pub same_all_further : (ps qs rs : List Party) → length qs ≡ length ps → AreSame ps qs → AreSame qs rs → AreSame ps rs
same_all_further ps qs rs size x y k d few = same_further (get_or ps k d) (get_or qs k d) (get_or rs k d) (x k d few) (y k d (omega (arith, size, few)))

pub all_belong : (w : SlotWords) (ps qs : List Party) → length qs ≡ length ps → All (Belongs w) ps → AreSame ps qs → All (Belongs w) qs
all_belong w ps qs size here same k d few =
    let before : k < length ps = omega (arith, size, few) in
    still_belongs w (get_or ps k d) (get_or qs k d) (here k d before) (same k d before)

-- one of them was written over by a party of its seat
pub set_same : (ps qs : List Party) (n : ℕ) (p q : Party) → AreSame ps qs → length qs ≡ length ps → n < length qs → p ≡ get_or qs n p → IsSameParty p q → AreSame ps (set qs n q)
set_same ps qs n p q same size inside read kept k d few = elim (cases_eq k n) [
  | inl here ↦
      let was : get_or qs k d ≡ p = ap (λ (j : ℕ). get_or qs j d) here ∙ get_or_default qs n d p inside ∙ sym read in
      let before : IsSameParty (get_or ps k d) p = subst (IsSameParty (get_or ps k d)) was (same k d few) in
      subst (IsSameParty (get_or ps k d)) (sym (get_or-set_at qs n k q d here inside)) (same_further (get_or ps k d) p q before kept)
  | inr apart ↦ subst (IsSameParty (get_or ps k d)) (sym (get_or-set_other qs n k q d apart)) (same k d few)
]

-- ---- of a table

place_stays : (w : SlotWords) (k : ℕ) (p q : Party) → IsPartyAt w k p → IsSameParty p q → IsPartyAt w k q
place_stays w zero (Releaser a) (Releaser b) there same = (same.table ∙ there.0, same.plan ∙ there.1)
place_stays w zero (Releaser a) (Task b) there same = elim same [ ]
place_stays w zero (Task a) q there same = elim there [ ]
place_stays w (suc i) (Releaser a) q there same = elim there [ ]
place_stays w (suc i) (Task a) (Task b) there same = ((same.table ∙ there.0.0, same.plan ∙ there.0.1), same.task ∙ there.1)
place_stays w (suc i) (Task a) (Releaser b) there same = elim same [ ]

pub places_stay : (w : SlotWords) (ps qs : List Party) → length qs ≡ length ps → AreSame ps qs → AreParties w ps → AreParties w qs
places_stay w ps qs size same there = record {
  size = size ∙ there.size;
  each = λ k q now.
      let few : k < length ps = omega (arith, size, slice_get_within qs k q now) in
      let is : get_or qs k q ≡ q = get_or_from_slice_get qs k q q now in
      subst (IsPartyAt w k) is (place_stays w k (get_or ps k q) (get_or qs k q) (there.each k (get_or ps k q) (slice_get-get_or ps k q few)) (same k q few));
}

pub all_there_belong : (w : SlotWords) (ps : List Party) → AreParties w ps → All (Belongs w) ps
all_there_belong w ps there k d few = belongs w k (get_or ps k d) (there.each k (get_or ps k d) (slice_get-get_or ps k d few))

pub same_parties : (ps qs : List Party) → length qs ≡ length ps → AreSame ps qs → AreSameParties ps qs
same_parties ps qs size same = record {
  size = size;
  each = λ k p q at now.
      subst (λ (x : Party × Party). IsSameParty x.0 x.1) (λ j. (get_or_from_slice_get ps k p p at j, get_or_from_slice_get qs k q p now j)) (same k p (slice_get_within ps k p at));
}
