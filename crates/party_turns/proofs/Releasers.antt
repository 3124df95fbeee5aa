-- The releaser's book at the terms of its seat's words.
use Rattle.std.proofs.Common.{◌≡◌, ◌≢◌, ◌↔◌, ℕ, ◌<◌, Bool, true, false, length, nat_lt, Some, None, refl, sym, ◌∙◌, ap, subst, arith}
use Rattle.dbp_plan.specs.declared.plan.Plan.{Plan}
use Rattle.dbp_rules.specs.PartyRules.{releaser_refusal}
use Rattle.dbp_rules.specs.Lookups.{entry_in}
use Rattle.dbp_rules.specs.Rules.{IsNamed}
use Rattle.dbp_rules.specs.Wired.{wiring_of}
use Rattle.dbp_rules.specs.declared.parts.ReleaserPart.{ReleaserPart}
use Rattle.dbp_rules.specs.declared.step.Count.TheVariants.{All}
use Rattle.dbp_rules.specs.declared.step.Step.{Step}
use Rattle.dbp_rules.specs.declared.step.Step.TheVariants as step
use Rattle.dbp_rules.specs.declared.wiring.Wiring.{Wiring}
use Rattle.dbp_rules.proofs.WiringParts.{wired_tasks}
use Rattle.dbp_rules.proofs.Wirings.{wiring-whole}
use Rattle.release_book.specs.Books.{IsBookOf, part_in}
use Rattle.release_book.specs.NextStep.{IsNextStep, MayHear, part_after, step_of}
use Rattle.release_book.specs.declared.book.Book.{Book}
use Rattle.release_book.specs.declared.release_step.ReleaseStep.{ReleaseStep}
use Rattle.release_book.specs.declared.release_step.ReleaseStep.TheVariants as release
use Rattle.release_book.proofs.NextSteps.{one_next}
use Rattle.word_rule.specs.Roles.{run_wiring}
use Rattle.word_rule.specs.Seats.{ReleaserSits, ReleaserSteps}
use Rattle.word_rule.specs.declared.seats.ReleaserSeat.{ReleaserSeat}
use Rattle.word_rule.specs.declared.seats.SlotWords.{SlotWords}
use Rattle.word_rule.proofs.SeatSteps.{wiring_is}
use Rattle.party_turns.specs.Booked.{IsBooked}
use Rattle.party_turns.specs.Turns.{ReleaserHasFinished, idle_if, releaser_answer}
use Rattle.party_turns.specs.declared.releaser_party.ReleaserParty.{ReleaserParty}
use Rattle.party_turns.specs.declared.turn.Turn.{Turn}
use Rattle.party_turns.specs.declared.turn.Turn.TheVariants.{Finished}

-- a task that its step sees has an entry in the seat's part
pub seen_inside : (w : SlotWords) (s : ReleaserSeat) (e : ReleaseStep) → ReleaserSits w s → ((a : Step) → step_of e ≡ Some a → IsNamed w.plan.diagram a) → (i : ℕ) → e ≡ release.Seen i → i < length s.part.tasks
seen_inside w s e here named i is =
    let below : i < length w.plan.diagram.tasks = named (step.Seen i) (ap step_of is) in
    omega (arith, s.same.shape.entries, wired_tasks s.seat.me.0.plan All, ap (λ (p : Plan). length p.diagram.tasks) here.1)

-- the seat's part has one next step
one_step : (w : SlotWords) (s : ReleaserSeat) (e f : ReleaseStep) → ReleaserSits w s → IsNextStep w.wiring s.part e → IsNextStep w.wiring s.part f → e ≡ f
one_step w s e f here next also =
    let p : Plan = s.seat.me.0.plan in
    let own : (g : ReleaseStep) → IsNextStep w.wiring s.part g → IsNextStep (run_wiring s.seat.me.0.plan) s.part g = λ g h. subst (λ (x : Wiring). IsNextStep x s.part g) (sym (wiring_is w s.seat.me here.1)) h in
    one_next s.seat.me.0.plan (run_wiring s.seat.me.0.plan) (wiring-whole s.seat.me.0.plan All) s.part s.same.shape e f (own e next) (own f also)

no_end_if : (b : Bool) → idle_if b ≢ Finished
no_end_if true = λ is. cc (is)
no_end_if false = λ is. cc (is)

no_end : (r : ReleaserPart) (e : ReleaseStep) → releaser_answer r e ≢ Finished
no_end r (release.Seen i) = no_end_if (nat_lt (entry_in r i).known (entry_in r i).aimed)
no_end r (release.Aim i slot) = λ is. cc (is)
no_end r (release.Claim k) = λ is. cc (is)
no_end r (release.OpenGate i) = λ is. cc (is)
no_end r release.Finished = λ is. cc (is)

-- a party whose book has a next step hasn't finished, and its turn doesn't say so
pub unfinished : (w : SlotWords) (s : ReleaserParty) (e : ReleaseStep) (r : ReleaserPart) (turn : Turn) → ReleaserSits w s.seat → IsNextStep w.wiring s.seat.part e → e ≢ release.Finished → turn ≡ releaser_answer r e → (turn ≡ Finished) ↔ ReleaserHasFinished w s
unfinished w s e r turn here next other answer = (λ is. absurd (no_end r e (sym answer ∙ is)), λ done. absurd (other (one_step w s.seat e release.Finished here next done)))

-- at the plan that the words lend
module _ (w : SlotWords) (s : ReleaserParty) (here : ReleaserSits w s.seat) (lent : Plan) (same : lent ≡ w.plan) where
  -- the book is that plan's
  pub is_book : IsBookOf s.book lent
  is_book = subst (λ (p : Plan). IsBookOf s.book p) (here.1 ∙ sym same) s.booked.book

  wiring_here : wiring_of lent All ≡ w.wiring
  wiring_here = ap (λ (p : Plan). wiring_of p All) same ∙ sym w.wired

  -- the wiring and the part are those of the words and the seat
  book_terms : (P : Wiring → ReleaserPart → Type 0) → P (wiring_of lent All) (part_in s.book) → P w.wiring s.seat.part
  book_terms P has = subst (λ (x : Wiring × ReleaserPart). P x.0 x.1) (λ j. (wiring_here j, s.booked.part j)) has

  pub next_here : (e : ReleaseStep) → IsNextStep (wiring_of lent All) (part_in s.book) e → IsNextStep w.wiring s.seat.part e
  next_here e = book_terms (λ x r. IsNextStep x r e)

  pub allowed_here : (e : ReleaseStep) → ((a : Step) → step_of e ≡ Some a → releaser_refusal (wiring_of lent All) (part_in s.book) a ≡ None) → (a : Step) → step_of e ≡ Some a → releaser_refusal w.wiring s.seat.part a ≡ None
  allowed_here e free a is = book_terms (λ x r. releaser_refusal x r a ≡ None) (free a is)

  pub named_here : (e : ReleaseStep) → ((a : Step) → step_of e ≡ Some a → IsNamed lent.diagram a) → (a : Step) → step_of e ≡ Some a → IsNamed w.plan.diagram a
  named_here e named a is = subst (λ (p : Plan). IsNamed p.diagram a) same (named a is)

  -- what the seat may hear, the book may
  pub may_here : (e : ReleaseStep) (heard : ℕ) → MayHear s.seat.part e heard → MayHear (part_in s.book) e heard
  may_here e heard may = subst (λ (r : ReleaserPart). MayHear r e heard) (sym s.booked.part) may

  -- afterwards both have the same part
  pub still_booked : (e : ReleaseStep) (heard : ℕ) (seat : ReleaserSeat) (book : Book) → ReleaserSteps s.seat seat → seat.part ≡ part_after w.wiring s.seat.part e heard
      → IsBookOf book lent → part_in book ≡ part_after (wiring_of lent All) (part_in s.book) e heard → IsBooked seat book
  still_booked e heard seat book steps part own made = record {
    book = subst (λ (p : Plan). IsBookOf book p) (same ∙ sym (steps.plan ∙ here.1)) own;
    part = made ∙ book_terms (λ x r. part_after (wiring_of lent All) (part_in s.book) e heard ≡ part_after x r e heard) refl ∙ sym part;
  }
