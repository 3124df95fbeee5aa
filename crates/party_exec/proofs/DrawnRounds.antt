-- The rounds that a crew of drawn turns makes.
use Rattle.std.proofs.Common.{◌≡◌, ℕ, suc, ◌+◌, ◌-◌, ◌<◌, ◌≤◌, true, false, List, length, get_or, set, refl, sym, ◌∙◌, ap, subst, arith, length-set}
use Rattle.std.specs.Prelude.{nat_lt}
use Rattle.std.proofs.lemmas.Bool.Decides.{nat_tests}
use Rattle.std.proofs.lemmas.Grind.{get_or-set_at}
use Rattle.std.proofs.lemmas.List.{get_or-set_other, get_or_default}
use mathlib.Core.Logic.{dite}
use native.Mathlib.Decide.{dec_lt, ℕ_discrete}
use Rattle.drawn_numbers.specs.Draws.{after_draw, after_draws}
use Rattle.drawn_numbers.proofs.DrawLaws.{draws-add}
use Rattle.word_rule.specs.declared.seats.SlotWords.{SlotWords}
use Rattle.party_turns.specs.SameSeats.{AreSame, IsSameParty}
use Rattle.party_turns.specs.declared.party.Party.{Party}
use Rattle.party_turns.proofs.SameParties.{all_same, same_all_further, same_party}
use Rattle.party_exec.specs.Draws.{HaveDrawnRounds, IsDrawnRound, MakesDrawnTurns, MakeTurnsBetween, after_round, first_place, no_round, one_round, turns_before}
use Rattle.party_exec.proofs.SameJobs.{turned_same}

-- ---- draws

-- the draws of a round: its first one, those of the places from the first one on, and those of the places before it
pub round_draws : (count first draws : ℕ) → first < count → after_draws (first - 0) (after_draws (count - first) (after_draw draws)) ≡ after_round count draws
round_draws count first draws few =
    let all : 1 + (count - first) + (first - 0) ≡ count + 1 = omega (arith, few) in
    ap (after_draws (first - 0)) (draws-add (count - first) 1 draws) ∙ draws-add (first - 0) (1 + (count - first)) draws ∙ ap (λ (k : ℕ). after_draws k draws) all

pub one_draw : (from place draws now : ℕ) → from ≤ place → now ≡ after_draws (place - from) draws → after_draw now ≡ after_draws (place + 1 - from) draws
one_draw from place draws now low is =
    let next : place + 1 - from ≡ suc (place - from) = omega (arith, low) in
    ap after_draw is ∙ ap (λ (k : ℕ). after_draws k draws) (sym next)

-- ---- the turns of some places

pub none_turned : (w : SlotWords) (from draws : ℕ) (ps : List Party) → MakeTurnsBetween w from from draws ps ps
none_turned w from draws ps = record { size = refl; turns = λ k d low high. absurd (omega (arith, low, high)); earlier = λ k d few. refl; later = λ k d high. refl }

module _ (w : SlotWords) (from place draws : ℕ) (ps now : List Party) (old new : Party) (low : from ≤ place) (inside : place < length now) (read : old ≡ get_or now place old) where
  pub one_turned : MakeTurnsBetween w from place draws ps now → MakesDrawnTurns w (place - from) draws old new → MakeTurnsBetween w from (place + 1) draws ps (set now place new)
  one_turned h made = record {
    size = length-set now place new ∙ h.size;
    turns = λ k d least most. dite (ℕ_discrete k place)
        (λ here.
        let was : get_or now k d ≡ old = ap (λ (j : ℕ). get_or now j d) here ∙ get_or_default now place d old inside ∙ sym read in
        let before : get_or ps k d ≡ old = sym (h.later k d (omega (arith, here))) ∙ was in
        let after : get_or (set now place new) k d ≡ new = get_or-set_at now place k new d here inside in
        subst (λ (x : ℕ × Party × Party). MakesDrawnTurns w (x.0 - from) draws x.1 x.2) (λ j. (sym here j, sym before j, sym after j)) made)
        (λ apart. subst (MakesDrawnTurns w (k - from) draws (get_or ps k d)) (sym (get_or-set_other now place k new d apart)) (h.turns k d least (omega (arith, most, apart))));
    earlier = λ k d few. get_or-set_other now place k new d (λ here. absurd (omega (arith, few, low, here))) ∙ h.earlier k d few;
    later = λ k d high. get_or-set_other now place k new d (λ here. absurd (omega (arith, high, here))) ∙ h.later k d (omega (arith, high));
  }

-- a party that makes no turns is the same, and so is one that makes some
pub between_same : (w : SlotWords) (from to draws : ℕ) (ps qs : List Party) → MakeTurnsBetween w from to draws ps qs → AreSame ps qs
between_same w from to draws ps qs h k d few = dite (dec_lt k from)
    (λ less. subst (IsSameParty (get_or ps k d)) (sym (h.earlier k d less)) (same_party (get_or ps k d)))
    (λ more. dite (dec_lt k to)
    (λ less. turned_same w (get_or ps k d) _ (get_or qs k d) (h.turns k d (omega (arith, more)) less))
    (λ past. subst (IsSameParty (get_or ps k d)) (sym (h.later k d (omega (arith, past)))) (same_party (get_or ps k d))))

-- ---- a round

lt_below : (k n : ℕ) → k < n → nat_lt k n ≡ true
lt_below k n less = grind (arith, nat_tests)

lt_not : (k n : ℕ) → n ≤ k → nat_lt k n ≡ false
lt_not k n more = grind (arith, nat_tests)

module _ (w : SlotWords) (draws count first : ℕ) (ps qs rs : List Party) (head : MakeTurnsBetween w first count (after_draw draws) ps qs)
    (rest : MakeTurnsBetween w 0 first (after_draws (count - first) (after_draw draws)) qs rs) where
  turns_from : (k : ℕ) (d : Party) → k < count → first ≤ k → MakesDrawnTurns w (1 + turns_before count first k) draws (get_or ps k d) (get_or rs k d)
  turns_from k d few high =
      let place : turns_before count first k ≡ k - first = rw (lt_not k first high) refl in
      let words : after_draws (k - first) (after_draw draws) ≡ after_draws (1 + turns_before count first k) draws = draws-add (k - first) 1 draws ∙ ap (λ (n : ℕ). after_draws (1 + n) draws) (sym place) in
      subst (λ (x : ℕ × Party). MakesDrawnTurns w 0 x.0 (get_or ps k d) x.1) (λ j. (words j, sym (rest.later k d high) j)) (head.turns k d high few)

  turns_to : (k : ℕ) (d : Party) → k < first → first < count → MakesDrawnTurns w (1 + turns_before count first k) draws (get_or ps k d) (get_or rs k d)
  turns_to k d few inside =
      let place : 1 + turns_before count first k ≡ 1 + (count - first) + (k - 0) = rw (lt_below k first few) (omega arith) in
      let words : after_draws (k - 0) (after_draws (count - first) (after_draw draws)) ≡ after_draws (1 + turns_before count first k) draws =
      ap (after_draws (k - 0)) (draws-add (count - first) 1 draws) ∙ draws-add (k - 0) (1 + (count - first)) draws ∙ ap (λ (n : ℕ). after_draws n draws) (sym place) in
      subst (λ (x : ℕ × Party). MakesDrawnTurns w 0 x.0 x.1 (get_or rs k d)) (λ j. (words j, head.earlier k d few j)) (rest.turns k d (omega arith) few)

  pub drawn_round_is : count ≡ length ps → first ≡ first_place count draws → first < count → IsDrawnRound w draws ps rs
  drawn_round_is size begins inside = record {
    size = rest.size ∙ head.size;
    turns = λ k d few. subst (λ (x : ℕ × ℕ). MakesDrawnTurns w (1 + turns_before x.0 x.1 k) draws (get_or ps k d) (get_or rs k d)) (λ j. (size j, (begins ∙ ap (λ (n : ℕ). first_place n draws) size) j))
        (dite (dec_lt k first)
        (λ less. turns_to k d less inside)
        (λ more. turns_from k d (omega (arith, size, few)) (omega (arith, more))));
  }

-- ---- rounds

round_same : (w : SlotWords) (draws : ℕ) (ps qs : List Party) → IsDrawnRound w draws ps qs → AreSame ps qs
round_same w draws ps qs h k d few = turned_same w (get_or ps k d) _ (get_or qs k d) (h.turns k d few)

pub rounds_size : (w : SlotWords) (draws : ℕ) (ps : List Party) (now : ℕ) (qs : List Party) → HaveDrawnRounds w draws ps now qs → length qs ≡ length ps
rounds_size w draws ps now qs no_round = refl
rounds_size w draws ps now rs (one_round was qs last before more round) = round.size ∙ rounds_size w draws ps was qs before

pub rounds_same : (w : SlotWords) (draws : ℕ) (ps : List Party) (now : ℕ) (qs : List Party) → HaveDrawnRounds w draws ps now qs → AreSame ps qs
rounds_same w draws ps now qs no_round = all_same ps
rounds_same w draws ps now rs (one_round was qs last before more round) =
    same_all_further ps qs rs (rounds_size w draws ps was qs before) (rounds_same w draws ps was qs before) (round_same w was qs rs round)
