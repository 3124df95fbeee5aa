-- The marks that lists of slots leave.
use Rattle.std.proofs.Common.{◌≡◌, ℕ, zero, suc, ◌+◌, ◌<◌, ◌≤◌, ◌⊎◌, inl, inr, Bool, true, false, Contains, List, [], ◌∷◌, length, get_or, replicate, set, refl, ap, ◌∙◌, arith}
use Rattle.std.specs.List.{prefix_len}
use Rattle.std.proofs.lemmas.Bool.{cases_lt}
use Rattle.std.proofs.lemmas.List.{get_or-set_same, length-replicate, length-set}
use Rattle.std.proofs.lemmas.List.Sums.{prefix_len_passes, prefix_len_stops}
use Rattle.dbp_slots.specs.FreeSlot.{IsLeastFree}
use Rattle.dbp_slots.specs.Marks.{marks_after}
use Rattle.dbp_slots.proofs.FreeSlots.{one_free}

abbrev IsMarked : List Bool → ℕ → Type 0
IsMarked marks slot = get_or marks slot false ≡ true

-- one mark more

still_marked : (marks : List Bool) (slot s : ℕ) → IsMarked marks s → IsMarked (set marks slot true) s
still_marked [] slot s is = is
still_marked (m ∷ marks) zero zero is = refl
still_marked (m ∷ marks) zero (suc s) is = is
still_marked (m ∷ marks) (suc slot) zero is = is
still_marked (m ∷ marks) (suc slot) (suc s) is = still_marked marks slot s is

newly_marked : (marks : List Bool) (slot s : ℕ) → IsMarked (set marks slot true) s → IsMarked marks s ⊎ (slot ≡ s)
newly_marked [] slot s is = inl is
newly_marked (m ∷ marks) zero zero is = inr refl
newly_marked (m ∷ marks) zero (suc s) is = inl is
newly_marked (m ∷ marks) (suc slot) zero is = inl is
newly_marked (m ∷ marks) (suc slot) (suc s) is = elim (newly_marked marks slot s is) [ inl old ↦ inl old | inr same ↦ inr (ap suc same) ]

none_marked : (count s : ℕ) → IsMarked (replicate count false) s → ⊥
none_marked zero s is = cc
none_marked (suc count) zero is = cc
none_marked (suc count) (suc s) is = none_marked count s is

-- those of a list

length-marks_after : (marks : List Bool) (slots : List ℕ) → length (marks_after marks slots) ≡ length marks
length-marks_after marks [] = refl
length-marks_after marks (slot ∷ slots) = length-marks_after (set marks slot true) slots ∙ length-set marks slot true

marks_stay : (marks : List Bool) (slots : List ℕ) (s : ℕ) → IsMarked marks s → IsMarked (marks_after marks slots) s
marks_stay marks [] s is = is
marks_stay marks (slot ∷ slots) s is = marks_stay (set marks slot true) slots s (still_marked marks slot s is)

listed_at : (marks : List Bool) (slots : List ℕ) (s k : ℕ) → s < length marks → k < length slots → get_or slots k s ≡ s → IsMarked (marks_after marks slots) s
listed_at marks [] s k within below is = absurd (omega arith)
listed_at marks (slot ∷ slots) s zero within below is =
    let own : IsMarked (set marks slot true) s = rw is (get_or-set_same marks s true false within) in
    marks_stay (set marks slot true) slots s own
listed_at marks (slot ∷ slots) s (suc k) within below is = listed_at (set marks slot true) slots s k (omega (arith, length-set marks slot true)) (omega arith) is

listed : (marks : List Bool) (slots : List ℕ) (s : ℕ) → s < length marks → Contains slots s → IsMarked (marks_after marks slots) s
listed marks slots s within among = listed_at marks slots s among.0 within among.1 among.2

marked_by : (marks : List Bool) (slots : List ℕ) (s : ℕ) → IsMarked (marks_after marks slots) s → IsMarked marks s ⊎ Contains slots s
marked_by marks [] s is = inl is
marked_by marks (slot ∷ slots) s is =
    elim (marked_by (set marks slot true) slots s is) [
      | inl before ↦ elim (newly_marked marks slot s before) [ inl old ↦ inl old | inr same ↦ inr (0, omega arith, same) ]
      | inr later ↦ inr (suc later.0, omega arith, later.2)
    ]

-- the marks of two lists, made one after the other
module _ (claims kept : List ℕ) (count : ℕ) (marks once both : List Bool) (start : marks ≡ replicate count false) (with_claims : once ≡ marks_after marks claims) (with_kept : both ≡ marks_after once kept) where
  size_marks : length marks ≡ count
  size_marks = ap length start ∙ length-replicate count false

  size_once : length once ≡ count
  size_once = ap length with_claims ∙ length-marks_after marks claims ∙ size_marks

  size_both : length both ≡ count
  size_both = ap length with_kept ∙ length-marks_after once kept ∙ size_once

  claim_marked : (s : ℕ) → s < count → Contains claims s → IsMarked both s
  claim_marked s below among =
      let first : IsMarked once s = rw with_claims (listed marks claims s (omega (arith, size_marks)) among) in
      rw with_kept (marks_stay once kept s first)

  kept_marked : (s : ℕ) → s < count → Contains kept s → IsMarked both s
  kept_marked s below among = rw with_kept (listed once kept s (omega (arith, size_once)) among)

  listed_if_marked : (s : ℕ) → IsMarked both s → Contains claims s ⊎ Contains kept s
  listed_if_marked s is =
      elim (marked_by once kept s (rw with_kept at is)) [
        | inl first ↦ elim (marked_by marks claims s (rw with_claims at first)) [
          | inl none ↦ absurd (none_marked count s (rw start at none))
          | inr claimed ↦ inl claimed
        ]
        | inr keeps ↦ inr keeps
      ]

  first_is_least : (slots slot : ℕ) → length claims + length kept < slots → length claims + length kept < count
      → ((s : ℕ) → s < slot → IsMarked both s) → (slot < length both → get_or both slot false ≡ false) → IsLeastFree claims kept slots slot
  first_is_least slots slot few room before stops =
      let least : (s : ℕ) → s < slot → Contains claims s ⊎ Contains kept s = λ s below. listed_if_marked s (before s below) in
      let within : slot ≤ length claims + length kept = elim (cases_lt (length claims + length kept) slot) [
        | inl past ↦ absurd (one_free claims kept (length claims + length kept + 1) (omega arith) (λ s below. least s (omega arith)))
        | inr up ↦ up
      ] in
      let unmarked : get_or both slot false ≡ false = stops (omega (arith, size_both)) in
      record {
        below = omega arith;
        unclaimed = λ among. let marked : get_or both slot false ≡ true = claim_marked slot (omega arith) among in cc;
        unkept = λ among. let marked : get_or both slot false ≡ true = kept_marked slot (omega arith) among in cc;
        least = least;
      }

  -- the first slot without a mark is the least free one
  pub first_is_free : (slots : ℕ) → length claims + length kept < slots → length claims + length kept < count → IsLeastFree claims kept slots (prefix_len (λ is_marked. is_marked) both)
  first_is_free slots few room =
      first_is_least slots (prefix_len (λ (is_marked : Bool). is_marked) both) few room
      (λ s below. prefix_len_passes (λ (is_marked : Bool). is_marked) both s false below)
      (λ inside. prefix_len_stops (λ (is_marked : Bool). is_marked) both false inside)
