-- The kept slots of a task: as an aim leaves them, and in range.
use Rattle.std.proofs.Common.{◌≡◌, ℕ, zero, suc, ◌≤◌, get_or, ◌+◌, ◌-◌, ◌<◌, List, [], ◌∷◌, ◌++◌, length, take, drop, refl, ◌∙◌, ap, arith, add-one, length-drop}
use Rattle.std.specs.Prelude.{slice_set}
use Rattle.std.specs.List.{refill}
use Rattle.std.proofs.lemmas.List.{get_or-take, length-set}
use Rattle.sync_meaning.proofs.Sets.{refill_all}
use Rattle.dbp_rules.specs.Moves.{claimed_slot}
use Rattle.dbp_rules.specs.declared.parts.TaskEntry.{TaskEntry}

-- the last slot, turned to the front and written over
kept_first : (slots : List ℕ) (slot n : ℕ) → n + 1 ≡ length slots → slice_set (drop n slots ++ take n slots) 0 slot ≡ take (n + 1) (slot ∷ slots)
kept_first slots slot n size =
    let last : length (drop n slots) ≡ 1 = omega (arith, length-drop n slots) in
    one (drop n slots) (take n slots) last ∙ rw (add-one n) refl
  where
    one : (last front : List ℕ) → length last ≡ 1 → slice_set (last ++ front) 0 slot ≡ slot ∷ front
    one [] front size = absurd (omega arith)
    one (y ∷ []) front size = refl
    one (y ∷ z ∷ ys) front size = absurd (omega arith)

pub kept_slots : (slots turned : List ℕ) (slot : ℕ) → 0 < length slots → turned ≡ drop (length slots - 1) slots ++ take (length slots - 1) slots → length turned ≡ length slots
    → refill (length slots) slots (slice_set turned 0 slot) ≡ take (length slots) (slot ∷ slots)
kept_slots slots turned slot some is size =
    let one : length slots - 1 + 1 ≡ length slots = omega arith in
    refill_all slots (slice_set turned 0 slot) (length-set turned 0 slot ∙ size)
    ∙ ap (λ xs. slice_set xs 0 slot) is
    ∙ kept_first slots slot (length slots - 1) one
    ∙ ap (λ n. take n (slot ∷ slots)) one

-- the kept slots after an aim are in range
pub kept_on : (slots kept current j : ℕ) (ks : List ℕ) → length ks ≡ kept → current < slots → ((m : ℕ) → m < kept → get_or ks m 0 < slots) → j < kept → get_or (take (length ks) (current ∷ ks)) j 0 < slots
kept_on slots kept current zero ks size first each below = rw (get_or-take (length ks) (current ∷ ks) 0 0 (omega arith)) first
kept_on slots kept current (suc j) ks size first each below = rw (get_or-take (length ks) (current ∷ ks) (suc j) 0 (omega arith)) (each j (omega arith))

-- the slot of a claim is one of the writer's
pub claimed_fits : (slots kept delay : ℕ) (e : TaskEntry) → e.current < slots → ((m : ℕ) → m < kept → get_or e.kept m 0 < slots) → delay ≤ kept → claimed_slot delay e.current e.kept < slots
claimed_fits slots kept zero e current each few = current
claimed_fits slots kept (suc d) e current each few = each d (omega arith)
