-- No step changes a slot that a claim of an instance which hasn't ended names, except if the claimed instance fills it.
-- And under `All` no aim names a slot that a standing claim names.
use Rattle.std.proofs.Common.{◌≡◌, ℕ, ℤ, pos, ◌+◌, ◌<◌, ◌⊎◌, true, List, length, get_or, set, Some, None, refl, sym, ◌∙◌, ap, arith, inl, inr, get_or-set_other}
use Rattle.std.proofs.lemmas.Bool.{cases_eq, eq-eqb, lt-ltb}
use Rattle.dbp_plan.specs.declared.plan.Plan.{Plan}
use Rattle.dbp_plan.specs.Lookups.{declared_task}
use Rattle.dbp_rules.specs.Moves as move
use Rattle.dbp_rules.specs.Lookups.{counts_link, is_counted, link, link_entry, no_slot, slot_at, task, task_entry, wired_task}
use Rattle.dbp_rules.specs.Promises.{IsFilledByItsOwn, IsUnclaimed, SparesClaims, filled_of}
use Rattle.dbp_rules.specs.Rules as rule
use Rattle.dbp_rules.specs.Shapes.{heard_by, place_number, running_count}
use Rattle.dbp_rules.specs.Sound.{Sound}
use Rattle.dbp_rules.specs.TenParts.{IsStanding, slot_of_claim}
use Rattle.dbp_rules.specs.declared.parts.Place.TheVariants as place
use Rattle.dbp_rules.specs.declared.state.Slot.{Slot}
use Rattle.dbp_rules.specs.declared.state.State.{State}
use Rattle.dbp_rules.specs.declared.state.TaskState.{TaskState}
use Rattle.dbp_rules.specs.declared.step.Broken.TheVariants as broken
use Rattle.dbp_rules.specs.declared.step.Count.{Count}
use Rattle.dbp_rules.specs.declared.step.Count.TheVariants.{All}
use Rattle.dbp_rules.specs.declared.step.Step.{Step}
use Rattle.dbp_rules.specs.declared.step.Step.TheVariants.{Seen, Aim, Claim, OpenGate, Start, Hear, Look, Take, Shut, Put, Done, End}
use Rattle.dbp_rules.specs.declared.wiring.Wiring.{Wiring}
use Rattle.dbp_rules.proofs.Aims.{aim_allowed}
use Rattle.dbp_rules.proofs.Allowed.{at_next, or_else_none, place_of}
use Rattle.dbp_rules.proofs.SoundAnswers.{claimed_apart}
use Rattle.dbp_rules.proofs.SoundLooks.{passed_below}
use Rattle.dbp_rules.proofs.SoundOwn.{IsOwn}
use Rattle.dbp_rules.proofs.StoredWords.{of_each}

module _ (p : Plan) (w : Wiring) (rows : ℕ → ℕ → List ℤ) (s : State) (own : IsOwn p w) (sound : Sound p w rows s) where
  there : (i : ℕ) → i < length p.diagram.tasks → i < length s.tasks
  there i named = omega (arith, named, own.whole.tasks, sound.shape.tasks)

  -- a claim of an instance that hasn't ended stands
  standing : (k : ℕ) → k < length w.links → (task s (link w k).reader).words.ended < (link_entry s k).instance → IsStanding w s k
  standing k fits live = passed_below (is_counted w k) (task_entry s (link w k).reader).known (task s (link w k).reader).words.ended (link_entry s k).instance (sound.tasks (link w k).reader (own.whole.reader k fits)).known live

  -- a task whose slots stay
  slots_stay : (i k : ℕ) (t : TaskState) → i < length p.diagram.tasks → t.words.slots ≡ (task s i).words.slots
      → slot_at (task (rule.with_task s i t) (link w k).writer).words.slots (link_entry s k).slot ≡ slot_of_claim w s k
  slots_stay i k t named same = of_each (λ x. slot_at x.words.slots (link_entry s k).slot) s i (link w k).writer t (there i named) (λ _. ap (λ (xs : List Slot). slot_at xs (link_entry s k).slot) same)

  -- a step that replaces the task's own slot
  fills : (i kind operand : ℕ) (e : Step) (t : TaskState) (x : Slot) → i < length p.diagram.tasks → rule.or_else (rule.steps_next w s i kind operand) (rule.blocker_refusal w.count w s i) ≡ None
      → ((n : ℕ) → running_count (place_of kind n) ≡ 1) → ((n : ℕ) → heard_by (1 + length (wired_task w i).links) (place_of kind n) ≡ 1 + length (wired_task w i).links)
      → filled_of e ≡ Some i → t.words.slots ≡ set (task s i).words.slots (move.own_slot (task s i).part) x
      → (k : ℕ) → k < length w.links → (task s (link w k).reader).words.ended < (link_entry s k).instance
      → (slot_at (task (rule.with_task s i t) (link w k).writer).words.slots (link_entry s k).slot ≡ slot_of_claim w s k) ⊎ IsFilledByItsOwn w s e k
  fills i kind operand e t x named free runs all is slots k fits live =
      let both = or_else_none (rule.steps_next w s i kind operand) (rule.blocker_refusal w.count w s i) free in
      let at : (task s i).part.place ≡ place_of kind (place_number (task s i).part.place) = at_next broken.TaskPlace (wired_task w i) (task s i).part.place kind operand both.0 in
      let busy : running_count (task s i).part.place ≡ 1 = ap running_count at ∙ runs (place_number (task s i).part.place) in
      let heard : heard_by (1 + length (wired_task w i).links) (task s i).part.place ≡ 1 + length (wired_task w i).links = ap (heard_by (1 + length (wired_task w i).links)) at ∙ all (place_number (task s i).part.place) in
      let moved : (link w k).writer ≡ i → (link_entry s k).slot ≡ move.own_slot (task s i).part → IsFilledByItsOwn w s e k =
      λ out slot. record {
        writer = is ∙ ap Some (sym out);
        slot = slot ∙ ap (λ (n : ℕ). move.own_slot (task s n).part) (sym out);
        number = claimed_apart p w rows s own sound i k fits out busy heard both.1 (standing k fits live) slot ∙ ap (λ (n : ℕ). (task s n).part.ended + 1) (sym out);
      } in
      elim (cases_eq (link_entry s k).slot (move.own_slot (task s i).part)) [
        | inl slot ↦ elim (cases_eq (link w k).writer i) [
          | inl out ↦ inr (moved out slot)
          | inr other ↦ inl (of_each (λ u. slot_at u.words.slots (link_entry s k).slot) s i (link w k).writer t (there i named) (λ same. absurd (other (sym same))))
        ]
        | inr apart ↦ inl (of_each (λ u. slot_at u.words.slots (link_entry s k).slot) s i (link w k).writer t (there i named)
            (λ _. ap (λ (xs : List Slot). slot_at xs (link_entry s k).slot) slots ∙ get_or-set_other (task s i).words.slots (move.own_slot (task s i).part) (link_entry s k).slot x no_slot apart))
      ]

  pub spared : (e : Step) → rule.IsNamed p.diagram e → rule.refusal w s e ≡ None → SparesClaims p w s e
  spared (Seen i) named free k fits live = inl refl
  spared (Aim i slot) named free k fits live = inl (slots_stay i k (record (task s i) { words = move.words_after_aim (task s i).words (move.after_aim (task_entry s i) slot) }) named refl)
  spared (Claim j) named free k fits live = inl refl
  spared (OpenGate i) named free k fits live = inl (slots_stay i k (record (task s i) { words = move.words_after_open (task s i).words (task_entry s i).aimed }) named refl)
  spared (Start i) named free k fits live = inl (slots_stay i k (record (task s i) { part = move.after_start (task s i).part (rule.is_open s i) }) named refl)
  spared (Hear i) named free k fits live = inl (slots_stay i k (record (task s i) { part = move.after_hear (wired_task w i) (task s i).part (rule.hears_at (task s i).part.place) (rule.order_word w s i (rule.hears_at (task s i).part.place)) }) named refl)
  spared (Look i r) named free k fits live = inl (slots_stay i k (record (task s i) { part = move.after_look (task s i).part (rule.turn_at (task s i).part.place) (rule.is_ready w s i (rule.turn_at (task s i).part.place)) }) named refl)
  spared (Take i r) named free k fits live =
      inl (slots_stay i k (record { words = (task s i).words; part = move.after_take (wired_task w i) (task s i).part (rule.turn_at (task s i).part.place); work = move.with_read (declared_task p i) (task s i).work r (rule.read_value w s i (rule.turn_at (task s i).part.place)) }) named refl)
  spared (Shut i) named free k fits live =
      fills i 9 0 (Shut i) (record { words = move.with_stamp (task s i).words (move.own_slot (task s i).part) 0; part = move.at_place (task s i).part (place.Put 0); work = move.after_compute (declared_task p i) (rule.sense_values p w s i) (task s i).work })
      (record (slot_at (task s i).words.slots (move.own_slot (task s i).part)) { stamp = 0 }) named free (λ n. refl) (λ n. refl) refl refl k fits live
  spared (Put i port) named free k fits live =
      fills i 10 port (Put i port) (record { words = move.with_word (task s i).words (move.own_slot (task s i).part) port (get_or (task s i).work.row port (pos 0)); part = move.at_place (task s i).part (move.put_place (wired_task w i).ports (port + 1)); work = (task s i).work })
      (record (slot_at (task s i).words.slots (move.own_slot (task s i).part)) { words = set (slot_at (task s i).words.slots (move.own_slot (task s i).part)).words port (get_or (task s i).work.row port (pos 0)) }) named free (λ n. refl) (λ n. refl) refl refl k fits live
  spared (Done i) named free k fits live =
      fills i 11 0 (Done i) (record { words = move.with_stamp (task s i).words (move.own_slot (task s i).part) ((task s i).part.ended + 2); part = move.at_place (task s i).part place.End; work = (task s i).work })
      (record (slot_at (task s i).words.slots (move.own_slot (task s i).part)) { stamp = (task s i).part.ended + 2 }) named free (λ n. refl) (λ n. refl) refl refl k fits live
  spared (End i) named free k fits live = inl (slots_stay i k (record { words = move.with_ended (task s i).words ((task s i).part.ended + 1); part = move.after_end (task s i).part; work = move.after_advance (task s i).work }) named refl)

-- ---- aims

all_counted : (c : Count) (writer reader : ℕ) → c ≡ All → counts_link c writer reader ≡ true
all_counted c writer reader is = rw is refl

pub aims_apart : (w : Wiring) (s : State) (i slot : ℕ) → rule.refusal w s (Aim i slot) ≡ None → w.count ≡ All → IsUnclaimed w s i slot
aims_apart w s i slot free all k fits out stands same =
    let counted : is_counted w k ≡ true = all_counted w.count (wired_task w (link w k).writer).rank (wired_task w (link w k).reader).rank all in
    let known : (task_entry s (link w k).reader).known < (link_entry s k).instance = rw counted at stands in
    let is : rule.claims_slot w s i slot k ≡ true = rw (eq-eqb (link w k).writer i out, counted, lt-ltb (task_entry s (link w k).reader).known (link_entry s k).instance known, eq-eqb (link_entry s k).slot slot same) refl in
    absurd (cc (is, (aim_allowed w s.releaser i slot free).unclaimed k fits))
