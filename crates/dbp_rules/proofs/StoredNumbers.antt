-- The word that a step stores is one of the table's, and has the step's number afterwards, which is below 2^64.
use Rattle.std.proofs.Common.{◌≡◌, ℕ, ℤ, pos, ◌+◌, ◌<◌, ◌≤◌, ◌^◌, length, get_or, set, Some, None, refl, ◌∙◌, ap, subst, arith, get_or-set_same}
use Rattle.std.proofs.lemmas.Option.{same_Some}
use Rattle.dbp_plan.specs.declared.limits.TheConstants.{MAX_OCCURRENCES}
use Rattle.dbp_plan.specs.declared.plan.Plan.{Plan}
use Rattle.dbp_plan.specs.Lookups.{declared_task}
use Rattle.dbp_slots.specs.TableWords.{IsSlot, IsWord, TableWord, aim, claim, ended, gate, stamp, word}
use Rattle.dbp_rules.specs.LoadedWords.{sizes_of_wiring, stored_number}
use Rattle.dbp_rules.specs.Moves as move
use Rattle.dbp_rules.specs.Lookups.{link, no_order, no_slot, no_task, order, slot_at, task, task_entry, wired_task}
use Rattle.dbp_rules.specs.Rules as rule
use Rattle.dbp_rules.specs.Shapes.{IsShape, OrderFits, PlaceIn, TaskShape}
use Rattle.dbp_rules.specs.SharedWords.{order_value, signed_value, stored_by, value_in}
use Rattle.dbp_rules.specs.WordRanges.{PutWordFits}
use Rattle.dbp_rules.specs.declared.parts.LinkEntry.{LinkEntry}
use Rattle.dbp_rules.specs.declared.parts.Order.{Order}
use Rattle.dbp_rules.specs.declared.parts.Place.{Place}
use Rattle.dbp_rules.specs.declared.parts.Place.TheVariants as place
use Rattle.dbp_rules.specs.declared.state.Slot.{Slot}
use Rattle.dbp_rules.specs.declared.state.State.{State}
use Rattle.dbp_rules.specs.declared.state.TaskState.{TaskState}
use Rattle.dbp_rules.specs.declared.state.TaskWords.{TaskWords}
use Rattle.dbp_rules.specs.declared.step.Step.{Step}
use Rattle.dbp_rules.specs.declared.step.Step.TheVariants.{Seen, Aim, Claim, OpenGate, Start, Hear, Look, Take, Shut, Put, Done, End}
use Rattle.dbp_rules.specs.declared.wiring.Wiring.{Wiring}
use Rattle.dbp_rules.proofs.ShapeFacts.{aimed_few, own_fits}
use Rattle.dbp_rules.proofs.StateKept.{step_kept}
use Rattle.dbp_rules.proofs.StepPlaces.{at_done, at_put, at_shut}
use Rattle.dbp_rules.proofs.TableSizes.{is_slot, is_word, sizes_of_task, task_count}
use Rattle.dbp_rules.proofs.WordNumbers.{order_below, value_below}

-- the task that was replaced
task_there : (s : State) (i : ℕ) (t : TaskState) → i < length s.tasks → task (rule.with_task s i t) i ≡ t
task_there s i t inside = get_or-set_same s.tasks i t no_task inside

stamp_there : (t : TaskWords) (n x : ℕ) → n < length t.slots → (slot_at (move.with_stamp t n x).slots n).stamp ≡ x
stamp_there t n x inside = ap (λ (y : Slot). y.stamp) (get_or-set_same t.slots n (record (slot_at t.slots n) { stamp = x }) no_slot inside)

word_there : (t : TaskWords) (n port : ℕ) (x : ℤ) → n < length t.slots → port < length (slot_at t.slots n).words → get_or (slot_at (move.with_word t n port x).slots n).words port (pos 0) ≡ x
word_there t n port x inside below =
    ap (λ (y : Slot). get_or y.words port (pos 0)) (get_or-set_same t.slots n (record (slot_at t.slots n) { words = set (slot_at t.slots n).words port x }) no_slot inside)
    ∙ get_or-set_same (slot_at t.slots n).words port x (pos 0) below

module _ (p : Plan) (w : Wiring) (s : State) (shape : IsShape p w s) where
  there : (i : ℕ) → i < length p.diagram.tasks → i < length w.tasks
  there i named = omega (arith, named, shape.wiring.tasks)

  -- ---- the slot that a task fills

  shut_fits : (i : ℕ) → i < length w.tasks → rule.refusal w s (Shut i) ≡ None → move.own_slot (task s i).part < (wired_task w i).slots
  shut_fits i below free = own_fits p w s shape i place.Shut below (at_shut w s i free) refl

  put_fits : (i port : ℕ) → i < length w.tasks → rule.refusal w s (Put i port) ≡ None → move.own_slot (task s i).part < (wired_task w i).slots
  put_fits i port below free = own_fits p w s shape i (place.Put port) below (at_put w s i port free) refl

  done_fits : (i : ℕ) → i < length w.tasks → rule.refusal w s (Done i) ≡ None → move.own_slot (task s i).part < (wired_task w i).slots
  done_fits i below free = own_fits p w s shape i place.Done below (at_done w s i free) refl

  -- the port of a put is one of the task's
  put_port : (i port : ℕ) → i < length w.tasks → rule.refusal w s (Put i port) ≡ None → port < (wired_task w i).ports
  put_port i port below free = subst (λ (q : Place). PlaceIn (wired_task w i) q) (at_put w s i port free) (shape.each_task i below).place

  -- ---- the word is one of the table's

  own_word : (i : ℕ) → i < length w.tasks → move.own_slot (task s i).part < (wired_task w i).slots → IsSlot (sizes_of_wiring w) i (move.own_slot (task s i).part)
  own_word i below fits = is_slot w i (move.own_slot (task s i).part) below fits

  pub stored_inside : (e : Step) (q : TableWord) → rule.IsNamed p.diagram e → rule.refusal w s e ≡ None → stored_by s e ≡ Some q → IsWord (sizes_of_wiring w) q
  stored_inside (Seen i) q named free is = absurd (cc (is))
  stored_inside (Aim i slot) q named free is = is_word w (aim i) q is (omega (arith, there i named, task_count w))
  stored_inside (Claim k) q named free is = is_word w (claim k) q is (rw shape.wiring.links named)
  stored_inside (OpenGate i) q named free is = is_word w (gate i) q is (omega (arith, there i named, task_count w))
  stored_inside (Start i) q named free is = absurd (cc (is))
  stored_inside (Hear i) q named free is = absurd (cc (is))
  stored_inside (Look i r) q named free is = absurd (cc (is))
  stored_inside (Take i r) q named free is = absurd (cc (is))
  stored_inside (Shut i) q named free is = is_word w (stamp i (move.own_slot (task s i).part)) q is (own_word i (there i named) (shut_fits i (there i named) free))
  stored_inside (Put i port) q named free is =
      is_word w (word i (move.own_slot (task s i).part) port) q is (own_word i (there i named) (put_fits i port (there i named) free), rw (sizes_of_task w i) (put_port i port (there i named) free))
  stored_inside (Done i) q named free is = is_word w (stamp i (move.own_slot (task s i).part)) q is (own_word i (there i named) (done_fits i (there i named) free))
  stored_inside (End i) q named free is = is_word w (ended i) q is (omega (arith, there i named, task_count w))

  -- ---- its number

  inside : (i : ℕ) → i < length p.diagram.tasks → i < length s.tasks
  inside i named = omega (arith, named, shape.wiring.tasks, shape.tasks)

  slot_inside : (i : ℕ) → i < length p.diagram.tasks → move.own_slot (task s i).part < (wired_task w i).slots → move.own_slot (task s i).part < length (task s i).words.slots
  slot_inside i named fits = omega (arith, fits, (shape.each_task i (there i named)).slots.0)

  number_in : (new : State) (v q : TableWord) (x : ℕ) → Some v ≡ Some q → value_in new v ≡ x → value_in new q ≡ x
  number_in new v q x same = subst (λ (y : TableWord). value_in new y ≡ x) (same_Some v q same)

  aim_number : (i slot : ℕ) → i < length p.diagram.tasks → value_in (rule.next p w s (Aim i slot)) (aim i) ≡ stored_number w s (Aim i slot)
  aim_number i slot named = ap (λ (t : TaskState). order_value t.words.aim) (get_or-set_same s.tasks i (record (task s i) { words = move.words_after_aim (task s i).words (move.after_aim (task_entry s i) slot) }) no_task (inside i named))

  claim_number : (k : ℕ) → k < length p.diagram.links → value_in (rule.next p w s (Claim k)) (claim k) ≡ stored_number w s (Claim k)
  claim_number k named =
      let below : k < length s.orders = omega (arith, named, shape.orders, ap length shape.wiring.links) in
      let c : LinkEntry = move.claim_entry (link w k).delay (task_entry s (link w k).writer) (task_entry s (link w k).reader) in
      ap order_value (get_or-set_same s.orders k (move.claim_order c) no_order below)

  open_number : (i : ℕ) → i < length p.diagram.tasks → value_in (rule.next p w s (OpenGate i)) (gate i) ≡ stored_number w s (OpenGate i)
  open_number i named = ap (λ (t : TaskState). t.words.gate) (get_or-set_same s.tasks i (record (task s i) { words = move.words_after_open (task s i).words (task_entry s i).aimed }) no_task (inside i named))

  shut_number : (i : ℕ) → i < length p.diagram.tasks → rule.refusal w s (Shut i) ≡ None → value_in (rule.next p w s (Shut i)) (stamp i (move.own_slot (task s i).part)) ≡ stored_number w s (Shut i)
  shut_number i named free =
      let n : ℕ = move.own_slot (task s i).part in
      ap (λ (t : TaskState). (slot_at t.words.slots n).stamp)
      (task_there s i (record { words = move.with_stamp (task s i).words (move.own_slot (task s i).part) 0; part = move.at_place (task s i).part (place.Put 0); work = move.after_compute (declared_task p i) (rule.sense_values p w s i) (task s i).work }) (inside i named))
      ∙ stamp_there (task s i).words n 0 (slot_inside i named (shut_fits i (there i named) free))

  put_number : (i port : ℕ) → i < length p.diagram.tasks → rule.refusal w s (Put i port) ≡ None → value_in (rule.next p w s (Put i port)) (word i (move.own_slot (task s i).part) port) ≡ stored_number w s (Put i port)
  put_number i port named free =
      let n : ℕ = move.own_slot (task s i).part in
      let fits : move.own_slot (task s i).part < (wired_task w i).slots = put_fits i port (there i named) free in
      let x : ℤ = get_or (task s i).work.row port (pos 0) in
      let few : port < length (slot_at (task s i).words.slots n).words = omega (arith, (shape.each_task i (there i named)).slots.1 n fits, put_port i port (there i named) free) in
      ap (λ (t : TaskState). signed_value (get_or (slot_at t.words.slots n).words port (pos 0)))
      (task_there s i (record { words = move.with_word (task s i).words (move.own_slot (task s i).part) port (get_or (task s i).work.row port (pos 0)); part = move.at_place (task s i).part (move.put_place (wired_task w i).ports (port + 1)); work = (task s i).work }) (inside i named))
      ∙ ap signed_value (word_there (task s i).words n port x (slot_inside i named fits) few)

  done_number : (i : ℕ) → i < length p.diagram.tasks → rule.refusal w s (Done i) ≡ None → value_in (rule.next p w s (Done i)) (stamp i (move.own_slot (task s i).part)) ≡ stored_number w s (Done i)
  done_number i named free =
      let n : ℕ = move.own_slot (task s i).part in
      ap (λ (t : TaskState). (slot_at t.words.slots n).stamp)
      (task_there s i (record { words = move.with_stamp (task s i).words (move.own_slot (task s i).part) ((task s i).part.ended + 2); part = move.at_place (task s i).part place.End; work = (task s i).work }) (inside i named))
      ∙ stamp_there (task s i).words n ((task s i).part.ended + 2) (slot_inside i named (done_fits i (there i named) free))

  end_number : (i : ℕ) → i < length p.diagram.tasks → value_in (rule.next p w s (End i)) (ended i) ≡ stored_number w s (End i)
  end_number i named =
      ap (λ (t : TaskState). t.words.ended) (task_there s i (record { words = move.with_ended (task s i).words ((task s i).part.ended + 1); part = move.after_end (task s i).part; work = move.after_advance (task s i).work }) (inside i named))

  pub number_stored : (e : Step) (q : TableWord) → rule.IsNamed p.diagram e → rule.refusal w s e ≡ None → stored_by s e ≡ Some q → value_in (rule.next p w s e) q ≡ stored_number w s e
  number_stored (Seen i) q named free is = absurd (cc (is))
  number_stored (Aim i slot) q named free is = number_in (rule.next p w s (Aim i slot)) (aim i) q (stored_number w s (Aim i slot)) is (aim_number i slot named)
  number_stored (Claim k) q named free is = number_in (rule.next p w s (Claim k)) (claim k) q (stored_number w s (Claim k)) is (claim_number k named)
  number_stored (OpenGate i) q named free is = number_in (rule.next p w s (OpenGate i)) (gate i) q (stored_number w s (OpenGate i)) is (open_number i named)
  number_stored (Start i) q named free is = absurd (cc (is))
  number_stored (Hear i) q named free is = absurd (cc (is))
  number_stored (Look i r) q named free is = absurd (cc (is))
  number_stored (Take i r) q named free is = absurd (cc (is))
  number_stored (Shut i) q named free is = number_in (rule.next p w s (Shut i)) (stamp i (move.own_slot (task s i).part)) q (stored_number w s (Shut i)) is (shut_number i named free)
  number_stored (Put i port) q named free is = number_in (rule.next p w s (Put i port)) (word i (move.own_slot (task s i).part) port) q (stored_number w s (Put i port)) is (put_number i port named free)
  number_stored (Done i) q named free is = number_in (rule.next p w s (Done i)) (stamp i (move.own_slot (task s i).part)) q (stored_number w s (Done i)) is (done_number i named free)
  number_stored (End i) q named free is = number_in (rule.next p w s (End i)) (ended i) q (stored_number w s (End i)) is (end_number i named)

  -- ---- it is below 2^64

  ended_few : (i : ℕ) → i < length w.tasks → (task s i).part.ended ≤ MAX_OCCURRENCES
  ended_few i below =
      let ok : TaskShape w (declared_task p i) i (task_entry s i).aimed (task s i) = shape.each_task i below in
      omega (arith, ok.gate, ok.aimed, aimed_few p w s shape i below)

  module _ (few : (i : ℕ) → i < length w.tasks → (wired_task w i).slots < 2 ^ 32) where
    order_few : (i : ℕ) (o : Order) → i < length w.tasks → OrderFits (wired_task w i) o → order_value o < 2 ^ 64
    order_few i o below fits = order_below o (omega (arith, few i below, fits.0)) (omega (arith, fits.1))

    aim_few : (i slot : ℕ) → i < length p.diagram.tasks → rule.refusal w s (Aim i slot) ≡ None → stored_number w s (Aim i slot) < 2 ^ 64
    aim_few i slot named free =
        let new : State = rule.next p w s (Aim i slot) in
        let fits : OrderFits (wired_task w i) (task (rule.next p w s (Aim i slot)) i).words.aim = ((step_kept p w s shape (Aim i slot) named free).each_task i (there i named)).aim in
        subst (λ (x : ℕ). x < 2 ^ 64) (aim_number i slot named) (order_few i (task (rule.next p w s (Aim i slot)) i).words.aim (there i named) fits)

    claim_few : (k : ℕ) → k < length p.diagram.links → rule.refusal w s (Claim k) ≡ None → stored_number w s (Claim k) < 2 ^ 64
    claim_few k named free =
        let below : k < length w.links = rw shape.wiring.links named in
        let fits : OrderFits (wired_task w (link w k).writer) (order (rule.next p w s (Claim k)) k) = ((step_kept p w s shape (Claim k) named free).each_link k below).order in
        subst (λ (x : ℕ). x < 2 ^ 64) (claim_number k named) (order_few (link w k).writer (order (rule.next p w s (Claim k)) k) (shape.wiring.writer k below) fits)

    pub number_below : (e : Step) → PutWordFits s e → rule.IsNamed p.diagram e → rule.refusal w s e ≡ None → stored_number w s e < 2 ^ 64
    number_below (Seen i) put named free = omega arith
    number_below (Aim i slot) put named free = aim_few i slot named free
    number_below (Claim k) put named free = claim_few k named free
    number_below (OpenGate i) put named free = omega (arith, aimed_few p w s shape i (there i named))
    number_below (Start i) put named free = omega arith
    number_below (Hear i) put named free = omega arith
    number_below (Look i r) put named free = omega arith
    number_below (Take i r) put named free = omega arith
    number_below (Shut i) put named free = omega arith
    number_below (Put i port) put named free = value_below (get_or (task s i).work.row port (pos 0)) put
    number_below (Done i) put named free = omega (arith, ended_few i (there i named))
    number_below (End i) put named free = omega (arith, ended_few i (there i named))
