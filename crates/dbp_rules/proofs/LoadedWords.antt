-- The word that a step loads is one of the table's, and what it loads and hears is read off the number there.
use Rattle.std.proofs.Common.{◌≡◌, ℕ, zero, suc, ◌+◌, ◌<◌, ◌≤◌, ◌^◌, length, Some, None, refl, sym, ◌∙◌, ap, subst, arith}
use Rattle.dbp_plan.specs.declared.plan.Plan.{Plan}
use Rattle.dbp_plan.specs.Lookups.{declared_task}
use Rattle.dbp_slots.specs.TableWords.{IsSlot, IsWord, TableWord, ended, gate}
use Rattle.dbp_rules.specs.LoadedWords.{heard_of, loaded_by, loaded_of, number_to_load, order_of, sizes_of_wiring, stamp_of_read, word_of_order, word_of_read}
use Rattle.dbp_rules.specs.Moves.{heard_order}
use Rattle.dbp_rules.specs.PartyRules.{a_value, an_order}
use Rattle.dbp_rules.specs.Lookups.{read_at, task, task_entry, wired_task}
use Rattle.dbp_rules.specs.Rules as rule
use Rattle.dbp_rules.specs.Shapes.{IsReadWired, IsShape, OrderFits, TaskShape, heard_by, link_in, slot_owner}
use Rattle.dbp_rules.specs.SharedWords.{maker_part, order_value, value_in}
use Rattle.dbp_rules.specs.WordRanges.{SlotWordsFit, slot_word}
use Rattle.dbp_rules.specs.declared.parts.Order.{Order}
use Rattle.dbp_rules.specs.declared.parts.Place.TheVariants as place
use Rattle.dbp_rules.specs.declared.state.State.{State}
use Rattle.dbp_rules.specs.declared.step.Step.{Step}
use Rattle.dbp_rules.specs.declared.step.Step.TheVariants.{Seen, Aim, Claim, OpenGate, Start, Hear, Look, Take, Shut, Put, Done, End}
use Rattle.dbp_rules.specs.declared.wiring.Wiring.{Wiring}
use Rattle.dbp_rules.proofs.ShapeFacts.{place_in, word_ordered}
use Rattle.dbp_rules.proofs.StepPlaces.{at_hear, at_look, at_take}
use Rattle.dbp_rules.proofs.TableSizes.{is_slot, is_word, sizes_of_task, task_count}
use Rattle.dbp_rules.proofs.WordNumbers.{order_back, value_back}

module _ (p : Plan) (w : Wiring) (s : State) (shape : IsShape p w s) where
  there : (i : ℕ) → i < length p.diagram.tasks → i < length w.tasks
  there i named = omega (arith, named, shape.wiring.tasks)

  -- ---- the word of an order

  -- the number of the order that is next is one of the task's
  hear_few : (i : ℕ) → i < length w.tasks → rule.refusal w s (Hear i) ≡ None → rule.hears_at (task s i).part.place ≤ length (wired_task w i).links
  hear_few i below free = omega (arith, place_in p w s shape i (place.Hear (rule.hears_at (task s i).part.place)) below (at_hear w s i free))

  order_inside : (i n : ℕ) → i < length w.tasks → n ≤ length (wired_task w i).links → IsWord (sizes_of_wiring w) (word_of_order w i n)
  order_inside i zero below few = omega (arith, task_count w)
  order_inside i (suc n) below few = (shape.wiring.each_task i below).into n (omega arith)

  order_there : (i n : ℕ) → value_in s (word_of_order w i n) ≡ order_value (rule.order_word w s i n)
  order_there i zero = refl
  order_there i (suc n) = refl

  owner_below : (i n : ℕ) → i < length w.tasks → n ≤ length (wired_task w i).links → slot_owner w i n < length w.tasks
  owner_below i zero below few = below
  owner_below i (suc n) below few = shape.wiring.writer (link_in (wired_task w i) n) ((shape.wiring.each_task i below).into n (omega arith))

  -- ---- the words of a read

  -- the slot that the task has heard of for a read is one of the writer's
  read_inside : (i n : ℕ) → i < length w.tasks → n < length (wired_task w i).reads → heard_by (1 + length (wired_task w i).links) (task s i).part.place ≡ 1 + length (wired_task w i).links
      → IsSlot (sizes_of_wiring w) (read_at (wired_task w i) n).writer (heard_order (task s i).part (read_at (wired_task w i) n).order).slot
  read_inside i n below few all =
      let ok : TaskShape w (declared_task p i) i (task_entry s i).aimed (task s i) = shape.each_task i below in
      let read : IsReadWired w (length (declared_task p i).reads) i (read_at (wired_task w i) n) = (shape.wiring.each_task i below).each_read n few in
      let fits : OrderFits (wired_task w (slot_owner w i (read_at (wired_task w i) n).order)) (heard_order (task s i).part (read_at (wired_task w i) n).order) = ok.each_heard (read_at (wired_task w i) n).order (omega (arith, read.order, ok.heard, all)) in
      let own : OrderFits (wired_task w (read_at (wired_task w i) n).writer) (heard_order (task s i).part (read_at (wired_task w i) n).order) =
      subst (λ (v : ℕ). OrderFits (wired_task w v) (heard_order (task s i).part (read_at (wired_task w i) n).order)) (sym read.owner) fits in
      is_slot w (read_at (wired_task w i) n).writer (heard_order (task s i).part (read_at (wired_task w i) n).order).slot read.writer own.0

  stamp_inside : (i r : ℕ) → i < length w.tasks → rule.refusal w s (Look i r) ≡ None → IsWord (sizes_of_wiring w) (stamp_of_read w (task s i).part i (rule.turn_at (task s i).part.place))
  stamp_inside i r below free =
      let n : ℕ = rule.turn_at (task s i).part.place in
      let at : (task s i).part.place ≡ place.Look n = at_look w s i r free in
      read_inside i n below (place_in p w s shape i (place.Look n) below at) (ap (heard_by (1 + length (wired_task w i).links)) at)

  port_inside : (i r : ℕ) → i < length w.tasks → rule.refusal w s (Take i r) ≡ None → IsWord (sizes_of_wiring w) (word_of_read w (task s i).part i (rule.turn_at (task s i).part.place))
  port_inside i r below free =
      let n : ℕ = rule.turn_at (task s i).part.place in
      let at : (task s i).part.place ≡ place.Take n = at_take w s i r free in
      let few : n < length (wired_task w i).reads = place_in p w s shape i (place.Take n) below at in
      let read : IsReadWired w (length (declared_task p i).reads) i (read_at (wired_task w i) n) = (shape.wiring.each_task i below).each_read n few in
      (read_inside i n below few (ap (heard_by (1 + length (wired_task w i).links)) at), rw (sizes_of_task w (read_at (wired_task w i) n).writer) read.port)

  -- ---- the laws

  pub loaded_inside : (e : Step) (q : TableWord) → rule.IsNamed p.diagram e → rule.refusal w s e ≡ None → loaded_by w s e ≡ Some q → IsWord (sizes_of_wiring w) q
  loaded_inside (Seen i) q named free is = is_word w (ended i) q is (omega (arith, there i named, task_count w))
  loaded_inside (Aim i slot) q named free is = absurd (cc (is))
  loaded_inside (Claim k) q named free is = absurd (cc (is))
  loaded_inside (OpenGate i) q named free is = absurd (cc (is))
  loaded_inside (Start i) q named free is = is_word w (gate i) q is (omega (arith, there i named, task_count w))
  loaded_inside (Hear i) q named free is = is_word w (word_of_order w i (rule.hears_at (task s i).part.place)) q is (order_inside i (rule.hears_at (task s i).part.place) (there i named) (hear_few i (there i named) free))
  loaded_inside (Look i r) q named free is = is_word w (stamp_of_read w (task s i).part i (rule.turn_at (task s i).part.place)) q is (stamp_inside i r (there i named) free)
  loaded_inside (Take i r) q named free is = is_word w (word_of_read w (task s i).part i (rule.turn_at (task s i).part.place)) q is (port_inside i r (there i named) free)
  loaded_inside (Shut i) q named free is = absurd (cc (is))
  loaded_inside (Put i port) q named free is = absurd (cc (is))
  loaded_inside (Done i) q named free is = absurd (cc (is))
  loaded_inside (End i) q named free is = absurd (cc (is))

  -- what is loaded is read off the number
  module _ (few : (i : ℕ) → i < length w.tasks → (wired_task w i).slots < 2 ^ 32) (fit : SlotWordsFit s) where
    loads_order : (i : ℕ) → i < length w.tasks → rule.refusal w s (Hear i) ≡ None → rule.loaded_value w s (Hear i) ≡ loaded_of (Hear i) (number_to_load w s (Hear i))
    loads_order i below free =
        let n : ℕ = rule.hears_at (task s i).part.place in
        let less : n ≤ length (wired_task w i).links = hear_few i below free in
        let fits : OrderFits (wired_task w (slot_owner w i n)) (rule.order_word w s i n) = word_ordered p w s shape i n below less in
        let small : (rule.order_word w s i n).slot < 2 ^ 32 = omega (arith, fits.0, few (slot_owner w i n) (owner_below i n below less)) in
        let back : rule.order_word w s i n ≡ order_of (value_in s (word_of_order w i n)) = sym (order_back (rule.order_word w s i n) small) ∙ ap order_of (sym (order_there i n)) in
        ap (λ (o : Order). an_order o) back

    loads_word : (i r : ℕ) → rule.loaded_value w s (Take i r) ≡ loaded_of (Take i r) (number_to_load w s (Take i r))
    loads_word i r =
        let read = read_at (wired_task w i) (rule.turn_at (task s i).part.place) in
        let n : ℕ = (heard_order (task s i).part read.order).slot in
        ap (λ x. a_value x) (sym (value_back (slot_word s read.writer n read.port) (fit read.writer n read.port)))

    pub loads_number : (e : Step) → rule.IsNamed p.diagram e → rule.refusal w s e ≡ None → rule.loaded_value w s e ≡ loaded_of e (number_to_load w s e)
    loads_number (Seen i) named free = refl
    loads_number (Aim i slot) named free = refl
    loads_number (Claim k) named free = refl
    loads_number (OpenGate i) named free = refl
    loads_number (Start i) named free = refl
    loads_number (Hear i) named free = loads_order i (there i named) free
    loads_number (Look i r) named free = refl
    loads_number (Take i r) named free = loads_word i r
    loads_number (Shut i) named free = refl
    loads_number (Put i port) named free = refl
    loads_number (Done i) named free = refl
    loads_number (End i) named free = refl

-- what is heard is said by what is loaded and the part of the task that makes the step
pub hears_loaded : (w : Wiring) (s : State) (e : Step) → rule.hears w s e ≡ heard_of w (maker_part s e) e (rule.loaded_value w s e)
hears_loaded w s (Seen i) = refl
hears_loaded w s (Aim i slot) = refl
hears_loaded w s (Claim k) = refl
hears_loaded w s (OpenGate i) = refl
hears_loaded w s (Start i) = refl
hears_loaded w s (Hear i) = refl
hears_loaded w s (Look i r) = refl
hears_loaded w s (Take i r) = refl
hears_loaded w s (Shut i) = refl
hears_loaded w s (Put i port) = refl
hears_loaded w s (Done i) = refl
hears_loaded w s (End i) = refl
