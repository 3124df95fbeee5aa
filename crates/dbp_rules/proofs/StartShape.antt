-- The state before the first step has what the code needs.
use Rattle.std.proofs.Common.{◌≡◌, ℕ, zero, suc, ℤ, pos, ◌-◌, ◌<◌, List, length, get_or, replicate, refl, sym, ◌∙◌, ap, arith, length-append}
use Rattle.std.specs.List.{range_with_len}
use Rattle.std.proofs.lemmas.List.{get_or-replicate, length-map, length-replicate}
use Rattle.std.proofs.lemmas.List.FromFn.{get_or-map-range_with_len, length-range_with_len}
use Rattle.std.proofs.Math.ListN.{get_or-map}
use Rattle.dbp_plan.specs.declared.plan.Plan.{Plan}
use Rattle.dbp_plan.specs.Closed.{place_count}
use Rattle.dbp_plan.specs.Lookups.{declared_task}
use Rattle.dbp_plan.proofs.ListParts.{repeated}
use Rattle.dbp_rules.specs.Lookups.{link, no_link_entry, no_order, no_slot, no_task, no_task_wiring, slot_at, task, task_entry, wired_task}
use Rattle.dbp_rules.specs.Shapes.{EntryShape, IsShape, IsTaskWired, IsWired, SlotsFit, TaskShape}
use Rattle.dbp_rules.specs.Start.{first_row, first_states, start_entry, start_of, start_slots, start_task}
use Rattle.dbp_rules.specs.declared.state.Slot.{Slot}
use Rattle.dbp_rules.specs.declared.wiring.TaskWiring.{TaskWiring}
use Rattle.dbp_rules.specs.declared.wiring.Wiring.{Wiring}

slots_fit : (t : TaskWiring) (row : List ℤ) → 0 < t.slots → length row ≡ t.ports → SlotsFit t (start_slots t row)
slots_fit t row some size = (
  ap suc (length-replicate (t.slots - 1) (record { stamp = 0; words = replicate t.ports (pos 0) })) ∙ omega arith,
  λ n. each n,
)
  where
    each : (n : ℕ) → n < t.slots → length (slot_at (start_slots t row) n).words ≡ t.ports
    each zero below = size
    each (suc n) below = ap (λ (x : Slot). length x.words) (get_or-replicate (t.slots - 1) n (record { stamp = 0; words = replicate t.ports (pos 0) }) no_slot (omega arith)) ∙ length-replicate t.ports (pos 0)

task_shape : (p : Plan) (w : Wiring) (i : ℕ) → IsTaskWired p w i (wired_task w i) → TaskShape w (declared_task p i) i 0 (start_task (wired_task w i) (declared_task p i))
task_shape p w i t =
    let states : length (first_states (declared_task p i)) ≡ length (declared_task p i).states = length-map (declared_task p i).states _ in
    let row : length (first_row (declared_task p i)) ≡ length (declared_task p i).outs = length-map (declared_task p i).outs _ in
    record {
      gate = omega arith;
      aimed = omega arith;
      aim = (t.some_slot, omega arith);
      slots = slots_fit (wired_task w i) (first_row (declared_task p i)) t.some_slot (row ∙ sym t.ports);
      place = omega arith;
      heard = refl;
      each_heard = λ n below. absurd (omega arith);
      now = length-append (first_states (declared_task p i)) (replicate (place_count (declared_task p i) - length (declared_task p i).states) (pos 0)) ∙ omega (arith, states, length-replicate (place_count (declared_task p i) - length (declared_task p i).states) (pos 0));
      later = states;
      row = row;
    }

entry_shape : (t : TaskWiring) → 0 < t.slots → EntryShape t (start_entry t)
entry_shape t some = record { current = some; kept = length-replicate {A = ℕ} t.kept 0; kept_slots = λ j below. let zero_ : get_or (replicate {A = ℕ} t.kept 0) j 0 ≡ 0 = repeated {A = ℕ} t.kept j 0 in rw zero_ some }

pub start_shape : (p : Plan) (w : Wiring) → IsWired p w → IsShape p w (start_of p w)
start_shape p w whole =
    let entries : (i : ℕ) → i < length w.tasks → task_entry (start_of p w) i ≡ start_entry (wired_task w i) = λ i below. get_or-map start_entry w.tasks i no_task_wiring in
    let tasks : (i : ℕ) → i < length w.tasks → task (start_of p w) i ≡ start_task (wired_task w i) (declared_task p i) = λ i below. get_or-map-range_with_len (λ (j : ℕ). start_task (wired_task w j) (declared_task p j)) 0 (length w.tasks) i i no_task below (omega arith) in
    record {
      wiring = whole;
      entries = length-map w.tasks start_entry;
      claims = length-replicate (length w.links) no_link_entry;
      tasks = length-map (range_with_len 0 (length w.tasks)) _ ∙ length-range_with_len 0 (length w.tasks);
      orders = length-replicate (length w.links) no_order;
      aimed = λ i below. rw (entries i below) refl;
      each_entry = λ i below. rw (entries i below) (entry_shape (wired_task w i) (whole.each_task i below).some_slot);
      each_task = λ i below. rw (entries i below, tasks i below) (task_shape p w i (whole.each_task i below));
      each_link = λ k below.
          let some : 0 < (wired_task w (link w k).writer).slots = (whole.each_task (link w k).writer (whole.writer k below)).some_slot in
          rw (repeated (length w.links) k no_link_entry, repeated (length w.links) k no_order) (record { claim = (some, omega arith); order = (some, omega arith) });
    }
