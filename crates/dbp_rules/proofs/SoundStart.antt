-- The state before the first step is sound.
use Rattle.std.proofs.Common.{◌≡◌, ℕ, zero, suc, ℤ, pos, ◌+◌, ◌-◌, ◌<◌, ◌≤◌, Bool, true, false, List, [], ◌∷◌, ◌++◌, length, get_or, take, replicate, refl, sym, ◌∙◌, ap, arith}
use Rattle.std.proofs.lemmas.List.{get_or-replicate, length-map}
use Rattle.std.proofs.lemmas.List.FromFn.{get_or-map-range_with_len}
use Rattle.std.proofs.lemmas.Option.{slice_get-get_or}
use Rattle.std.proofs.Math.ListN.{get_or-map}
use Rattle.dbp_plan.specs.declared.plan.Plan.{Plan}
use Rattle.dbp_plan.specs.Closed.{place_count}
use Rattle.dbp_plan.specs.Lookups.{declared_task, no_declared_task}
use Rattle.sync_meaning.proofs.OneMeaning.{meaning_solves}
use Rattle.sync_meaning.specs.SomeMeaning.{meaning_of, meaning_of-is}
use Rattle.dbp_plan.specs.Table.{table_row}
use Rattle.sync_meaning.specs.SomeMeaningRows.{Solves, states_at-none}
use Rattle.dbp_plan.proofs.ListParts.{repeated}
use Rattle.dbp_rules.specs.Lookups.{is_counted, link, no_link_entry, no_order, no_slot, no_task, no_task_wiring, slot_at, task, task_entry, wired_task}
use Rattle.dbp_rules.specs.Shapes.{IsWired}
use Rattle.dbp_rules.specs.Sound.{Sound}
use Rattle.dbp_rules.specs.SoundParts.{TaskSound, last_passed}
use Rattle.dbp_rules.specs.Start.{first_row, first_states, start_entry, start_of, start_slots, start_task}
use Rattle.dbp_rules.specs.Wired.{wiring_of}
use Rattle.dbp_rules.specs.declared.state.Slot.{Slot}
use Rattle.dbp_rules.specs.declared.step.Count.{Count}
use Rattle.dbp_rules.specs.declared.wiring.TaskWiring.{TaskWiring}
use Rattle.dbp_rules.specs.declared.wiring.Wiring.{Wiring}
use Rattle.dbp_rules.proofs.StartShape.{start_shape}
use Rattle.dbp_rules.proofs.Wirings.{wiring-whole}

pub take_front : (xs ys : List ℤ) (n : ℕ) → length xs ≡ n → take n (xs ++ ys) ≡ xs
take_front [] ys n size = rw (sym size) refl
take_front (x ∷ xs) ys zero size = absurd (omega arith)
take_front (x ∷ xs) ys (suc n) size = ap (λ zs. x ∷ zs) (take_front xs ys n (omega arith))

-- only slot 0 has a stamp, and it holds the row
whole : (t : TaskWiring) (row : List ℤ) (rows : ℕ → List ℤ) (n l : ℕ) → row ≡ rows 0 → n < t.slots → (slot_at (start_slots t row) n).stamp ≡ l + 1 → (l ≤ 0) × ((slot_at (start_slots t row) n).words ≡ rows l)
whole t row rows zero l same below stamp =
    let none : 0 ≡ l = omega arith in
    (omega arith, same ∙ ap rows none)
whole t row rows (suc n) l same below stamp =
    let empty : (slot_at (start_slots t row) (suc n)).stamp ≡ 0 = ap (λ (x : Slot). x.stamp) (get_or-replicate (t.slots - 1) n (record { stamp = 0; words = replicate t.ports (pos 0) }) no_slot (omega arith)) in
    absurd (omega arith)

start_sound_task : (p : Plan) (w : Wiring) (rows : ℕ → ℕ → List ℤ) (i : ℕ) → first_row (declared_task p i) ≡ rows i 0 → TaskSound p w rows i (start_entry (wired_task w i)) (start_task (wired_task w i) (declared_task p i))
start_sound_task p w rows i same =
    let states : length (first_states (declared_task p i)) ≡ length (declared_task p i).states = length-map (declared_task p i).states _ in
    record {
      known = omega arith;
      ended = refl;
      aimed = omega arith;
      aim = refl;
      heard = λ some. absurd (omega arith);
      whole = λ n l below stamp. whole (wired_task w i) (first_row (declared_task p i)) (rows i) n l same below stamp;
      filled = λ all. refl;
      filling = λ some. absurd (omega arith);
      put = λ port below. absurd (omega arith);
      kept = λ j below. let zero_ : get_or (replicate {A = ℕ} (wired_task w i).kept 0) j 0 ≡ 0 = repeated {A = ℕ} (wired_task w i).kept j 0 in rw zero_ (omega arith);
      kept_apart = λ some. absurd (omega arith);
      states = take_front (first_states (declared_task p i)) (replicate (place_count (declared_task p i) - length (declared_task p i).states) (pos 0)) (length (declared_task p i).states) states ∙ sym (states_at-none p.diagram p.samples p.batches rows i (declared_task p i));
      taken = λ n below. absurd (omega arith);
      row = same;
      later = λ some. absurd (omega arith);
    }

none_stands : (b : Bool) → last_passed b 0 0 < 0 → ⊥
none_stands true stands = absurd (omega arith)
none_stands false stands = absurd (omega arith)

pub start_sound : (p : Plan) (w : Wiring) (rows : ℕ → ℕ → List ℤ) → IsWired p w → Solves p.diagram p.samples p.batches rows → Sound p w rows (start_of p w)
start_sound p w rows wires solves =
    let entries : (i : ℕ) → i < length w.tasks → task_entry (start_of p w) i ≡ start_entry (wired_task w i) = λ i below. get_or-map start_entry w.tasks i no_task_wiring in
    let tasks : (i : ℕ) → i < length w.tasks → task (start_of p w) i ≡ start_task (wired_task w i) (declared_task p i) = λ i below. get_or-map-range_with_len (λ (j : ℕ). start_task (wired_task w j) (declared_task p j)) 0 (length w.tasks) i i no_task below (omega arith) in
    let first : (i : ℕ) → i < length w.tasks → first_row (declared_task p i) ≡ rows i 0 = λ i below. sym (solves.each i 0 (declared_task p i) (slice_get-get_or p.diagram.tasks i no_declared_task (omega (arith, below, wires.tasks))) (omega arith)) in
    record {
      shape = start_shape p w wires;
      place = omega arith;
      gates = λ i below. rw (tasks i below) refl;
      claims = λ k below. rw (repeated (length w.links) k no_link_entry, repeated (length w.links) k no_order) (record { instance = refl; number = omega arith; order = refl });
      tasks = λ i below. rw (entries i below, tasks i below) (start_sound_task p w rows i (first i below));
      links = λ k below. rw (repeated (length w.links) k no_link_entry, entries (link w k).writer (wires.writer k below), tasks (link w k).writer (wires.writer k below), entries (link w k).reader (wires.reader k below), tasks (link w k).reader (wires.reader k below)) (record {
        holds = λ stands. absurd (none_stands (is_counted w k) stands);
        current = λ stands. absurd (none_stands (is_counted w k) stands);
        heard = λ j inside. absurd (omega arith);
        ready = λ n takes. absurd (cc (takes));
      });
    }

-- by the meaning's own table
pub first_sound : (p : Plan) (count : Count) → Sound p (wiring_of p count) (table_row (meaning_of p)) (start_of p (wiring_of p count))
first_sound p count =
    start_sound p (wiring_of p count) (table_row (meaning_of p)) (wiring-whole p count) (meaning_solves p.diagram p.samples p.batches (meaning_of p) p.rules (meaning_of-is p))
