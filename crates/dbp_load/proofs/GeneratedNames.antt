-- No line of a generated document has a fault of names.
use Rattle.std.proofs.Common.{◌≡◌, ◌≢◌, ℕ, ◌+◌, ◌-◌, ◌<◌, ◌≤◌, Bool, true, false, List, [], ◌∷◌, pos, Option, Some, None, refl, sym, ap, ◌∙◌, arith}
use Rattle.std.specs.Prelude.{find, codes}
use Rattle.std.specs.List.{flat_map}
use Rattle.std.specs.Str.{bytes_eq}
use Rattle.std.proofs.lemmas.Option.{none-some, same_Some}
use Rattle.dbp_plan.specs.NameLists.{is_among}
use Rattle.dia_lines.specs.declared.item.Part.{Part}
use Rattle.dia_lines.specs.declared.item.Part.TheVariants.{State, Sense}
use Rattle.dia_lines.specs.declared.item.RawClock.{RawClock}
use Rattle.dia_read.specs.declared.document.Body.{Body}
use Rattle.dia_read.specs.declared.document.RawTask.{RawTask}
use Rattle.dia_check.specs.Faults.{part_fault}
use Rattle.dia_check.specs.Names.{declared_name, input_name, out_name, port_names, task_names}
use Rattle.dbp_load.specs.Bodies.{parts_of, read_of, read_name, task_name, early_count, early_read, few_early, has_late, late_read, generated_task}
use Rattle.drawn_numbers.specs.Draws.{after_draw, drawn, after_draws}
use Rattle.dbp_load.specs.Listed.{first_items}
use Rattle.drawn_numbers.proofs.DrawLaws.{drawn-below}
use Rattle.dbp_load.proofs.FaultlessLines.{AreFine}
use Rattle.dbp_load.proofs.GeneratedParts.{by-reads}
use Rattle.dbp_load.proofs.GeneratedShapes.{outs-are}
use Rattle.dbp_load.proofs.ListedItems.{find-listed, map-listed, none-listed}
use Rattle.dbp_load.proofs.NameTexts.{same-task, other-task}

-- a task with so many reads
abbrev pub task_with : ℕ → ℕ → ℕ → RawClock → Option ℕ → (early : ℕ) → Bool → early ≤ 3 → RawTask
task_with size draws i clock prio early late few = record {
  name = task_name i;
  clock = clock;
  when = None;
  prio = prio;
  deadline = None;
  cost = 1;
  cpu = 0;
  parts = parts_of size draws i early late few;
}

-- ---- names of tasks and their outs

module _ (draws : ℕ → ℕ) (size : ℕ) (few_tasks : size ≤ 32) where
  abbrev pub task_at : ℕ → RawTask
  task_at i = generated_task size (draws i) i

  abbrev pub all_tasks : List RawTask
  all_tasks = first_items task_at size

  -- the task with the name is found
  pub found : (i : ℕ) → i < size → find (λ (t : RawTask). bytes_eq t.name (task_name i)) all_tasks ≡ Some (task_at i)
  found i inside = find-listed (λ (t : RawTask). bytes_eq t.name (task_name i)) task_at size i inside (same-task i) (λ j below apart. other-task j i (omega arith) (omega arith) apart)

  outs-of : (o : Option RawTask) (t : RawTask) → o ≡ Some t → flat_map out_name t.parts ≡ codes "y" ∷ [] → elim o [ None ↦ [] | Some u ↦ flat_map out_name u.parts ] ≡ codes "y" ∷ []
  outs-of None t is outs = absurd (none-some t is)
  outs-of (Some u) t is outs = let same : u ≡ t = same_Some u t is in ap (λ v. flat_map out_name v.parts) same ∙ outs

  pub ports : (i : ℕ) → i < size → port_names all_tasks (task_name i) ≡ codes "y" ∷ []
  ports i inside = outs-of (find (λ (t : RawTask). bytes_eq t.name (task_name i)) all_tasks) (task_at i) (found i inside) (outs-are size (after_draw (draws i)) i (early_count i) (has_late size i) (few_early i))

  -- no task before it has the name
  pub new-name : (i : ℕ) → i < size → is_among (task_names (first_items task_at i)) (task_name i) ≡ false
  new-name i inside =
      ap (λ names. is_among names (task_name i)) (map-listed (λ (t : RawTask). t.name) task_at i)
      ∙ none-listed (λ m. bytes_eq m (task_name i)) task_name i (λ j below. other-task j i (omega arith) (omega arith) (λ e. absurd (omega arith)))

-- ---- the lines of a body

module _ (body : Body) (size : ℕ) (inputs : flat_map input_name body.decls ≡ codes "g" ∷ []) (known : (i : ℕ) → i < size → port_names body.tasks (task_name i) ≡ codes "y" ∷ [])
    (draws i : ℕ) (clock : RawClock) (prio : Option ℕ) (few_tasks : size ≤ 32) (inside : i < size) where
  abbrev task : (early : ℕ) → Bool → early ≤ 3 → RawTask
  task early late few = task_with size draws i clock prio early late few

  -- a read of another task
  read-fine : (early : ℕ) (late : Bool) (few : early ≤ 3) (before : List Part) (name : List ℕ) (delay writer : ℕ)
      → is_among (flat_map declared_name before) name ≡ false → writer < size → writer ≢ i
      → part_fault body (task early late few) before (read_of name delay writer) ≡ None
  read-fine early late few before name delay writer new below apart =
      rw (new, known writer below, other-task i writer (omega arith) (omega arith) (λ e. apart (sym e))) refl

  early-fine : (early : ℕ) (late : Bool) (few : early ≤ 3) (before : List Part) (j : ℕ) → is_among (flat_map declared_name before) (read_name j) ≡ false → 0 < i
      → part_fault body (task early late few) before (early_read draws i j) ≡ None
  early-fine early late few before j new some =
      let writer = drawn-below i (after_draws j draws) some in
      read-fine early late few before (read_name j) 0 (drawn i (after_draws j draws)) new (omega (arith, writer)) (λ e. absurd (omega (arith, writer, e)))

  late-fine : (early : ℕ) (few : early ≤ 3) (before : List Part) → is_among (flat_map declared_name before) (codes "q") ≡ false → i + 1 < size
      → part_fault body (task early true few) before (late_read size draws i early) ≡ None
  late-fine early few before new more =
      let writer = drawn-below (size - 1 - i) (after_draws early draws) (omega arith) in
      read-fine early true few before (codes "q") 1 (i + 1 + drawn (size - 1 - i) (after_draws early draws)) new (omega (arith, writer)) (λ e. absurd (omega (arith, writer, e)))

  sense-fine : (early : ℕ) (late : Bool) (few : early ≤ 3) → part_fault body (task early late few) (State (codes "s") (pos 0) ∷ []) (Sense (codes "g0") (codes "g")) ≡ None
  sense-fine early late few = rw inputs refl

  -- the lines before a read
  abbrev front : ℕ → List Part
  front n = State (codes "s") (pos 0) ∷ Sense (codes "g0") (codes "g") ∷ first_items (early_read draws i) n

  abbrev Fine : (early : ℕ) → Bool → early ≤ 3 → Type 0
  Fine early late few = early ≤ i → (late ≡ true → i + 1 < size) → AreFine (part_fault body (task early late few)) [] (parts_of size draws i early late few)

  pub parts-fine : (early : ℕ) (late : Bool) (few : early ≤ 3) → Fine early late few
  parts-fine = by-reads Fine
      (λ few fits later. (refl, (sense-fine 0 true few, (late-fine 0 few (front 0) refl (later refl), (refl, (refl, tt))))))
      (λ few fits later. (refl, (sense-fine 0 false few, (refl, (refl, tt)))))
      (λ few fits later. (refl, (sense-fine 1 true few, (early-fine 1 true few (front 0) 0 refl (omega arith), (late-fine 1 few (front 1) refl (later refl), (refl, (refl, tt)))))))
      (λ few fits later. (refl, (sense-fine 1 false few, (early-fine 1 false few (front 0) 0 refl (omega arith), (refl, (refl, tt))))))
      (λ few fits later. (refl, (sense-fine 2 true few, (early-fine 2 true few (front 0) 0 refl (omega arith), (early-fine 2 true few (front 1) 1 refl (omega arith), (late-fine 2 few (front 2) refl (later refl), (refl, (refl, tt))))))))
      (λ few fits later. (refl, (sense-fine 2 false few, (early-fine 2 false few (front 0) 0 refl (omega arith), (early-fine 2 false few (front 1) 1 refl (omega arith), (refl, (refl, tt)))))))
      (λ few fits later. (refl, (sense-fine 3 true few, (early-fine 3 true few (front 0) 0 refl (omega arith), (early-fine 3 true few (front 1) 1 refl (omega arith), (early-fine 3 true few (front 2) 2 refl (omega arith), (late-fine 3 few (front 3) refl (later refl), (refl, (refl, tt)))))))))
      (λ few fits later. (refl, (sense-fine 3 false few, (early-fine 3 false few (front 0) 0 refl (omega arith), (early-fine 3 false few (front 1) 1 refl (omega arith), (early-fine 3 false few (front 2) 2 refl (omega arith), (refl, (refl, tt))))))))
