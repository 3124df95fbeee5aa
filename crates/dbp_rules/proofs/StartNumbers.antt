-- The number of each word of the table before the first step.
use Rattle.std.proofs.Common.{◌≡◌, ℕ, zero, suc, ℤ, pos, ◌-◌, ◌<◌, length, get_or, replicate, refl, ◌∙◌, ap, arith}
use Rattle.std.proofs.lemmas.List.FromFn.{get_or-map-range_with_len}
use Rattle.dbp_plan.specs.declared.plan.Plan.{Plan}
use Rattle.dbp_plan.specs.Lookups.{declared_task}
use Rattle.dbp_slots.specs.TableWords.{IsWord, TableWord, gate, ended, aim, claim, stamp, word, sizes_of}
use Rattle.dbp_rules.specs.LoadedWords.{start_number}
use Rattle.dbp_rules.specs.Lookups.{no_order, no_slot, no_task, slot_at, task, wired_task}
use Rattle.dbp_rules.specs.SharedWords.{order_value, signed_value, value_in}
use Rattle.dbp_rules.specs.Start.{first_row, start_of, start_slots, start_task}
use Rattle.dbp_rules.specs.Wired.{wiring_of}
use Rattle.dbp_rules.specs.declared.parts.Order.{Order}
use Rattle.dbp_rules.specs.declared.state.Slot.{Slot}
use Rattle.dbp_rules.specs.declared.state.TaskState.{TaskState}
use Rattle.dbp_rules.specs.declared.step.Count.{Count}
use Rattle.dbp_rules.specs.declared.step.Count.TheVariants.{All}
use Rattle.dbp_rules.specs.declared.wiring.TaskWiring.{TaskWiring}
use Rattle.dbp_rules.specs.declared.wiring.Wiring.{Wiring}
use Rattle.dbp_rules.proofs.TableSizes.{same_sizes, task_count}
use Rattle.dbp_rules.proofs.WiringParts.{wired_tasks}
use Rattle.dbp_rules.proofs.WordRanges.{repeat_each}

stamp_number : (p : Plan) (t : TaskWiring) (i n : ℕ) → (slot_at (start_slots t (first_row (declared_task p i))) n).stamp ≡ start_number p (stamp i n)
stamp_number p t i zero = refl
stamp_number p t i (suc n) = repeat_each (λ (x : Slot). x.stamp ≡ 0) (t.slots - 1) (record { stamp = 0; words = replicate t.ports (pos 0) }) no_slot refl refl n

word_number : (p : Plan) (t : TaskWiring) (i n port : ℕ) → signed_value (get_or (slot_at (start_slots t (first_row (declared_task p i))) n).words port (pos 0)) ≡ start_number p (word i n port)
word_number p t i zero port = refl
word_number p t i (suc n) port =
    repeat_each (λ (x : Slot). signed_value (get_or x.words port (pos 0)) ≡ 0) (t.slots - 1) (record { stamp = 0; words = replicate t.ports (pos 0) }) no_slot
    (repeat_each (λ (z : ℤ). signed_value z ≡ 0) t.ports (pos 0) (pos 0) refl refl port) refl n

module _ (p : Plan) (count : Count) where
  abbrev w : Wiring
  w = wiring_of p count

  there : (i : ℕ) → i < length (sizes_of p.diagram).tasks → i < length w.tasks
  there i below = omega (arith, ap (λ x. length x.tasks) (same_sizes p), task_count (wiring_of p All), wired_tasks p All, wired_tasks p count)

  task_is : (i : ℕ) → i < length (sizes_of p.diagram).tasks → task (start_of p w) i ≡ start_task (wired_task w i) (declared_task p i)
  task_is i below = get_or-map-range_with_len (λ (j : ℕ). start_task (wired_task w j) (declared_task p j)) 0 (length w.tasks) i i no_task (there i below) (omega arith)

  pub starts_with : (q : TableWord) → IsWord (sizes_of p.diagram) q → value_in (start_of p w) q ≡ start_number p q
  starts_with (gate i) is = ap (λ (t : TaskState). t.words.gate) (task_is i is)
  starts_with (ended i) is = ap (λ (t : TaskState). t.words.ended) (task_is i is)
  starts_with (aim i) is = ap (λ (t : TaskState). order_value t.words.aim) (task_is i is)
  starts_with (claim k) is = repeat_each (λ (o : Order). order_value o ≡ 0) (length w.links) no_order no_order refl refl k
  starts_with (stamp i n) is = ap (λ (t : TaskState). (slot_at t.words.slots n).stamp) (task_is i is.0) ∙ stamp_number p (wired_task w i) i n
  starts_with (word i n port) is = ap (λ (t : TaskState). signed_value (get_or (slot_at t.words.slots n).words port (pos 0))) (task_is i is.0.0) ∙ word_number p (wired_task w i) i n port
