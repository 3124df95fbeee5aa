-- The table's sizes are those of the wiring, and the numbers of slots and instances are small.
use Rattle.std.proofs.Common.{◌≡◌, ℕ, ◌<◌, ◌≤◌, ◌^◌, length, map, Some, ap, subst, arith}
use Rattle.std.specs.List.{enumerate_from}
use Rattle.std.proofs.lemmas.List.{length-map}
use Rattle.std.proofs.lemmas.Option.{same_Some}
use Rattle.std.proofs.lemmas.Simd.{map-map}
use Rattle.std.proofs.Math.ListN.{get_or-map}
use Rattle.dbp_plan.specs.declared.plan.Plan.{Plan}
use Rattle.dbp_plan.specs.Closed.{IsClosed}
use Rattle.dbp_slots.specs.Slots.{counts_of, is_to_higher, is_to_lower}
use Rattle.dbp_slots.specs.TableWords.{IsSlot, IsWord, SlotSizes, TableWord, sizes_of, task_sizes}
use Rattle.dbp_slots.proofs.Links.{delay_short, links_few}
use Rattle.dbp_rules.specs.LoadedWords.{sizes_of_wiring}
use Rattle.dbp_rules.specs.Lookups.{no_task_wiring, wired_task}
use Rattle.dbp_rules.specs.Shapes.{OrderFits}
use Rattle.dbp_rules.specs.Wired.{slot_count, task_wiring, wiring_of}
use Rattle.dbp_rules.specs.declared.parts.Order.{Order}
use Rattle.dbp_rules.specs.declared.step.Count.{Count}
use Rattle.dbp_rules.specs.declared.step.Count.TheVariants.{Ranked, All}
use Rattle.dbp_rules.specs.declared.wiring.TaskWiring.{TaskWiring}
use Rattle.dbp_rules.specs.declared.wiring.Wiring.{Wiring}
use Rattle.dbp_rules.proofs.WiringParts.{wired_is}

abbrev slot_sizes : TaskWiring → SlotSizes
slot_sizes t = record { slots = t.slots; ports = t.ports }

pub task_count : (w : Wiring) → length (sizes_of_wiring w).tasks ≡ length w.tasks
task_count w = length-map w.tasks slot_sizes

pub sizes_of_task : (w : Wiring) (i : ℕ) → task_sizes (sizes_of_wiring w) i ≡ record { slots = (wired_task w i).slots; ports = (wired_task w i).ports }
sizes_of_task w i = get_or-map slot_sizes w.tasks i no_task_wiring

pub is_slot : (w : Wiring) (i n : ℕ) → i < length w.tasks → n < (wired_task w i).slots → IsSlot (sizes_of_wiring w) i n
is_slot w i n below fits = (omega (arith, task_count w), rw (sizes_of_task w i) fits)

-- a word that is there is one of the table's
pub is_word : (w : Wiring) (v q : TableWord) → Some v ≡ Some q → IsWord (sizes_of_wiring w) v → IsWord (sizes_of_wiring w) q
is_word w v q same = subst (λ (x : TableWord). IsWord (sizes_of_wiring w) x) (same_Some v q same)

pub same_sizes : (p : Plan) → sizes_of_wiring (wiring_of p All) ≡ sizes_of p.diagram
same_sizes p =
    let tasks : map slot_sizes (map (task_wiring p All) (enumerate_from 0 p.diagram.tasks)) ≡ (sizes_of p.diagram).tasks = map-map slot_sizes (task_wiring p All) (enumerate_from 0 p.diagram.tasks) in
    λ i. record { tasks = tasks i; links = length p.diagram.links }

-- ---- small numbers

pub slot_count_few : (p : Plan) (count : Count) (i : ℕ) → slot_count count (counts_of p.diagram i) ≤ 265
slot_count_few p Ranked i =
    let closed : IsClosed p.diagram = p.rules.ranked.closed in
    omega (arith, links_few p.diagram (is_to_lower p.diagram.ranks i) closed, delay_short p.diagram i closed)
slot_count_few p All i =
    let closed : IsClosed p.diagram = p.rules.ranked.closed in
    omega (arith, links_few p.diagram (is_to_lower p.diagram.ranks i) closed, links_few p.diagram (is_to_higher p.diagram.ranks i) closed, delay_short p.diagram i closed)

pub slots_few : (p : Plan) (count : Count) (i : ℕ) → i < length p.diagram.tasks → (wired_task (wiring_of p count) i).slots < 2 ^ 32
slots_few p count i below =
    let same : (wired_task (wiring_of p count) i).slots ≡ slot_count count (counts_of p.diagram i) = ap (λ (t : TaskWiring). t.slots) (wired_is p count i below) in
    omega (arith, same, slot_count_few p count i)

pub order_small : (p : Plan) (count : Count) (i : ℕ) (o : Order) → i < length p.diagram.tasks → OrderFits (wired_task (wiring_of p count) i) o → (o.slot < 2 ^ 32) × (o.number < 2 ^ 32)
order_small p count i o below fits = (omega (arith, slots_few p count i below, fits.0), omega (arith, fits.1))
