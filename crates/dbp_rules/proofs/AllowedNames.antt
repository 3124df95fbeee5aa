-- What an allowed step names is there: the read of a look and of a take, the port of a put, and the slot of an aim, of which a task has few.
use Rattle.std.proofs.Common.{◌≡◌, ℕ, ◌<◌, length, None, sym, ◌∙◌, ap, arith}
use Rattle.dbp_plan.specs.declared.plan.Plan.{Plan}
use Rattle.dbp_plan.specs.Lookups.{declared_task}
use Rattle.dbp_rules.specs.Lookups.{read_at, task, wired_task}
use Rattle.dbp_rules.specs.Rules as rule
use Rattle.dbp_rules.specs.Shapes.{IsShape, place_number}
use Rattle.dbp_slots.specs.Slots.{counts_of}
use Rattle.dbp_rules.specs.Wired.{slot_count, wiring_of}
use Rattle.dbp_rules.specs.declared.parts.Place.{Place}
use Rattle.dbp_rules.specs.declared.parts.Place.TheVariants as place
use Rattle.dbp_rules.specs.declared.state.State.{State}
use Rattle.dbp_rules.specs.declared.step.Broken.TheVariants as broken
use Rattle.dbp_rules.specs.declared.step.Count.{Count}
use Rattle.dbp_rules.specs.declared.step.Step.TheVariants.{Aim, Look, Take, Put}
use Rattle.dbp_rules.specs.declared.wiring.TaskWiring.{TaskWiring}
use Rattle.dbp_rules.specs.declared.wiring.Wiring.{Wiring}
use Rattle.dbp_rules.proofs.Aims.{aim_allowed}
use Rattle.dbp_rules.proofs.Allowed.{next_none, or_else_none}
use Rattle.dbp_rules.proofs.ShapeFacts.{place_in}
use Rattle.dbp_rules.proofs.StepPlaces.{at_kind}
use Rattle.dbp_rules.proofs.TableSizes.{slot_count_few}
use Rattle.dbp_rules.proofs.WiringParts.{wired_is}

-- ---- reads and ports

module _ (p : Plan) (w : Wiring) (s : State) (shape : IsShape p w s) where
  operand_is : (i kind operand : ℕ) (q : Place) → rule.steps_next w s i kind operand ≡ None → (task s i).part.place ≡ q → (rule.place_kind (wired_task w i) q).1 ≡ operand
  operand_is i kind operand q next at = ap (λ (x : Place). (rule.place_kind (wired_task w i) x).1) (sym at) ∙ (next_none broken.TaskPlace (rule.place_kind (wired_task w i) (task s i).part.place) kind operand next).1

  turn_read : (i r n : ℕ) → i < length w.tasks → n < length (wired_task w i).reads → (read_at (wired_task w i) n).read ≡ r → r < length (declared_task p i).reads
  turn_read i r n below few is = omega (arith, is, ((shape.wiring.each_task i below).each_read n few).read)

  pub look_read : (i r : ℕ) → i < length p.diagram.tasks → rule.refusal w s (Look i r) ≡ None → r < length (declared_task p i).reads
  look_read i r named free =
      let below : i < length w.tasks = omega (arith, named, shape.wiring.tasks) in
      let next : rule.steps_next w s i 7 r ≡ None = (or_else_none (rule.steps_next w s i 7 r) _ free).0 in
      let n : ℕ = place_number (task s i).part.place in
      let at : (task s i).part.place ≡ place.Look n = at_kind w s i 7 r next in
      turn_read i r n below (place_in p w s shape i (place.Look n) below at) (operand_is i 7 r (place.Look n) next at)

  pub take_read : (i r : ℕ) → i < length p.diagram.tasks → rule.refusal w s (Take i r) ≡ None → r < length (declared_task p i).reads
  take_read i r named free =
      let below : i < length w.tasks = omega (arith, named, shape.wiring.tasks) in
      let next : rule.steps_next w s i 8 r ≡ None = (or_else_none (rule.steps_next w s i 8 r) _ free).0 in
      let n : ℕ = place_number (task s i).part.place in
      let at : (task s i).part.place ≡ place.Take n = at_kind w s i 8 r next in
      turn_read i r n below (place_in p w s shape i (place.Take n) below at) (operand_is i 8 r (place.Take n) next at)

  pub put_port : (i port : ℕ) → i < length p.diagram.tasks → rule.refusal w s (Put i port) ≡ None → port < length (declared_task p i).outs
  put_port i port named free =
      let below : i < length w.tasks = omega (arith, named, shape.wiring.tasks) in
      let next : rule.steps_next w s i 10 port ≡ None = (or_else_none (rule.steps_next w s i 10 port) _ free).0 in
      let n : ℕ = place_number (task s i).part.place in
      let at : (task s i).part.place ≡ place.Put n = at_kind w s i 10 port next in
      let few : n < (wired_task w i).ports = place_in p w s shape i (place.Put n) below at in
      let is : n ≡ port = operand_is i 10 port (place.Put n) next at in
      omega (arith, few, is, (shape.wiring.each_task i below).ports)

-- ---- slots

pub aim_slot : (p : Plan) (count : Count) (s : State) (i slot : ℕ) → i < length p.diagram.tasks → rule.refusal (wiring_of p count) s (Aim i slot) ≡ None → slot < 265
aim_slot p count s i slot named free =
    let slots : (wired_task (wiring_of p count) i).slots ≡ slot_count count (counts_of p.diagram i) = ap (λ (t : TaskWiring). t.slots) (wired_is p count i named) in
    omega (arith, (aim_allowed (wiring_of p count) s.releaser i slot free).below, slots, slot_count_few p count i)
