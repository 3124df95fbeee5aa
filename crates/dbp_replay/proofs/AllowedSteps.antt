-- Steps that are allowed one after another from the start name only what the diagram has.
use Rattle.std.proofs.Common.{◌≡◌, ℕ, ◌<◌, All, List, length, get_or, take, None, arith}
use Rattle.std.proofs.lemmas.Option.{slice_get-get_or}
use Rattle.dbp_plan.specs.declared.plan.Plan.{Plan}
use Rattle.dbp_plan.specs.Lookups.{no_link}
use Rattle.dbp_rules.proofs.AllowedNames.{aim_slot, look_read, put_port, take_read}
use Rattle.dbp_rules.proofs.LeadsLaws.{IsAllowedAfter, leads_at}
use Rattle.dbp_rules.proofs.SoundRuns.{reached_sound}
use Rattle.dbp_rules.specs.Lawful.{Leads}
use Rattle.dbp_rules.specs.Rules.{IsNamed, refusal}
use Rattle.dbp_rules.specs.Shapes.{IsShape}
use Rattle.dbp_rules.specs.Wired.{wiring_of}
use Rattle.dbp_rules.specs.declared.state.State.{State}
use Rattle.dbp_rules.specs.declared.step.Count.{Count}
use Rattle.dbp_rules.specs.declared.step.Step.{Step}
use Rattle.dbp_rules.specs.declared.step.Step.TheVariants.{Seen, Aim, Claim, OpenGate, Start, Hear, Look, Take, Shut, Put, Done, End}
use Rattle.dbp_replay.specs.Names.{HasSlotNumber}
use Rattle.dbp_replay.specs.NamedItems.{HasOperand, IsThere, task_of}
use Rattle.dbp_replay.specs.Replays.{first}

module _ (p : Plan) (count : Count) (s : State) (shape : IsShape p (wiring_of p count) s) where
  task_there : (e : Step) → IsNamed p.diagram e → task_of p.diagram e < length p.diagram.tasks
  task_there (Seen i) named = named
  task_there (Aim i slot) named = named
  task_there (Claim k) named = (p.rules.ranked.closed.ends k no_link named).1
  task_there (OpenGate i) named = named
  task_there (Start i) named = named
  task_there (Hear i) named = named
  task_there (Look i r) named = named
  task_there (Take i r) named = named
  task_there (Shut i) named = named
  task_there (Put i port) named = named
  task_there (Done i) named = named
  task_there (End i) named = named

  operand_there : (e : Step) → IsNamed p.diagram e → refusal (wiring_of p count) s e ≡ None → HasOperand p.diagram e
  operand_there (Seen i) named free = tt
  operand_there (Aim i slot) named free = tt
  operand_there (Claim k) named free = (p.rules.ranked.closed.ends k no_link named).0
  operand_there (OpenGate i) named free = tt
  operand_there (Start i) named free = tt
  operand_there (Hear i) named free = tt
  operand_there (Look i r) named free = look_read p (wiring_of p count) s shape i r named free
  operand_there (Take i r) named free = take_read p (wiring_of p count) s shape i r named free
  operand_there (Shut i) named free = tt
  operand_there (Put i port) named free = put_port p (wiring_of p count) s shape i port named free
  operand_there (Done i) named free = tt
  operand_there (End i) named free = tt

  slot_number : (e : Step) → IsNamed p.diagram e → refusal (wiring_of p count) s e ≡ None → HasSlotNumber e
  slot_number (Seen i) named free = tt
  slot_number (Aim i slot) named free = omega (arith, aim_slot p count s i slot named free)
  slot_number (Claim k) named free = tt
  slot_number (OpenGate i) named free = tt
  slot_number (Start i) named free = tt
  slot_number (Hear i) named free = tt
  slot_number (Look i r) named free = tt
  slot_number (Take i r) named free = tt
  slot_number (Shut i) named free = tt
  slot_number (Put i port) named free = tt
  slot_number (Done i) named free = tt
  slot_number (End i) named free = tt

-- the step at a place, after those before it
step_at : (p : Plan) (count : Count) (steps : List Step) (s : State) (k : ℕ) (d : Step) → Leads p (wiring_of p count) (first p count) steps s → k < length steps
    → IsAllowedAfter p (wiring_of p count) (first p count) (take k steps) (get_or steps k d)
step_at p count steps s k d leads below = leads_at p (wiring_of p count) steps (first p count) s k (get_or steps k d) leads (slice_get-get_or steps k d below)

pub all_there : (p : Plan) (count : Count) (steps : List Step) (s : State) → Leads p (wiring_of p count) (first p count) steps s → All (IsThere p.diagram) steps
all_there p count steps s leads k d below =
    let at : IsAllowedAfter p (wiring_of p count) (first p count) (take k steps) (get_or steps k d) = step_at p count steps s k d leads below in
    record {
      named = at.named;
      task = task_there p count at.state (reached_sound p count (take k steps) at.state at.leads).shape (get_or steps k d) at.named;
      operand = operand_there p count at.state (reached_sound p count (take k steps) at.state at.leads).shape (get_or steps k d) at.named at.free;
    }

pub all_slot_numbers : (p : Plan) (count : Count) (steps : List Step) (s : State) → Leads p (wiring_of p count) (first p count) steps s → All HasSlotNumber steps
all_slot_numbers p count steps s leads k d below =
    let at : IsAllowedAfter p (wiring_of p count) (first p count) (take k steps) (get_or steps k d) = step_at p count steps s k d leads below in
    slot_number p count at.state (reached_sound p count (take k steps) at.state at.leads).shape (get_or steps k d) at.named at.free
