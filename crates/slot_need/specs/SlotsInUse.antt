-- The slots of a task that are in use in a state, and those after a batch of a recorded list.
use Rattle.std.specs.Prelude.{◌≡◌, ℕ, ◌<◌, List, length, slice_get, slice_index_or, Some}
use Rattle.dbp_plan.specs.declared.plan.Plan.{Plan}
use Rattle.dbp_plan.specs.declared.schedule.Batch.{Batch}
use Rattle.dbp_slots.specs.Slots.{counts_of}
use Rattle.dbp_rules.specs.declared.state.State.{State}
use Rattle.dbp_rules.specs.declared.step.Count.TheVariants.{Ranked}
use Rattle.dbp_rules.specs.declared.step.Step.{Step}
use Rattle.dbp_rules.specs.declared.wiring.Wiring.{Wiring}
use Rattle.dbp_rules.specs.Lookups.{link, link_entry, task_entry, wired_task}
use Rattle.dbp_rules.specs.TenParts.{IsStanding}
use Rattle.dbp_rules.specs.Wired.{wiring_of}
use Rattle.virtual_sim.specs.Record.{StandsAfterBatch}

-- the slot is the task's current one, a kept one, or that of a claim that stands
pub data IsInUse (wiring : Wiring) (s : State) (i : ℕ) : ℕ → Type 0 where
  current : IsInUse wiring s i (task_entry s i).current
  kept : (j : ℕ) → j < (wired_task wiring i).kept → IsInUse wiring s i (slice_index_or (task_entry s i).kept j 0)
  claimed : (k : ℕ) → k < length wiring.links → (link wiring k).writer ≡ i → IsStanding wiring s k → IsInUse wiring s i (link_entry s k).slot

-- the list stands after the plan's batch at this time in a state in which each slot of the task is in use
pub record UsesAllSlots (p : Plan) (script : List Step) (i time : ℕ) : Type 0 where
  pub number : ℕ
  pub batch : Batch
  pub at : slice_get p.batches number ≡ Some batch
  pub then : batch.time ≡ time
  pub after : StandsAfterBatch p script number batch.time
  pub used : (slot : ℕ) → slot < (counts_of p.diagram i).sim → IsInUse (wiring_of p Ranked) after.state i slot
