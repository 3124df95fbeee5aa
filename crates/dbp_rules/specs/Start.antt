-- The state before the first step.
use Rattle.std.specs.Prelude.{ℤ, pos, ◌-◌, List, [], ◌∷◌, ◌++◌, length, map, replicate}
use Rattle.std.specs.List.{range_with_len}
use Rattle.dbp_plan.specs.declared.diagram.Task.{Task}
use Rattle.dbp_plan.specs.declared.plan.Plan.{Plan}
use Rattle.dbp_plan.specs.Closed.{place_count}
use Rattle.dbp_plan.specs.Lookups.{declared_task}
use Rattle.dbp_rules.specs.Lookups.{no_link_entry, no_order, wired_task}
use Rattle.dbp_rules.specs.declared.parts.Place.TheVariants.{Idle}
use Rattle.dbp_rules.specs.declared.parts.ReleaserPart.{ReleaserPart}
use Rattle.dbp_rules.specs.declared.parts.TaskEntry.{TaskEntry}
use Rattle.dbp_rules.specs.declared.parts.TaskPart.{TaskPart}
use Rattle.dbp_rules.specs.declared.state.Slot.{Slot}
use Rattle.dbp_rules.specs.declared.state.State.{State}
use Rattle.dbp_rules.specs.declared.state.TaskState.{TaskState}
use Rattle.dbp_rules.specs.declared.wiring.TaskWiring.{TaskWiring}
use Rattle.dbp_rules.specs.declared.wiring.Wiring.{Wiring}

-- the first values of the task's outs, which are its row 0, and of its states
abbrev pub first_row : Task → List ℤ
first_row d = map (λ o. o.first) d.outs

abbrev pub first_states : Task → List ℤ
first_states d = map (λ s. s.first) d.states

-- slot 0 holds the row; the others hold nothing
abbrev pub start_slots : TaskWiring → List ℤ → List Slot
start_slots t row = record { stamp = 1; words = row } ∷ replicate (t.slots - 1) (record { stamp = 0; words = replicate t.ports (pos 0) })

-- a task's part before the first step
abbrev pub first_part : TaskPart
first_part = record { ended = 0; place = Idle; heard = record { items = [] } }

-- nothing is released; the states have their first values, and what it computes with is else 0
abbrev pub start_task : TaskWiring → Task → TaskState
start_task t d = record {
  words = record { gate = 0; ended = 0; aim = no_order; slots = start_slots t (first_row d) };
  part = first_part;
  work = record { now = first_states d ++ replicate (place_count d - length d.states) (pos 0); later = first_states d; row = first_row d };
}

-- no instance is aimed; slot 0 is the current one and each of the kept ones
abbrev pub start_entry : TaskWiring → TaskEntry
start_entry t = record { known = 0; aimed = 0; current = 0; kept = replicate t.kept 0 }

-- the releaser's part before the first step
abbrev pub start_releaser : Wiring → ReleaserPart
start_releaser w = record { place = 0; tasks = map start_entry w.tasks; links = replicate (length w.links) no_link_entry }

-- the state of the plan before the first step
abbrev pub start_of : Plan → Wiring → State
start_of p w = record {
  releaser = start_releaser w;
  tasks = map (λ i. start_task (wired_task w i) (declared_task p i)) (range_with_len 0 (length w.tasks));
  orders = replicate (length w.links) no_order;
}
