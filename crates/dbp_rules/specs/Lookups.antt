-- What stands at the places of a wiring and of a state. Each kind has one default, for places that aren't there.
use Rattle.std.specs.Prelude.{ℕ, ◌-◌, Bool, true, nat_lt, List, [], slice_index_or}
use Rattle.dbp_plan.specs.declared.diagram.Link.{Link}
use Rattle.dbp_plan.specs.Lookups.{link_at}
use Rattle.dbp_rules.specs.declared.parts.Order.{Order}
use Rattle.dbp_rules.specs.declared.parts.Place.TheVariants.{Idle}
use Rattle.dbp_rules.specs.declared.parts.LinkEntry.{LinkEntry}
use Rattle.dbp_rules.specs.declared.parts.ReleaserPart.{ReleaserPart}
use Rattle.dbp_rules.specs.declared.parts.TaskEntry.{TaskEntry}
use Rattle.dbp_rules.specs.declared.state.Slot.{Slot}
use Rattle.dbp_rules.specs.declared.state.State.{State}
use Rattle.dbp_rules.specs.declared.state.TaskState.{TaskState}
use Rattle.dbp_rules.specs.declared.step.Count.{Count}
use Rattle.dbp_rules.specs.declared.step.Count.TheVariants.{Ranked, All}
use Rattle.dbp_rules.specs.declared.wiring.ReadWiring.{ReadWiring}
use Rattle.dbp_rules.specs.declared.wiring.TaskWiring.{TaskWiring}
use Rattle.dbp_rules.specs.declared.wiring.Wiring.{Wiring}

abbrev pub no_order : Order
no_order = record { slot = 0; number = 0 }

abbrev pub no_slot : Slot
no_slot = record { stamp = 0; words = [] }

abbrev pub no_task : TaskState
no_task = record {
  words = record { gate = 0; ended = 0; aim = no_order; slots = [] };
  part = record { ended = 0; place = Idle; heard = record { items = [] } };
  work = record { now = []; later = []; row = [] };
}

abbrev pub no_task_entry : TaskEntry
no_task_entry = record { known = 0; aimed = 0; current = 0; kept = [] }

abbrev pub no_link_entry : LinkEntry
no_link_entry = record { slot = 0; number = 0; instance = 0 }

abbrev pub no_read_wiring : ReadWiring
no_read_wiring = record { read = 0; order = 0; writer = 0; port = 0 }

abbrev pub no_task_wiring : TaskWiring
no_task_wiring = record { ports = 0; slots = 0; kept = 0; rank = 0; times = []; links = []; leaving = []; reads = [] }

-- of the releaser's part

abbrev pub entry_in : ReleaserPart → ℕ → TaskEntry
entry_in r i = slice_index_or r.tasks i no_task_entry

abbrev pub claim_in : ReleaserPart → ℕ → LinkEntry
claim_in r k = slice_index_or r.links k no_link_entry

-- of a state

abbrev pub task : State → ℕ → TaskState
task s i = slice_index_or s.tasks i no_task

abbrev pub task_entry : State → ℕ → TaskEntry
task_entry s i = entry_in s.releaser i

abbrev pub link_entry : State → ℕ → LinkEntry
link_entry s k = claim_in s.releaser k

abbrev pub order : State → ℕ → Order
order s k = slice_index_or s.orders k no_order

abbrev pub slot_at : List Slot → ℕ → Slot
slot_at slots n = slice_index_or slots n no_slot

-- of a wiring

abbrev pub wired_task : Wiring → ℕ → TaskWiring
wired_task w i = slice_index_or w.tasks i no_task_wiring

abbrev pub link : Wiring → ℕ → Link
link w k = link_at w.links k

-- the read whose turn this is
abbrev pub read_at : TaskWiring → ℕ → ReadWiring
read_at t n = slice_index_or t.reads n no_read_wiring

-- the time of the task's instance, counted from 1
abbrev pub time : TaskWiring → ℕ → ℕ
time t n = slice_index_or t.times (n - 1) 0

-- a link from a writer of this rank to a reader of that one keeps the writer from a slot
abbrev pub counts_link : Count → ℕ → ℕ → Bool
counts_link All writer reader = true
counts_link Ranked writer reader = nat_lt writer reader

abbrev pub is_counted : Wiring → ℕ → Bool
is_counted w k = counts_link w.count (wired_task w (link w k).writer).rank (wired_task w (link w k).reader).rank
