-- What the code needs of a wiring and of a state: what is named is there, and numbers fit.
use Rattle.std.specs.Prelude.{◌≡◌, ℕ, zero, suc, ◌+◌, ◌<◌, ◌≤◌, ◌^◌, List, length, slice_get, slice_index_or, Some}
use Rattle.dbp_plan.specs.declared.diagram.Task.{Task}
use Rattle.dbp_plan.specs.declared.limits.TheConstants.{MAX_OCCURRENCES, MAX_READS}
use Rattle.dbp_plan.specs.declared.plan.Plan.{Plan}
use Rattle.dbp_plan.specs.declared.schedule.Sample.{Sample}
use Rattle.dbp_plan.specs.Closed.{IsClosedTask, place_count}
use Rattle.dbp_plan.specs.Occurrences.{times_of}
use Rattle.dbp_plan.specs.Lookups.{declared_task}
use Rattle.dbp_plan.specs.Samples.{own_samples}
use Rattle.release_list.specs.Schedule.{IsSchedule, aims}
use Rattle.dbp_rules.specs.Moves.{heard_order}
use Rattle.dbp_rules.specs.Lookups.{link, link_entry, order, read_at, slot_at, task, task_entry, wired_task}
use Rattle.dbp_rules.specs.Wired.{links_at}
use Rattle.dbp_rules.specs.declared.parts.LinkEntry.{LinkEntry}
use Rattle.dbp_rules.specs.declared.parts.Order.{Order}
use Rattle.dbp_rules.specs.declared.parts.Place.{Place}
use Rattle.dbp_rules.specs.declared.parts.Place.TheVariants.{Idle, Hear, Look, Take, Shut, Put, Done, End}
use Rattle.dbp_rules.specs.declared.parts.TaskEntry.{TaskEntry}
use Rattle.dbp_rules.specs.declared.state.Slot.{Slot}
use Rattle.dbp_rules.specs.declared.state.State.{State}
use Rattle.dbp_rules.specs.declared.state.TaskState.{TaskState}
use Rattle.dbp_rules.specs.declared.wiring.LinkEnd.TheVariants.{Writer}
use Rattle.dbp_rules.specs.declared.wiring.ReadWiring.{ReadWiring}
use Rattle.dbp_rules.specs.declared.wiring.TaskWiring.{TaskWiring}
use Rattle.dbp_rules.specs.declared.wiring.Wiring.{Wiring}

-- ---- of a wiring

-- the samples of each input, in order
pub record HasSamples (p : Plan) (samples : List (List Sample)) : Type 0 where
  pub size : length samples ≡ length p.diagram.inputs
  pub each : (x : ℕ) (own : List Sample) → slice_get samples x ≡ Some own → own ≡ own_samples x p.samples

-- the link at a place of those into the task
abbrev pub link_in : TaskWiring → ℕ → ℕ
link_in t n = slice_index_or t.links n 0

-- the task whose slot the order at this place names: the task itself, then the writer of each link
abbrev pub slot_owner : Wiring → ℕ → ℕ → ℕ
slot_owner w i zero = i
slot_owner w i (suc n) = (link w (link_in (wired_task w i) n)).writer

-- a read's order is one that its task hears over a link, and its port is one of the writer's
pub record IsReadWired (w : Wiring) (reads i : ℕ) (r : ReadWiring) : Type 0 where
  pub read : r.read < reads
  pub order : r.order < 1 + length (wired_task w i).links
  pub owner : r.writer ≡ slot_owner w i r.order
  pub writer : r.writer < length w.tasks
  pub port : r.port < (wired_task w r.writer).ports

-- the wiring of a task is that of the plan, and what it names is there
pub record IsTaskWired (p : Plan) (w : Wiring) (i : ℕ) (t : TaskWiring) : Type 0 where
  pub closed : IsClosedTask (length p.diagram.inputs) (length p.diagram.events) (length p.diagram.links) (declared_task p i)
  pub times : t.times ≡ times_of p.batches i
  pub few : length t.times ≤ MAX_OCCURRENCES
  pub ports : t.ports ≡ length (declared_task p i).outs
  pub some_port : 0 < t.ports
  pub some_slot : 0 < t.slots
  pub links : length t.links ≤ MAX_READS
  pub into : (n : ℕ) → n < length t.links → link_in t n < length w.links
  pub leaving : t.leaving ≡ links_at Writer w.links i
  pub reads : length t.reads ≡ length (declared_task p i).reads
  pub each_read : (n : ℕ) → n < length t.reads → IsReadWired w (length (declared_task p i).reads) i (read_at t n)

-- the wiring is whole
pub record IsWired (p : Plan) (w : Wiring) : Type 0 where
  pub tasks : length w.tasks ≡ length p.diagram.tasks
  pub links : w.links ≡ p.diagram.links
  pub writer : (k : ℕ) → k < length w.links → (link w k).writer < length w.tasks
  pub reader : (k : ℕ) → k < length w.links → (link w k).reader < length w.tasks
  pub delay : (k : ℕ) → k < length w.links → (link w k).delay ≤ (wired_task w (link w k).writer).kept
  pub each_task : (i : ℕ) → i < length w.tasks → IsTaskWired p w i (wired_task w i)
  pub samples : HasSamples p w.samples
  pub releases : IsSchedule p.diagram p.batches w.releases
  pub few_releases : length w.releases + 1 < 2 ^ 32

-- ---- of a state

-- the number of an order, a turn or a port at a place
abbrev pub place_number : Place → ℕ
place_number Idle = 0
place_number (Hear n) = n
place_number (Look n) = n
place_number (Take n) = n
place_number Shut = 0
place_number (Put p) = p
place_number Done = 0
place_number End = 0

-- how many of them the task has there
abbrev pub place_count_at : TaskWiring → Place → ℕ
place_count_at t Idle = 1
place_count_at t (Hear n) = 1 + length t.links
place_count_at t (Look n) = length t.reads
place_count_at t (Take n) = length t.reads
place_count_at t Shut = 1
place_count_at t (Put p) = t.ports
place_count_at t Done = 1
place_count_at t End = 1

-- the task has this place
abbrev pub PlaceIn : TaskWiring → Place → Type 0
PlaceIn t q = place_number q < place_count_at t q

-- 1 if the task has started an instance that hasn't ended
abbrev pub running_count : Place → ℕ
running_count Idle = 0
running_count (Hear n) = 1
running_count (Look n) = 1
running_count (Take n) = 1
running_count Shut = 1
running_count (Put p) = 1
running_count Done = 1
running_count End = 1

-- how many of so many orders are heard
abbrev pub heard_by : ℕ → Place → ℕ
heard_by all Idle = 0
heard_by all (Hear n) = n
heard_by all (Look n) = all
heard_by all (Take n) = all
heard_by all Shut = all
heard_by all (Put p) = all
heard_by all Done = all
heard_by all End = all

-- the order names a slot of the task, and the number of an instance
abbrev pub OrderFits : TaskWiring → Order → Type 0
OrderFits t o = (o.slot < t.slots) × (o.number ≤ MAX_OCCURRENCES)

-- each slot has its ports
abbrev pub SlotsFit : TaskWiring → List Slot → Type 0
SlotsFit t slots = (length slots ≡ t.slots) × ((n : ℕ) → n < t.slots → length (slot_at slots n).words ≡ t.ports)

-- the releaser's slots of a task are among its slots
pub record EntryShape (t : TaskWiring) (e : TaskEntry) : Type 0 where
  pub current : e.current < t.slots
  pub kept : length e.kept ≡ t.kept
  pub kept_slots : (j : ℕ) → j < t.kept → slice_index_or e.kept j 0 < t.slots

-- the task's last aimed instance is this one
pub record TaskShape (w : Wiring) (d : Task) (i last : ℕ) (s : TaskState) : Type 0 where
  pub gate : s.part.ended + running_count s.part.place ≤ s.words.gate
  pub aimed : s.words.gate ≤ last
  pub aim : OrderFits (wired_task w i) s.words.aim
  pub slots : SlotsFit (wired_task w i) s.words.slots
  pub place : PlaceIn (wired_task w i) s.part.place
  pub heard : length s.part.heard.items ≡ heard_by (1 + length (wired_task w i).links) s.part.place
  pub each_heard : (n : ℕ) → n < length s.part.heard.items → OrderFits (wired_task w (slot_owner w i n)) (heard_order s.part n)
  pub now : length s.work.now ≡ place_count d
  pub later : length s.work.later ≡ length d.states
  pub row : length s.work.row ≡ length d.outs

-- what is claimed over the link, and the word that orders it, are of its writer
pub record LinkShape (w : Wiring) (k : ℕ) (c : LinkEntry) (o : Order) : Type 0 where
  pub claim : (c.slot < (wired_task w (link w k).writer).slots) × (c.number ≤ MAX_OCCURRENCES)
  pub order : OrderFits (wired_task w (link w k).writer) o

-- the wiring and the state are whole
pub record IsShape (p : Plan) (w : Wiring) (s : State) : Type 0 where
  pub wiring : IsWired p w
  pub entries : length s.releaser.tasks ≡ length w.tasks
  pub claims : length s.releaser.links ≡ length w.links
  pub tasks : length s.tasks ≡ length w.tasks
  pub orders : length s.orders ≡ length w.links
  pub aimed : (i : ℕ) → i < length w.tasks → (task_entry s i).aimed ≡ aims w.releases s.releaser.place i
  pub each_entry : (i : ℕ) → i < length w.tasks → EntryShape (wired_task w i) (task_entry s i)
  pub each_task : (i : ℕ) → i < length w.tasks → TaskShape w (declared_task p i) i (task_entry s i).aimed (task s i)
  pub each_link : (k : ℕ) → k < length w.links → LinkShape w k (link_entry s k) (order s k)
