-- What holds between all steps, whichever party steps next, in ten parts: those of docs/PROTOCOL.md, in its order.
-- `Sound` says the same record by record; row n of task i is `rows i n` throughout.
use Rattle.std.specs.Prelude.{◌≡◌, ◌≢◌, ℕ, ℤ, pos, ◌+◌, ◌-◌, ◌<◌, ◌≤◌, ◌⊎◌, false, List, length, take, slice_index_or}
use Rattle.dbp_plan.specs.declared.plan.Plan.{Plan}
use Rattle.dbp_plan.specs.Closed.{place_count}
use Rattle.dbp_plan.specs.Occurrences.{time_of}
use Rattle.dbp_plan.specs.Lookups.{declared_task}
use Rattle.release_list.specs.Schedule.{aims, claims, opens, seen_by}
use Rattle.sync_meaning.specs.SomeMeaningRows.{states_at}
use Rattle.dbp_rules.specs.Moves.{heard_order, claim_order}
use Rattle.dbp_rules.specs.Lookups.{is_counted, link, link_entry, order, slot_at, task, task_entry, wired_task}
use Rattle.dbp_rules.specs.Rules.{order_word}
use Rattle.dbp_rules.specs.Shapes.{PlaceIn, SlotsFit, heard_by, running_count}
use Rattle.dbp_rules.specs.SoundParts.{Stands, last_filled, last_shut, meant_value, place_of_read, put_by, read_of, shut_by, taken_by}
use Rattle.dbp_rules.specs.declared.parts.Place.TheVariants.{Take}
use Rattle.dbp_rules.specs.declared.parts.TaskEntry.{TaskEntry}
use Rattle.dbp_rules.specs.declared.state.Slot.{Slot}
use Rattle.dbp_rules.specs.declared.state.State.{State}
use Rattle.dbp_rules.specs.declared.state.TaskState.{TaskState}
use Rattle.dbp_rules.specs.declared.wiring.Wiring.{Wiring}

-- ---- claims

-- the last claim over the link stands: its instance hasn't ended, or, if the link is counted, isn't known to have
abbrev pub IsStanding : Wiring → State → ℕ → Type 0
IsStanding w s k = Stands w k (link_entry s k) (task_entry s (link w k).reader) (task s (link w k).reader)

-- the slot that it names, and whether this is the writer's current one
abbrev pub slot_of_claim : Wiring → State → ℕ → Slot
slot_of_claim w s k = slot_at (task s (link w k).writer).words.slots (link_entry s k).slot

abbrev pub IsOnCurrent : Wiring → State → ℕ → Type 0
IsOnCurrent w s k = (link_entry s k).slot ≡ (task_entry s (link w k).writer).current

-- the number of the writer's last aimed instance, of the last row that it has stamped, and of the last one that it has computed
abbrev pub writer_aimed : Wiring → State → ℕ → ℕ
writer_aimed w s k = (task_entry s (link w k).writer).aimed

abbrev pub writer_filled : Wiring → State → ℕ → ℕ
writer_filled w s k = last_filled (task s (link w k).writer)

abbrev pub writer_shut : Wiring → State → ℕ → ℕ
writer_shut w s k = last_shut (task s (link w k).writer)

-- the reader's claimed instance was released before the writer's last aimed one
abbrev pub IsReleasedBefore : Plan → Wiring → State → ℕ → Type 0
IsReleasedBefore p w s k = time_of p.batches (link w k).reader (link_entry s k).instance < time_of p.batches (link w k).writer (writer_aimed w s k)

-- ---- the parts

-- 1. What is there: a task's place is one of its places and says how many orders its instance has heard, each slot has a
-- word for each port, and what the task computes with has its lengths.
pub record TaskIsThere (p : Plan) (w : Wiring) (i : ℕ) (t : TaskState) : Type 0 where
  pub place : PlaceIn (wired_task w i) t.part.place
  pub heard : length t.part.heard.items ≡ heard_by (1 + length (wired_task w i).links) t.part.place
  pub slots : SlotsFit (wired_task w i) t.words.slots
  pub now : length t.work.now ≡ place_count (declared_task p i)
  pub later : length t.work.later ≡ length (declared_task p i).states
  pub row : length t.work.row ≡ length (declared_task p i).outs

pub record WhatIsThere (p : Plan) (w : Wiring) (s : State) : Type 0 where
  pub entries : length s.releaser.tasks ≡ length w.tasks
  pub claims : length s.releaser.links ≡ length w.links
  pub tasks : length s.tasks ≡ length w.tasks
  pub orders : length s.orders ≡ length w.links
  pub each_task : (i : ℕ) → i < length w.tasks → TaskIsThere p w i (task s i)

-- 2. The releaser's numbers are those of its place: how many instances are aimed, claimed and opened. A claim has the
-- number of the row that its instance is to read. The order words, aims and claims, say what the releaser's part says.
pub record NumbersOfThePlace (p : Plan) (w : Wiring) (s : State) : Type 0 where
  pub place : s.releaser.place ≤ length w.releases
  pub aimed : (i : ℕ) → i < length w.tasks → (task_entry s i).aimed ≡ aims w.releases s.releaser.place i
  pub opened : (i : ℕ) → i < length w.tasks → (task s i).words.gate ≡ opens w.releases s.releaser.place i
  pub claimed : (k : ℕ) → k < length w.links → (link_entry s k).instance ≡ claims w.releases s.releaser.place k
  pub number : (k : ℕ) → k < length w.links → (link_entry s k).number ≡ seen_by w.links p.batches k (link_entry s k).instance - (link w k).delay
  pub aim : (i : ℕ) → i < length w.tasks → (task s i).words.aim ≡ record { slot = (task_entry s i).current; number = (task_entry s i).aimed }
  pub order : (k : ℕ) → k < length w.links → order s k ≡ claim_order (link_entry s k)

-- 3. A task's numbers are a chain: known to have ended, ended, opened, aimed, and at most one more aimed than is known to
-- have ended. A running instance is the opened one, and has heard the order words as they are now.
pub record TaskChain (w : Wiring) (s : State) (i : ℕ) (e : TaskEntry) (t : TaskState) : Type 0 where
  pub known : e.known ≤ t.words.ended
  pub ended : t.words.ended ≤ t.words.gate
  pub gate : t.words.gate ≤ e.aimed
  pub aimed : e.aimed ≤ e.known + 1
  pub own : t.words.ended ≡ t.part.ended
  pub running : running_count t.part.place ≡ 1 → t.words.gate ≡ t.part.ended + 1
  pub heard : (j : ℕ) → j < length t.part.heard.items → heard_order t.part j ≡ order_word w s i j

abbrev pub Chain : Wiring → State → Type 0
Chain w s = (i : ℕ) → i < length w.tasks → TaskChain w s i (task_entry s i) (task s i)

-- 4. The slots that the releaser knows are the tasks' slots: the current ones, as many kept ones as the longest delay of
-- the links that leave the task, and the claimed ones.
pub record SlotsAreThere (w : Wiring) (s : State) : Type 0 where
  pub current : (i : ℕ) → i < length w.tasks → (task_entry s i).current < (wired_task w i).slots
  pub kept : (i : ℕ) → i < length w.tasks → length (task_entry s i).kept ≡ (wired_task w i).kept
  pub kept_slots : (i j : ℕ) → i < length w.tasks → j < (wired_task w i).kept → slice_index_or (task_entry s i).kept j 0 < (wired_task w i).slots
  pub claimed : (k : ℕ) → k < length w.links → (link_entry s k).slot < (wired_task w (link w k).writer).slots

-- 5. A stamp says what is there: 0, or one more than the number of a row that is filled (its instance is done, or it is
-- row 0), and the slot holds this row.
abbrev pub StampsTell : Wiring → (ℕ → ℕ → List ℤ) → State → Type 0
StampsTell w rows s = (i n l : ℕ) → i < length w.tasks → n < (wired_task w i).slots → (slot_at (task s i).words.slots n).stamp ≡ l + 1
    → (l ≤ last_filled (task s i)) × ((slot_at (task s i).words.slots n).words ≡ rows i l)

-- 6. The current slot holds the last aimed row if this is filled. From the shut to the done its stamp is 0, and the
-- outs put so far are those of the next row.
pub record CurrentSlot (w : Wiring) (rows : ℕ → ℕ → List ℤ) (i : ℕ) (e : TaskEntry) (t : TaskState) : Type 0 where
  pub filled : e.aimed ≤ last_filled t → (slot_at t.words.slots e.current).stamp ≡ e.aimed + 1
  pub filling : last_filled t < last_shut t → (slot_at t.words.slots e.current).stamp ≡ 0
  pub put : (port : ℕ) → port < put_by (wired_task w i).ports t.part.place → slice_index_or (slot_at t.words.slots e.current).words port (pos 0) ≡ slice_index_or (rows i (t.part.ended + 1)) port (pos 0)

abbrev pub CurrentSlots : Wiring → (ℕ → ℕ → List ℤ) → State → Type 0
CurrentSlots w rows s = (i : ℕ) → i < length w.tasks → CurrentSlot w rows i (task_entry s i) (task s i)

-- 7. The kept slots hold the rows before the last aimed one, the latest first, and row 0 if there are fewer. Once an
-- instance is aimed none of them is the current slot.
pub record KeptSlots (w : Wiring) (s : State) : Type 0 where
  pub stamp : (i j : ℕ) → i < length w.tasks → j < (wired_task w i).kept → (slot_at (task s i).words.slots (slice_index_or (task_entry s i).kept j 0)).stamp ≡ (task_entry s i).aimed - (j + 1) + 1
  pub apart : (i j : ℕ) → i < length w.tasks → j < (wired_task w i).kept → 0 < (task_entry s i).aimed → slice_index_or (task_entry s i).kept j 0 ≢ (task_entry s i).current

-- 8. A claim that stands finds its row: its slot holds it, or is the current one, which is to hold it and doesn't yet.
abbrev pub ClaimsFind : Wiring → State → Type 0
ClaimsFind w s = (k : ℕ) → k < length w.links → IsStanding w s k
    → ((slot_of_claim w s k).stamp ≡ (link_entry s k).number + 1) ⊎ (IsOnCurrent w s k × ((link_entry s k).number ≡ writer_aimed w s k) × (writer_filled w s k < (link_entry s k).number))

-- 9. A claim that stands on the current slot is for the row that this slot is to hold. Over a link that isn't counted it
-- may be for an earlier one, as long as the writer's last aimed instance hasn't shut the slot, and the reader's was
-- released before it.
abbrev pub ClaimsOnCurrent : Plan → Wiring → State → Type 0
ClaimsOnCurrent p w s = (k : ℕ) → k < length w.links → IsStanding w s k → IsOnCurrent w s k
    → ((link_entry s k).number ≡ writer_aimed w s k) ⊎ ((is_counted w k ≡ false) × (writer_shut w s k < writer_aimed w s k) × IsReleasedBefore p w s k)

-- 10. What a task computes with is the meaning's: its states are those before its instance, the words that it took those
-- of its reads, its row that of its last computed instance, and from its shut on its next states those after it. If
-- it is about to take, the claimed slot holds the claimed row.
pub record TaskWork (p : Plan) (w : Wiring) (rows : ℕ → ℕ → List ℤ) (s : State) (i : ℕ) (t : TaskState) : Type 0 where
  pub states : take (length (declared_task p i).states) t.work.now ≡ states_at p.diagram p.samples p.batches rows i (declared_task p i) t.part.ended
  pub taken : (n : ℕ) → n < taken_by (length (wired_task w i).reads) t.part.place → slice_index_or t.work.now (place_of_read p w i n) (pos 0) ≡ meant_value p rows i (t.part.ended + 1) (read_of p w i n)
  pub ready : (n : ℕ) → t.part.place ≡ Take n → (slot_of_claim w s (read_of p w i n).link).stamp ≡ (link_entry s (read_of p w i n).link).number + 1
  pub row : t.work.row ≡ rows i (last_shut t)
  pub later : 0 < shut_by t.part.place → t.work.later ≡ states_at p.diagram p.samples p.batches rows i (declared_task p i) (t.part.ended + 1)

abbrev pub Works : Plan → Wiring → (ℕ → ℕ → List ℤ) → State → Type 0
Works p w rows s = (i : ℕ) → i < length w.tasks → TaskWork p w rows s i (task s i)

-- ---- all of them

pub record HoldsInTenParts (p : Plan) (w : Wiring) (rows : ℕ → ℕ → List ℤ) (s : State) : Type 0 where
  pub there : WhatIsThere p w s
  pub numbers : NumbersOfThePlace p w s
  pub chain : Chain w s
  pub slots : SlotsAreThere w s
  pub stamps : StampsTell w rows s
  pub current : CurrentSlots w rows s
  pub kept : KeptSlots w s
  pub claims : ClaimsFind w s
  pub on_current : ClaimsOnCurrent p w s
  pub work : Works p w rows s
