-- The parts of what holds between all steps: of the releaser's numbers, of one task, and of one link.
use Rattle.std.specs.Prelude.{◌≡◌, ◌≢◌, ℕ, ℤ, pos, ◌+◌, ◌-◌, ◌<◌, ◌≤◌, ◌⊎◌, Bool, true, false, List, length, take, slice_index_or}
use Rattle.dbp_plan.specs.declared.diagram.Read.{Read}
use Rattle.dbp_plan.specs.declared.plan.Plan.{Plan}
use Rattle.dbp_plan.specs.Occurrences.{time_of}
use Rattle.dbp_plan.specs.Lookups.{declared_task, no_read}
use Rattle.release_list.specs.Schedule.{claims, seen_by}
use Rattle.sync_meaning.specs.SomeMeaningRows.{states_at, value_at}
use Rattle.dbp_rules.specs.Moves.{heard_order, claim_order}
use Rattle.dbp_rules.specs.Lookups.{is_counted, link, read_at, slot_at, wired_task}
use Rattle.dbp_rules.specs.Shapes.{link_in}
use Rattle.dbp_rules.specs.declared.parts.LinkEntry.{LinkEntry}
use Rattle.dbp_rules.specs.declared.parts.Order.{Order}
use Rattle.dbp_rules.specs.declared.parts.Place.{Place}
use Rattle.dbp_rules.specs.declared.parts.Place.TheVariants.{Idle, Hear, Look, Take, Shut, Put, Done, End}
use Rattle.dbp_rules.specs.declared.parts.TaskEntry.{TaskEntry}
use Rattle.dbp_rules.specs.declared.state.TaskState.{TaskState}
use Rattle.dbp_rules.specs.declared.wiring.Wiring.{Wiring}

-- ---- how far a task has come in its instance

-- 1 if its slot is stamped with the new row, and 1 if its slot is shut and the row is computed
abbrev pub filled_by : Place → ℕ
filled_by Idle = 0
filled_by (Hear n) = 0
filled_by (Look n) = 0
filled_by (Take n) = 0
filled_by Shut = 0
filled_by (Put n) = 0
filled_by Done = 0
filled_by End = 1

abbrev pub shut_by : Place → ℕ
shut_by Idle = 0
shut_by (Hear n) = 0
shut_by (Look n) = 0
shut_by (Take n) = 0
shut_by Shut = 0
shut_by (Put n) = 1
shut_by Done = 1
shut_by End = 1

-- how many of so many reads are taken, and how many of so many outs are put
abbrev pub taken_by : ℕ → Place → ℕ
taken_by all Idle = 0
taken_by all (Hear n) = 0
taken_by all (Look n) = n
taken_by all (Take n) = n
taken_by all Shut = all
taken_by all (Put n) = all
taken_by all Done = all
taken_by all End = all

abbrev pub put_by : ℕ → Place → ℕ
put_by all Idle = 0
put_by all (Hear n) = 0
put_by all (Look n) = 0
put_by all (Take n) = 0
put_by all Shut = 0
put_by all (Put n) = n
put_by all Done = all
put_by all End = all

-- the number of the last row that the task has stamped, and of the last one that it has computed
abbrev pub last_filled : TaskState → ℕ
last_filled t = t.part.ended + filled_by t.part.place

abbrev pub last_shut : TaskState → ℕ
last_shut t = t.part.ended + shut_by t.part.place

-- ---- reads

-- the read whose turn this is
abbrev pub read_of : Plan → Wiring → ℕ → ℕ → Read
read_of p w i n = slice_index_or (declared_task p i).reads (read_at (wired_task w i) n).read no_read

-- the place of its word among those that the task computes with
abbrev pub place_of_read : Plan → Wiring → ℕ → ℕ → ℕ
place_of_read p w i n = length (declared_task p i).states + length (declared_task p i).senses + (read_at (wired_task w i) n).read

-- the word that the meaning gives the read in the instance
abbrev pub meant_value : Plan → (ℕ → ℕ → List ℤ) → ℕ → ℕ → Read → ℤ
meant_value p rows i n r = value_at p.diagram p.samples p.batches rows (time_of p.batches i n) r

-- ---- the parts

-- a link's last claim, with the word that orders it: it is for the reader's last claimed instance, and has the number
-- of the row that this instance is to read
pub record ClaimSound (p : Plan) (w : Wiring) (place k : ℕ) (c : LinkEntry) (o : Order) : Type 0 where
  pub instance : c.instance ≡ claims w.releases place k
  pub number : c.number ≡ seen_by w.links p.batches k c.instance - (link w k).delay
  pub order : o ≡ claim_order c

-- a task, with what the releaser knows of it; row n of task i is `rows i n`
pub record TaskSound (p : Plan) (w : Wiring) (rows : ℕ → ℕ → List ℤ) (i : ℕ) (e : TaskEntry) (t : TaskState) : Type 0 where
  -- no more is known to have ended than has; the task knows how many have; at most one instance more is aimed than is known to have ended
  pub known : e.known ≤ t.words.ended
  pub ended : t.words.ended ≡ t.part.ended
  pub aimed : e.aimed ≤ e.known + 1
  -- the aim is the last one, and so is the one that the task has heard
  pub aim : t.words.aim ≡ record { slot = e.current; number = e.aimed }
  pub heard : 0 < length t.part.heard.items → heard_order t.part 0 ≡ t.words.aim
  -- a slot that has a stamp holds a row that is filled, and it holds the row that the stamp says
  pub whole : (n l : ℕ) → n < (wired_task w i).slots → (slot_at t.words.slots n).stamp ≡ l + 1 → (l ≤ last_filled t) × ((slot_at t.words.slots n).words ≡ rows i l)
  -- the current slot: it holds the last aimed row if this is filled; while it is being filled it has no stamp, and the outs put so far are those of the next row
  pub filled : e.aimed ≤ last_filled t → (slot_at t.words.slots e.current).stamp ≡ e.aimed + 1
  pub filling : last_filled t < last_shut t → (slot_at t.words.slots e.current).stamp ≡ 0
  pub put : (port : ℕ) → port < put_by (wired_task w i).ports t.part.place → slice_index_or (slot_at t.words.slots e.current).words port (pos 0) ≡ slice_index_or (rows i (t.part.ended + 1)) port (pos 0)
  -- the kept slots hold the rows before, the latest first, and row 0 if there are fewer; they aren't the current one once there is an aim
  pub kept : (j : ℕ) → j < (wired_task w i).kept → (slot_at t.words.slots (slice_index_or e.kept j 0)).stamp ≡ e.aimed - (j + 1) + 1
  pub kept_apart : 0 < e.aimed → (j : ℕ) → j < (wired_task w i).kept → slice_index_or e.kept j 0 ≢ e.current
  -- the states are those before the instance, the words taken are those of the meaning, the row is the last computed one
  pub states : take (length (declared_task p i).states) t.work.now ≡ states_at p.diagram p.samples p.batches rows i (declared_task p i) t.part.ended
  pub taken : (n : ℕ) → n < taken_by (length (wired_task w i).reads) t.part.place → slice_index_or t.work.now (place_of_read p w i n) (pos 0) ≡ meant_value p rows i (t.part.ended + 1) (read_of p w i n)
  pub row : t.work.row ≡ rows i (last_shut t)
  pub later : 0 < shut_by t.part.place → t.work.later ≡ states_at p.diagram p.samples p.batches rows i (declared_task p i) (t.part.ended + 1)

-- up to which instance of the reader a claim no longer stands: if the link is counted the last one known to have ended, else the last one that has
abbrev pub last_passed : Bool → ℕ → ℕ → ℕ
last_passed true known ended = known
last_passed false known ended = ended

-- the claim stands: its instance hasn't ended, or, if the link is counted, isn't known to have
abbrev pub Stands : Wiring → ℕ → LinkEntry → TaskEntry → TaskState → Type 0
Stands w k c e reader = last_passed (is_counted w k) e.known reader.words.ended < c.instance

-- a link's last claim, with its writer and its reader, and what the releaser knows of the two
pub record LinkSound (p : Plan) (w : Wiring) (k : ℕ) (c : LinkEntry) (v : TaskEntry) (writer : TaskState) (e : TaskEntry) (reader : TaskState) : Type 0 where
  -- while the claim stands its slot holds the claimed row, or it is the current one and this row is to come
  pub holds : Stands w k c e reader → ((slot_at writer.words.slots c.slot).stamp ≡ c.number + 1) ⊎ ((c.slot ≡ v.current) × (c.number ≡ v.aimed) × (last_filled writer < c.number))
  -- a claim that stands on the current slot is for the row that this slot is to hold; if the link isn't counted it may be for an earlier one,
  -- as long as the writer hasn't shut the slot: the reader was then released before the writer's last aimed instance
  pub current : Stands w k c e reader → c.slot ≡ v.current → (c.number ≡ v.aimed) ⊎ ((is_counted w k ≡ false) × (last_shut writer < v.aimed) × (seen_by w.links p.batches k c.instance < v.aimed))
  -- what the reader has heard over the link is the claim
  pub heard : (j : ℕ) → j + 1 < length reader.part.heard.items → link_in (wired_task w (link w k).reader) j ≡ k → heard_order reader.part (j + 1) ≡ claim_order c
  -- if the reader is to take a word over the link, the claimed row is there
  pub ready : (n : ℕ) → reader.part.place ≡ Take n → (read_of p w (link w k).reader n).link ≡ k → (slot_at writer.words.slots c.slot).stamp ≡ c.number + 1
