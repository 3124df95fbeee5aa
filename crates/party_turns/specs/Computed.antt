-- What a task has computed at its place: all that it holds is what the meaning of the plan gives there.
use Rattle.std.specs.Prelude.{◌≡◌, ℕ, pos, ◌+◌, ◌<◌, ◌≤◌, length, take, slice_index_or}
use Rattle.dbp_plan.specs.declared.plan.Plan.{Plan}
use Rattle.dbp_plan.specs.declared.table.TaskRows.{TaskRows}
use Rattle.dbp_plan.specs.Closed.{place_count}
use Rattle.dbp_plan.specs.Lookups.{declared_task}
use Rattle.dbp_plan.specs.Occurrences.{times_of}
use Rattle.dbp_plan.specs.Table.{HasRowsOf, row_at}
use Rattle.sync_meaning.specs.SomeMeaningRows.{states_at}
use Rattle.dbp_rules.specs.Lookups.{wired_task}
use Rattle.dbp_rules.specs.SoundParts.{meant_value, place_of_read, read_of, shut_by, taken_by}
use Rattle.dbp_rules.specs.Work.{WorkWords}
use Rattle.dbp_rules.specs.declared.parts.TaskPart.{TaskPart}
use Rattle.word_rule.specs.Roles.{meaning_row, run_wiring}
use Rattle.word_rule.specs.declared.seats.TaskSeat.{TaskSeat}

-- the plan of the seat's table
abbrev pub plan_of_task : TaskSeat → Plan
plan_of_task s = s.seat.me.0.plan

-- the number of the last row that the task has computed: that of its running instance once it has shut its slot
abbrev pub last_computed : TaskPart → ℕ
last_computed t = t.ended + shut_by t.place

-- What it computes with: the states before its instance, the words of the reads that it has taken in it, and once it
-- has shut its slot the states after it; and the last row that it has computed.
pub record HasMeantValues (p : Plan) (i : ℕ) (t : TaskPart) (work : WorkWords) : Type 0 where
  pub now : length work.now ≡ place_count (declared_task p i)
  pub next : length work.later ≡ length (declared_task p i).states
  pub states : take (length (declared_task p i).states) work.now ≡ states_at p.diagram p.samples p.batches (meaning_row p) i (declared_task p i) t.ended
  pub taken : (n : ℕ) → n < taken_by (length (wired_task (run_wiring p) i).reads) t.place → slice_index_or work.now (place_of_read p (run_wiring p) i n) (pos 0) ≡ meant_value p (meaning_row p) i (t.ended + 1) (read_of p (run_wiring p) i n)
  pub later : 0 < shut_by t.place → work.later ≡ states_at p.diagram p.samples p.batches (meaning_row p) i (declared_task p i) (t.ended + 1)
  pub row : work.row ≡ meaning_row p i (last_computed t)

-- Its rows: there is room for one of each occurrence and for the first one, and those up to the last one are the meaning's.
pub record HasMeantRows (p : Plan) (i last : ℕ) (rows : TaskRows) : Type 0 where
  pub room : HasRowsOf (length (declared_task p i).outs) (length (times_of p.batches i)) rows
  pub each : (n : ℕ) → n ≤ last → row_at rows n ≡ meaning_row p i n

pub record HasComputed (p : Plan) (i : ℕ) (t : TaskPart) (work : WorkWords) (made : TaskRows) : Type 0 where
  pub words : HasMeantValues p i t work
  pub rows : HasMeantRows p i (last_computed t) made
