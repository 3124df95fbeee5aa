-- Seats that have made no step.
use Rattle.std.specs.Prelude.{◌≡◌, ℕ, List, length, slice_get, Some}
use Rattle.dbp_rules.specs.Start.{first_part, start_of}
use Rattle.word_rule.specs.Plays.{seats_split}
use Rattle.word_rule.specs.Seats.{ReleaserSits, TaskSits, releaser_steps, task_steps}
use Rattle.word_rule.specs.declared.seats.ReleaserSeat.{ReleaserSeat}
use Rattle.word_rule.specs.declared.seats.SlotWords.{SlotWords}
use Rattle.word_rule.specs.declared.seats.TaskSeat.{TaskSeat}

-- the releaser's, before its first action
pub record IsFirstReleaser (w : SlotWords) (s : ReleaserSeat) : Type 0 where
  pub here : ReleaserSits w s
  pub steps : releaser_steps s ≡ 0
  pub part : s.part ≡ (start_of w.plan w.wiring).releaser

-- that of the task i, which is idle
pub record IsFirstTask (w : SlotWords) (i : ℕ) (s : TaskSeat) : Type 0 where
  pub here : TaskSits w s
  pub task : s.task ≡ i
  pub steps : task_steps s ≡ 0
  pub part : s.part ≡ first_part

-- the seats of all tasks: the one at index i is that of task i
pub record AreFirstTasks (w : SlotWords) (seats : List TaskSeat) : Type 0 where
  pub size : length seats ≡ length w.plan.diagram.tasks
  pub each : (i : ℕ) (s : TaskSeat) → slice_get seats i ≡ Some s → IsFirstTask w i s

-- ---- while the seats are split off, which no caller sees

-- how many have been so far
abbrev pub split_off : ReleaserSeat → ℕ
split_off s = seats_split s.seat.me.0.role

-- the releaser's seat after a split
pub record KeepsReleaser (old new : ReleaserSeat) : Type 0 where
  pub table : new.seat.table_id ≡ old.seat.table_id
  pub plan : new.seat.me.0.plan ≡ old.seat.me.0.plan
  pub steps : releaser_steps new ≡ releaser_steps old
  pub part : new.part ≡ old.part
