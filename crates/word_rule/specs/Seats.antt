-- What ties a seat to its table, and a step to its seat.
use Rattle.std.specs.Prelude.{◌≡◌, ℕ, ◌+◌}
use Rattle.word_rule.specs.declared.seats.ReleaserSeat.{ReleaserSeat}
use Rattle.word_rule.specs.declared.seats.SlotWords.{SlotWords}
use Rattle.word_rule.specs.declared.seats.TaskSeat.{TaskSeat}

-- the seat belongs to these words
abbrev pub ReleaserSits : SlotWords → ReleaserSeat → Type 0
ReleaserSits w s = (s.seat.table_id ≡ w.table.shared.table_id) × (s.seat.me.0.plan ≡ w.plan)

abbrev pub TaskSits : SlotWords → TaskSeat → Type 0
TaskSits w s = (s.seat.table_id ≡ w.table.shared.table_id) × (s.seat.me.0.plan ≡ w.plan)

-- how many atomic steps the seat has made
abbrev pub releaser_steps : ReleaserSeat → ℕ
releaser_steps s = s.seat.me.0.steps

abbrev pub task_steps : TaskSeat → ℕ
task_steps s = s.seat.me.0.steps

-- the same seat of the same words, one atomic step later
pub record ReleaserSteps (old new : ReleaserSeat) : Type 0 where
  pub table : new.seat.table_id ≡ old.seat.table_id
  pub seat : new.seat.id ≡ old.seat.id
  pub plan : new.seat.me.0.plan ≡ old.seat.me.0.plan
  pub steps : releaser_steps new ≡ releaser_steps old + 1

pub record TaskSteps (old new : TaskSeat) : Type 0 where
  pub table : new.seat.table_id ≡ old.seat.table_id
  pub seat : new.seat.id ≡ old.seat.id
  pub plan : new.seat.me.0.plan ≡ old.seat.me.0.plan
  pub task : new.task ≡ old.task
  pub steps : task_steps new ≡ task_steps old + 1
