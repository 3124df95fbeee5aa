use Rattle.std.proofs.Common.{◌≡◌, length}
use Rattle.std.specs.Prelude.{ℕ, slice_get, Some}
use Rattle.word_rule.specs.FirstSeats.{IsFirstReleaser, IsFirstTask, split_off}
use Rattle.word_rule.specs.declared.seats.TaskSeat.{TaskSeat}
use Rattle.word_rule.proofs.seats.SlotWords.split_seats.Given as goal

abbrev pub invariant-loop-task : goal.invariant-loop-task
invariant-loop-task l = record {
  size : length l.seats ≡ l.task;
  each : (i : ℕ) (s : TaskSeat) → slice_get l.seats i ≡ Some s → IsFirstTask l.self i s;
  releaser : IsFirstReleaser l.self l.seat;
  next : split_off l.seat ≡ l.task;
}
