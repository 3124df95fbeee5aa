use Rattle.std.proofs.Common.{◌≡◌, ◌+◌, ◌≤◌, length}
use Rattle.std.specs.Prelude.{replicate}
use Rattle.dbp_rules.specs.Moves.{hear_place}
use Rattle.dbp_rules.specs.Lookups.{task, wired_task}
use Rattle.dbp_rules.specs.declared.step.Step.TheVariants.{Hear}
use Rattle.instance_steps.specs.Events.{step_of}
use Rattle.instance_steps.specs.Recorders.{state_in, steps_in, table_in, wiring_in}
use Rattle.instance_steps.specs.TaskPieces.{AddsPiece}
use Rattle.instance_steps.proofs.recorder.Recorder.hear_orders.Given as goal

abbrev pub invariant-loop : goal.invariant-loop
invariant-loop l = record {
  piece : AddsPiece l.initial.self l.self (replicate l.counter (step_of (Hear l.task))) l.task (task (state_in l.initial.self) l.task).part.ended (hear_place (wired_task (wiring_in l.initial.self) l.task) l.counter);
  size : length (steps_in l.self) ≤ length (steps_in l.initial.self) + l.counter;
  table : table_in l.self ≡ table_in l.initial.self;
}
