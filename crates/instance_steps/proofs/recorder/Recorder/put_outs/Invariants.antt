use Rattle.std.proofs.Common.{◌≡◌, ◌+◌, ◌≤◌, length}
use Rattle.dbp_rules.specs.Moves.{put_place}
use Rattle.dbp_rules.specs.Lookups.{task}
use Rattle.instance_steps.specs.Events.{put_events}
use Rattle.instance_steps.specs.Recorders.{state_in, steps_in, table_in}
use Rattle.instance_steps.specs.TaskPieces.{AddsPiece}
use Rattle.instance_steps.proofs.Ends.{outs_of}
use Rattle.instance_steps.proofs.recorder.Recorder.put_outs.Given as goal

abbrev pub invariant-loop-port : goal.invariant-loop-port
invariant-loop-port l = record {
  piece : AddsPiece l.initial.self l.self (put_events l.task l.port) l.task (task (state_in l.initial.self) l.task).part.ended (put_place (outs_of l.initial.self l.task) l.port);
  size : length (steps_in l.self) ≤ length (steps_in l.initial.self) + l.port;
  table : table_in l.self ≡ table_in l.initial.self;
}
