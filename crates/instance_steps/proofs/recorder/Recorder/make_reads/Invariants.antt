use Rattle.std.proofs.Common.{◌≡◌, ◌+◌, ◌*◌, ◌≤◌, length}
use Rattle.instance_steps.specs.Recorders.{steps_in, table_in}
use Rattle.instance_steps.proofs.MadeReads.{HasRead}
use Rattle.instance_steps.proofs.recorder.Recorder.make_reads.Given as goal

abbrev pub invariant-loop-read : goal.invariant-loop-read
invariant-loop-read l = record {
  piece : HasRead l.initial.self l.task l.served l.self l.read;
  size : length (steps_in l.self) ≤ length (steps_in l.initial.self) + 2 * l.read;
  table : table_in l.self ≡ table_in l.initial.self;
}
