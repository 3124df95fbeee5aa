use Rattle.std.proofs.Common.{◌≡◌, ◌+◌, ◌≤◌, length}
use Rattle.instance_steps.specs.Recorders.{state_in, steps_in, table_in}
use Rattle.instance_steps.proofs.OpenedGates.{HasOpened}
use Rattle.instance_steps.proofs.recorder.Recorder.open_gates.Given as goal

abbrev pub invariant-loop-n : goal.invariant-loop-n
invariant-loop-n l = record {
  adds : HasOpened l.initial.self l.number l.self l.n;
  entries : (state_in l.self).releaser.tasks ≡ (state_in l.initial.self).releaser.tasks;
  size : length (steps_in l.self) ≤ length (steps_in l.initial.self) + l.n;
  table : table_in l.self ≡ table_in l.initial.self;
}
