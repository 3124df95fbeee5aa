use Rattle.std.proofs.Common.{◌≡◌, ◌+◌, ◌*◌, ◌≤◌, length}
use Rattle.instance_steps.specs.Recorders.{steps_in, table_in}
use Rattle.instance_steps.proofs.AimedTasks.{HasAimed, KeepsEntries}
use Rattle.instance_steps.proofs.recorder.Recorder.aim_tasks.Given as goal

abbrev pub invariant-loop-n : goal.invariant-loop-n
invariant-loop-n l = record {
  adds : HasAimed l.initial.self l.number l.self l.n;
  keeps : KeepsEntries l.initial.self l.number l.self l.n;
  size : length (steps_in l.self) ≤ length (steps_in l.initial.self) + 2 * l.n;
  table : table_in l.self ≡ table_in l.initial.self;
}
