use Rattle.std.proofs.Common.{◌≡◌}
use Rattle.sync_meaning.specs.Run.{HasStreams, IsAtTime, IsRun}
use Rattle.sync_meaning.proofs.run.Run.compute_due.Given as goal

abbrev pub invariant-loop-task : goal.invariant-loop-task
invariant-loop-task l = record {
  run : IsRun l.plan.diagram l.task-index l.self;
  named : l.self.named.items ≡ l.initial.self.named.items;
  inputs : l.self.inputs ≡ l.initial.self.inputs;
  time : IsAtTime l.plan.diagram l.plan.samples l.plan.batches l.self;
  streams : HasStreams l.plan.diagram l.plan.samples l.plan.batches l.self;
}
