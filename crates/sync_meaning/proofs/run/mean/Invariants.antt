use Rattle.std.proofs.Common.{length, take}
use Rattle.sync_meaning.specs.Run.{HasStreams, IsRun}
use Rattle.sync_meaning.specs.Shape.{AreCounted}
use Rattle.sync_meaning.proofs.ExactRuns.{IsReadyFrom}
use Rattle.sync_meaning.proofs.run.mean.Given as goal

abbrev pub invariant-loop-batch : goal.invariant-loop-batch
invariant-loop-batch l = record {
  run : IsRun l.plan.diagram (length l.plan.diagram.tasks) l.run;
  counted : AreCounted (take l.batch-index l.plan.batches) l.run.named.items;
  ready : IsReadyFrom l.batch-index l.plan.diagram l.plan.samples l.plan.batches l.run.inputs.taken l.run.inputs.values.items;
  streams : HasStreams l.plan.diagram l.plan.samples l.plan.batches l.run;
}
