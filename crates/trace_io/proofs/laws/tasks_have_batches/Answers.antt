use Rattle.trace_io.proofs.TaskBatches.{task-batches}
use Rattle.trace_io.proofs.laws.tasks_have_batches.Goals as goal

pub returns : goal.returns
returns c = task-batches
