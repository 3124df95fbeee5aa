use Rattle.std.proofs.Common.{take}
use Rattle.sync_meaning.specs.Shape.{HasEnvs, HasFirstStates}
use Rattle.sync_meaning.proofs.run.first_envs.Given as goal

abbrev pub invariant-loop-task : goal.invariant-loop-task
invariant-loop-task l = record {
  envs : HasEnvs (take l.task-index l.tasks) l.envs.items;
  states : HasFirstStates (take l.task-index l.tasks) l.envs.items;
}
