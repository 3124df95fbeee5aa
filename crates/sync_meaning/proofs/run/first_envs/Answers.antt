use Rattle.dbp_plan.specs.declared.diagram.Task.{Task}
use Rattle.dbp_plan.specs.ListItems.{read_place}
use Rattle.sync_meaning.specs.declared.env.Env.{Env}
use Rattle.sync_meaning.specs.Shape.{IsEnvOf}
use Rattle.sync_meaning.proofs.Tables.{env_first, env_fits, envs_more, firsts_more}
use Rattle.sync_meaning.proofs.run.first_envs.Goals as goal

pub loop-task-preserved : goal.loop-task-preserved
loop-task-preserved c =
    let t : Task = c.task-item.result in
    let e : Env = c.in_ok-env_of.field-0 in
    let is : IsEnvOf t e = env_fits t e c.in_ok-env_of.ensures.now c.in_ok-env_of.ensures.later in
    let at = read_place c.args.tasks.now c.loop-task.task-index t c.loop-task-test.true c.task-item.is in
    record {
      envs = rw c.in_ok-push.ensures.items (envs_more c.loop-task.task-index t e c.args.tasks.now c.loop-task.envs.items at is c.loop-task.invariant.envs);
      states = rw c.in_ok-push.ensures.items (firsts_more c.loop-task.task-index t e c.args.tasks.now c.loop-task.envs.items at (env_first t e c.in_ok-env_of.ensures.now) c.loop-task.invariant.envs.size c.loop-task.invariant.states);
    }
