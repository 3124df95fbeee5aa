use Rattle.std.proofs.Common.{◌≡◌}
use Rattle.instance_steps.specs.Releases.{batch_at}
use Rattle.virtual_time.proofs.Renewing.{Renewing}
use Rattle.virtual_time.proofs.run.Run.renew.Given as goal

abbrev pub invariant-loop-task : goal.invariant-loop-task
invariant-loop-task g l = record {
  renewing : Renewing l.plan (batch_at l.plan l.fn.self.released).tasks l.task-index l.fn.self.time l.fn.self.rest.items l.self.rest.items l.fn.self.ready l.self.ready;
  time : l.self.time ≡ l.fn.self.time;
  released : l.self.released ≡ l.fn.self.released;
  ends : l.self.ends ≡ l.fn.self.ends;
}
