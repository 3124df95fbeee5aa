use Rattle.std.proofs.Common.{arith, ◌+◌, refl}
use Rattle.dbp_plan.proofs.PlanRules as rules
use Rattle.virtual_time.proofs.Running.{advanced}
use Rattle.virtual_time.proofs.run.Run.advance.Goals as goal

pub overflow_add-self : goal.overflow_add-self
overflow_add-self g c =
    let (run, (until, bounded)) = c.requires in
    omega (arith, bounded, run.below, rules.few_batches c.args.plan.now)

pub returns-clause-run : goal.returns-clause-run
returns-clause-run g c =
    let (run, (until, bounded)) = c.requires in
    let r = c.args.self.now in
    advanced c.args.plan.now g.cpus r run _ (r.time + c.args.ticks) until bounded refl refl refl refl refl
