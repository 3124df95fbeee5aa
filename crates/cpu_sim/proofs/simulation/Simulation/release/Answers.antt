use Rattle.std.proofs.Common.{arith, ◌<◌, ◌≤◌, ◌+◌, ◌*◌, length, sym, ap, subst}
use Rattle.std.proofs.Math.Nat.{mul-le-mul_left}
use Rattle.dbp_plan.specs.declared.plan.Plan.{Plan}
use Rattle.dbp_rules.specs.declared.step.Count.TheVariants.{All}
use Rattle.instance_steps.specs.Recorders.{state_in}
use Rattle.instance_steps.specs.Releases.{HasEnded, HasReleased, batch_at}
use Rattle.instance_steps.proofs.Adding.{still_kept}
use Rattle.virtual_time.proofs.Recordings.{recorded_length}
use Rattle.virtual_time.proofs.Whole.{batch_few}
use Rattle.cpu_sim.specs.Choices.{all_cpus_at}
use Rattle.cpu_sim.proofs.Between.{batch_ended, renews}
use Rattle.cpu_sim.proofs.Finals.{on-waiting}
use Rattle.cpu_sim.proofs.Stages.{most_few}
use Rattle.cpu_sim.proofs.simulation.Simulation.release.Goals as goal

pub overrun-requires : goal.overrun-requires
overrun-requires c =
    (c.requires.simulation.run, (on-waiting c.args.plan.now, (c.requires.more, c.requires.due)))

pub release_batch-requires : goal.release_batch-requires
release_batch-requires c =
    let p = c.args.plan.now in
    let s = c.args.self.now in
    let h = c.requires.simulation in
    let b = s.run.released in
    record {
      batch = subst (λ (q : Plan). b < length q.batches) (sym h.recorded.plan) c.requires.more;
      released = subst (λ (q : Plan). HasReleased q (state_in s.recorder) b) (sym h.recorded.plan) h.recorded.released;
      ended = subst (λ (q : Plan). HasEnded (state_in s.recorder) (batch_at q b)) (sym h.recorded.plan) (batch_ended p s h c.requires.more c.in_default.ensures.overrun);
      room =
          let few = most_few p (all_cpus_at p s.run.time) s.run h.run in
          let long = recorded_length p All _ _ _ _ s.recorder h.recorded in
          let tasks = batch_few p b c.requires.more in
          let links = p.rules.ranked.closed.links in
          let most : length (batch_at p b).tasks * (length p.diagram.links + 3) ≤ length (batch_at p b).tasks * 131 = mul-le-mul_left (length (batch_at p b).tasks) (omega (arith, links)) in
          let same = ap (λ (q : Plan). length (batch_at q b).tasks * (length q.diagram.links + 3)) h.recorded.plan in
          omega (arith, few, h.few, long, tasks, most, same);
    }

pub renew-requires : goal.renew-requires
renew-requires c =
    let p = c.args.plan.now in
    (c.requires.simulation.run, (on-waiting p, (c.requires.more, (c.requires.due, c.in_default.ensures.overrun))))

pub returns-clause-outcome : goal.returns-clause-outcome
returns-clause-outcome c =
    let p = c.args.plan.now in
    let s = c.args.self.now in (
      renews p s _ c.requires.simulation c.requires.more c.requires.due c.in_default.ensures.overrun c.renew.ensures.run c.renew.ensures.time c.renew.ensures.released c.renew.ensures.rest c.renew.ensures.ends
          c.in-Ok.ensures.steps c.in-Ok.ensures.state c.in-Ok.ensures.table,
      c.renew.ensures.released,
      still_kept _ _ _ c.in-Ok.ensures.steps,
    )
