use Rattle.std.proofs.Common.{arith, ℕ, ◌<◌, ◌∙◌, length, refl, sym, ap, subst}
use Rattle.instance_steps.specs.Releases.{batch_at}
use Rattle.virtual_time.specs.State.{NoBatchBefore}
use Rattle.virtual_time.proofs.Running.{all_idle, until_next}
use Rattle.cpu_sim.specs.Choices.{all_cpus_at}
use Rattle.cpu_sim.proofs.Between.{idles}
use Rattle.cpu_sim.proofs.simulation.Simulation.serve_until_batch.Goals as goal

pub wait-requires : goal.wait-requires
wait-requires c =
    let inv = c.loop-self.invariant in
    (inv.simulation.run, (omega (arith, c.requires.more, inv.released), (omega (arith, c.loop-self-test.true, inv.limit), c.in_default.ensures)))

pub returns-in_default-clause-simulation : goal.returns-in_default-clause-simulation
returns-in_default-clause-simulation c =
    let p = c.args.plan.now in
    let s = c.loop-self.self in
    let inv = c.loop-self.invariant in
    let more : s.run.released < length p.batches = omega (arith, c.requires.more, inv.released) in
    idles p s _ inv.simulation _ (until_next p s.run.released more) (omega (arith, c.loop-self-test.true, inv.limit)) (all_idle p (all_cpus_at p s.run.time) s.run inv.simulation.run c.in_default.ensures)
    c.wait.ensures.run c.wait.ensures.time c.wait.ensures.released c.wait.ensures.rest c.wait.ensures.ends refl

pub serve-requires : goal.serve-requires
serve-requires c =
    let p = c.args.plan.now in
    let s = c.loop-self.self in
    let inv = c.loop-self.invariant in
    let more : s.run.released < length p.batches = omega (arith, c.requires.more, inv.released) in
    record {
      simulation = inv.simulation;
      some = (c.in-Some.field-0, c.in-Some.ensures.release, c.in-Some.ensures.held);
      until = subst (λ (t : ℕ). NoBatchBefore p s.run.released t) (sym inv.limit) (until_next p s.run.released more);
      ahead = c.loop-self-test.true;
    }

pub loop-self-preserved : goal.loop-self-preserved
loop-self-preserved c = record {
  simulation = c.in_ok-serve.ensures.simulation;
  limit = c.loop-self.invariant.limit ∙ ap (λ (b : ℕ). (batch_at c.args.plan.now b).time) (sym c.in_ok-serve.ensures.released);
  released = c.in_ok-serve.ensures.released ∙ c.loop-self.invariant.released;
  in_time = c.in_ok-serve.ensures.limit;
  keeps = c.in_ok-serve.ensures.keeps ∙ c.loop-self.invariant.keeps;
}
