use Rattle.std.proofs.Common.{arith, ◌≡◌, ◌<◌, length, refl, sym, ap, subst}
use Rattle.dbp_plan.specs.declared.plan.Plan.{Plan}
use Rattle.release_list.specs.Releases.{links_into}
use Rattle.release_list.proofs.IntoLinks.{into_few}
use Rattle.dbp_rules.specs.declared.step.Count.TheVariants.{Ranked}
use Rattle.dbp_rules.specs.declared.wiring.Wiring.{Wiring}
use Rattle.instance_steps.specs.Recorders.{state_in}
use Rattle.instance_steps.specs.TaskPieces.{MayStep}
use Rattle.instance_steps.proofs.Adding.{still_kept}
use Rattle.virtual_time.proofs.Recordings.{recorded_length}
use Rattle.virtual_sim.proofs.FirstServed.{first_small}
use Rattle.virtual_sim.proofs.Serving.{began, begins_first, events_few, gate_open, is_idle, may}
use Rattle.virtual_sim.proofs.simulation.Simulation.begin.Goals as goal

pub begin_instance-requires : goal.begin_instance-requires
begin_instance-requires c =
    let p = c.args.plan.now in
    let s = c.args.self.now in
    let h = c.requires.simulation in
    let i = c.args.task in
    let first = c.requires.first in
    let none : c.args.served ≡ 0 = omega (arith, c.if-served-gt0.false) in
    let small = first_small p s.run h.run i first in
    let links = p.rules.ranked.closed.links in
    record {
      task = subst (λ (q : Plan). i < length q.diagram.tasks) (sym h.recorded.plan) small;
      free = subst (λ (w : Wiring). MayStep w (state_in s.recorder) i) (sym h.recorded.wiring) (may p s h i c.args.served first c.requires.served c.requires.until (state_in s.recorder) h.recorded.ended h.recorded.aimed);
      idle = is_idle p s h i c.args.served first c.requires.served none;
      gate = gate_open p s h i c.args.served first c.requires.served;
      room =
          let few = events_few p s h in
          let long = recorded_length p Ranked _ _ _ _ s.recorder h.recorded in
          let into = into_few p.diagram.links i (length p.diagram.links) in
          let same = ap (λ (q : Plan). length (links_into q.diagram.links i)) h.recorded.plan in
          omega (arith, few, long, into, same, links);
    }

pub returns-then-served-gt0 : goal.returns-then-served-gt0
returns-then-served-gt0 c = record {
  run = refl;
  recorded = began c.args.plan.now c.args.self.now c.requires.simulation c.args.task c.args.served c.requires.first c.requires.served (omega (arith, c.if-served-gt0.true));
  keeps = refl;
}

pub returns : goal.returns
returns c = record {
  run = refl;
  recorded = begins_first c.args.plan.now c.args.self.now c.requires.simulation c.args.task c.args.served c.requires.first c.requires.served c.begin_instance.new.self (omega (arith, c.if-served-gt0.false))
      c.in_ok-begin_instance.ensures.piece c.in_ok-begin_instance.ensures.table;
  keeps = still_kept _ _ _ c.in_ok-begin_instance.ensures.piece.steps;
}
