use Rattle.std.proofs.Common.{arith, ◌<◌, length, sym, ap, subst}
use Rattle.dbp_plan.specs.declared.plan.Plan.{Plan}
use Rattle.release_list.specs.Releases.{links_into}
use Rattle.release_list.proofs.IntoLinks.{into_few}
use Rattle.dbp_rules.specs.declared.step.Count.TheVariants.{All}
use Rattle.dbp_rules.specs.declared.wiring.Wiring.{Wiring}
use Rattle.instance_steps.specs.Recorders.{state_in}
use Rattle.instance_steps.specs.TaskPieces.{MayStep}
use Rattle.virtual_time.specs.declared.run.Run.{Run}
use Rattle.virtual_time.proofs.Recordings.{recorded_length}
use Rattle.cpu_sim.specs.Simulations.{served_before}
use Rattle.cpu_sim.proofs.Stages.{began, begins, gate_open, is_idle, may_step, room_before, task_small}
use Rattle.cpu_sim.proofs.simulation.Simulation.begin.Goals as goal

pub begin_instance-requires : goal.begin_instance-requires
begin_instance-requires c =
    let p = c.args.plan.now in
    let s = c.args.self.now in
    let n = c.requires.next in
    let h = n.stepped in
    let i = c.args.task in
    let small = task_small p n.first n.choices n.cpu s h i n.next in
    let links = p.rules.ranked.closed.links in
    record {
      task = subst (λ (q : Plan). i < length q.diagram.tasks) (sym h.recorded.plan) small;
      free = subst (λ (w : Wiring). MayStep w (state_in s.recorder) i) (sym h.recorded.wiring) (may_step p (state_in s.recorder) i);
      idle = is_idle p n.first n.choices n.cpu s h i n.next (omega (arith, c.if-served-gt0.false, c.requires.served, ap (λ (r : Run). served_before p r i) h.run));
      gate = gate_open p n.first n.choices n.cpu s h i n.next;
      room =
          let few = room_before p n.first n.choices n.cpu s h i n.next in
          let long = recorded_length p All _ _ _ _ s.recorder h.recorded in
          let into = into_few p.diagram.links i (length p.diagram.links) in
          let same = ap (λ (q : Plan). length (links_into q.diagram.links i)) h.recorded.plan in
          omega (arith, few, long, into, same, links);
    }

pub returns-then-served-gt0-clause-begun : goal.returns-then-served-gt0-clause-begun
returns-then-served-gt0-clause-begun c = λ first chosen cpu h next.
    began c.args.plan.now first chosen cpu c.args.self.now h c.args.task next (omega (arith, c.if-served-gt0.true, c.requires.served, ap (λ (r : Run). served_before c.args.plan.now r c.args.task) h.run))

pub returns-clause-begun : goal.returns-clause-begun
returns-clause-begun c = λ first chosen cpu h next.
    begins c.args.plan.now first chosen cpu c.args.self.now h c.args.task next c.begin_instance.new.self
    (omega (arith, c.if-served-gt0.false, c.requires.served, ap (λ (r : Run). served_before c.args.plan.now r c.args.task) h.run))
    c.in_ok-begin_instance.ensures.piece c.in_ok-begin_instance.ensures.table
