use Rattle.std.proofs.Common.{arith, ◌≡◌, ◌<◌, ◌∙◌, length, sym, ap, subst, length-append}
use Rattle.dbp_plan.specs.declared.plan.Plan.{Plan}
use Rattle.dbp_plan.specs.Lookups.{declared_task}
use Rattle.rank_order.specs.ServiceOf.{service}
use Rattle.dbp_rules.specs.Lookups.{task}
use Rattle.dbp_rules.specs.declared.step.Count.TheVariants.{Ranked}
use Rattle.dbp_rules.specs.declared.wiring.Wiring.{Wiring}
use Rattle.instance_steps.specs.Recorders.{state_in}
use Rattle.instance_steps.specs.TaskPieces.{MayStep, place_after}
use Rattle.instance_steps.proofs.Adding.{still_kept}
use Rattle.virtual_time.specs.Pieces.{begin_events_at}
use Rattle.virtual_sim.specs.Record.{events_so_far}
use Rattle.virtual_time.proofs.Budgets.{begin_few}
use Rattle.dbp_plan.proofs.PlanRules.{closed_task}
use Rattle.virtual_time.proofs.Recordings.{recorded_length, with_here}
use Rattle.virtual_sim.proofs.FirstServed.{first_small}
use Rattle.virtual_sim.proofs.Serving.{events_few, may, reads_first}
use Rattle.virtual_sim.proofs.simulation.Simulation.make_steps.Goals as goal

pub make_reads-requires : goal.make_reads-requires
make_reads-requires c =
    let p = c.args.plan.now in
    let s = c.args.self.now in
    let h = c.requires.simulation in
    let i = c.args.task in
    let first = c.requires.first in
    let r = c.begin.new.self.recorder in
    let g = c.in_ok-begin.ensures.recorded in
    let small = first_small p s.run h.run i first in
    record {
      task = subst (λ (q : Plan). i < length q.diagram.tasks) (sym g.plan) small;
      free = subst (λ (w : Wiring). MayStep w (state_in r) i) (sym g.wiring) (may p s h i c.args.served first c.requires.served c.requires.until (state_in r) g.ended g.aimed);
      place = subst (λ (q : Plan). (task (state_in r) i).part.place ≡ place_after q i c.args.served) (sym g.plan) (g.place i small ∙ with_here p s.run.rest.items i (place_after p i c.args.served));
      rows = λ all. absurd (cc (all, ap (λ (w : Wiring). w.count) g.wiring));
      room =
          let few = events_few p s h in
          let long = recorded_length p Ranked _ _ _ _ r g in
          let begin = begin_few p i c.args.served in
          let all = length-append (events_so_far p (service p) s.run.released s.run.time) (begin_events_at p i c.args.served) in
          let reads = (closed_task p i small).reads in
          let same = ap (λ (q : Plan). length (declared_task q i).reads) g.plan in
          omega (arith, few, long, begin, all, reads, same);
    }

pub returns : goal.returns
returns c = record {
  run = c.in_ok-begin.ensures.run;
  recorded = reads_first c.args.plan.now c.args.self.now c.requires.simulation c.args.task c.args.served c.requires.first c.requires.served c.begin.new.self.recorder c.make_reads.new.self
      c.in_ok-begin.ensures.recorded c.in_ok-make_reads.ensures.piece c.in_ok-make_reads.ensures.table;
  keeps = still_kept _ _ _ c.in_ok-make_reads.ensures.piece.steps ∙ c.in_ok-begin.ensures.keeps;
}
