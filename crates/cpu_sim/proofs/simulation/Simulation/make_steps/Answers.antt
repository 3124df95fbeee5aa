use Rattle.std.proofs.Common.{arith, ◌≡◌, ◌<◌, ◌-◌, ◌∙◌, ℕ, List, length, get_or, sym, ap, subst, length-append}
use Rattle.std.proofs.lemmas.List.{get_or_default, get_or_read}
use Rattle.dbp_plan.specs.declared.diagram.Task.{Task}
use Rattle.dbp_plan.specs.declared.plan.Plan.{Plan}
use Rattle.dbp_plan.specs.Lookups.{declared_task, no_declared_task}
use Rattle.dbp_plan.proofs.PlanRules.{closed_task}
use Rattle.dbp_rules.specs.Lookups.{task}
use Rattle.dbp_rules.specs.Wired.{wiring_of}
use Rattle.dbp_rules.specs.declared.step.Count.TheVariants.{All}
use Rattle.dbp_rules.specs.declared.wiring.Wiring.{Wiring}
use Rattle.instance_steps.specs.Recorders.{state_in, wiring_in}
use Rattle.instance_steps.specs.TaskPieces.{HasRowsToRead, MayStep, place_after}
use Rattle.virtual_time.specs.Pieces.{begin_events_at}
use Rattle.virtual_time.specs.declared.run.Run.{Run}
use Rattle.virtual_time.proofs.Budgets.{begin_few}
use Rattle.virtual_time.proofs.Recordings.{recorded_length}
use Rattle.cpu_sim.specs.Record.{cpu_count, events_so_far}
use Rattle.cpu_sim.specs.Services.{services}
use Rattle.cpu_sim.specs.Simulations.{served_before}
use Rattle.cpu_sim.proofs.Stages.{begun_at, has_rows, may_step, reads_made, rest_within, room_before, task_small}
use Rattle.cpu_sim.proofs.simulation.Simulation.make_steps.Goals as goal

pub bounds-items-task : goal.bounds-items-task
bounds-items-task c =
    let n = c.requires.next in
    omega (arith, task_small c.args.plan.now n.first n.choices n.cpu c.args.self.now n.stepped c.args.task n.next, ap (length {A = Task}) c.items.ensures.value)

pub index-requires : goal.index-requires
index-requires c =
    let n = c.requires.next in
    let small = task_small c.args.plan.now n.first n.choices n.cpu c.args.self.now n.stepped c.args.task n.next in
    omega (arith, small, n.stepped.event.simulation.run.at.rests, ap (λ (r : Run). length r.rest.items) n.stepped.run, c.args.self.now.run.rest.ok.0)

pub overflow_sub-served : goal.overflow_sub-served
overflow_sub-served c =
    let p = c.args.plan.now in
    let s = c.args.self.now in
    let i = c.args.task in
    let n = c.requires.next in
    let h = n.stepped in
    let first = n.first in
    let small = task_small p first n.choices n.cpu s h i n.next in
    let body = c.index-items-task.result in
    let own : body ≡ declared_task p i = c.index-items-task.is ∙ ap (λ (l : List Task). get_or l i body) c.items.ensures.value ∙ get_or_default p.diagram.tasks i body no_declared_task small in
    let rest : c.index.result.now ≡ get_or s.run.rest.items i 0 = get_or_read s.run.rest.items i c.index.result.now (let r = first.run in omega (arith, small, h.event.simulation.run.at.rests, ap (λ (r : Run). length r.rest.items) h.run)) c.index.ensures 0 in
    let yet : get_or s.run.rest.items i 0 ≡ get_or first.run.rest.items i 0 = ap (λ (r : Run). get_or r.rest.items i 0) h.run in
    let served' : body.cost - c.index.result.now ≡ served_before p first.run i = omega (arith, ap (λ (t : Task). t.cost) own, rest, yet) in
    omega (arith, rest_within p first n.choices n.cpu s h i n.next, rest, yet, ap (λ (t : Task). t.cost) own)

pub begin-requires-clause-served : goal.begin-requires-clause-served
begin-requires-clause-served c =
    let p = c.args.plan.now in
    let s = c.args.self.now in
    let i = c.args.task in
    let n = c.requires.next in
    let h = n.stepped in
    let first = n.first in
    let small = task_small p first n.choices n.cpu s h i n.next in
    let body = c.index-items-task.result in
    let own : body ≡ declared_task p i = c.index-items-task.is ∙ ap (λ (l : List Task). get_or l i body) c.items.ensures.value ∙ get_or_default p.diagram.tasks i body no_declared_task small in
    let rest : c.index.result.now ≡ get_or s.run.rest.items i 0 = get_or_read s.run.rest.items i c.index.result.now (let r = first.run in omega (arith, small, h.event.simulation.run.at.rests, ap (λ (r : Run). length r.rest.items) h.run)) c.index.ensures 0 in
    let yet : get_or s.run.rest.items i 0 ≡ get_or first.run.rest.items i 0 = ap (λ (r : Run). get_or r.rest.items i 0) h.run in
    let served : body.cost - c.index.result.now ≡ served_before p first.run i = omega (arith, ap (λ (t : Task). t.cost) own, rest, yet) in
    served ∙ sym (ap (λ (r : Run). served_before p r i) h.run)

pub make_reads-requires : goal.make_reads-requires
make_reads-requires c =
    let p = c.args.plan.now in
    let s = c.args.self.now in
    let i = c.args.task in
    let n = c.requires.next in
    let h = n.stepped in
    let first = n.first in
    let small = task_small p first n.choices n.cpu s h i n.next in
    let body = c.index-items-task.result in
    let own : body ≡ declared_task p i = c.index-items-task.is ∙ ap (λ (l : List Task). get_or l i body) c.items.ensures.value ∙ get_or_default p.diagram.tasks i body no_declared_task small in
    let rest : c.index.result.now ≡ get_or s.run.rest.items i 0 = get_or_read s.run.rest.items i c.index.result.now (let r = first.run in omega (arith, small, h.event.simulation.run.at.rests, ap (λ (r : Run). length r.rest.items) h.run)) c.index.ensures 0 in
    let yet : get_or s.run.rest.items i 0 ≡ get_or first.run.rest.items i 0 = ap (λ (r : Run). get_or r.rest.items i 0) h.run in
    let served : body.cost - c.index.result.now ≡ served_before p first.run i = omega (arith, ap (λ (t : Task). t.cost) own, rest, yet) in
    let r = c.begin.new.self.recorder in
    let g = c.in_ok-begin.ensures.begun first n.choices n.cpu h n.next in
    record {
      task = subst (λ (q : Plan). i < length q.diagram.tasks) (sym g.recorded.plan) small;
      free = subst (λ (w : Wiring). MayStep w (state_in r) i) (sym g.recorded.wiring) (may_step p (state_in r) i);
      place = subst (λ (q : Plan). (task (state_in r) i).part.place ≡ place_after q i (body.cost - c.index.result.now)) (sym g.recorded.plan)
          (begun_at p first n.choices n.cpu s h i n.next c.begin.new.self g ∙ ap (place_after p i) (sym served));
      rows = subst (λ (q : Plan). HasRowsToRead q (wiring_in r) (state_in r) i (body.cost - c.index.result.now)) (sym g.recorded.plan)
          (subst (λ (w : Wiring). HasRowsToRead p w (state_in r) i (body.cost - c.index.result.now)) (sym g.recorded.wiring)
          (subst (λ (m : ℕ). HasRowsToRead p (wiring_of p All) (state_in r) i m) (sym served) (has_rows p first n.choices n.cpu s h i n.next c.begin.new.self g)));
      room =
          let few = room_before p first n.choices n.cpu s h i n.next in
          let long = recorded_length p All _ _ _ _ r g.recorded in
          let begin = begin_few p i (served_before p first.run i) in
          let all = length-append (events_so_far p (services p) cpu_count first.run.released n.cpu first.run.time) (begin_events_at p i (served_before p first.run i)) in
          let reads = (closed_task p i small).reads in
          let same = ap (λ (q : Plan). length (declared_task q i).reads) g.recorded.plan in
          omega (arith, few, long, begin, all, reads, same);
    }

pub returns : goal.returns
returns c = record {
  stepped = λ first' chosen cpu h' next.
      let p = c.args.plan.now in
      let s = c.args.self.now in
      let i = c.args.task in
      let n = c.requires.next in
      let h = n.stepped in
      let first = n.first in
      let small = task_small p first n.choices n.cpu s h i n.next in
      let body = c.index-items-task.result in
      let own : body ≡ declared_task p i = c.index-items-task.is ∙ ap (λ (l : List Task). get_or l i body) c.items.ensures.value ∙ get_or_default p.diagram.tasks i body no_declared_task small in
      let rest : c.index.result.now ≡ get_or s.run.rest.items i 0 = get_or_read s.run.rest.items i c.index.result.now (let r = first.run in omega (arith, small, h.event.simulation.run.at.rests, ap (λ (r : Run). length r.rest.items) h.run)) c.index.ensures 0 in
      let yet : get_or s.run.rest.items i 0 ≡ get_or first.run.rest.items i 0 = ap (λ (r : Run). get_or r.rest.items i 0) h.run in
      let served : body.cost - c.index.result.now ≡ served_before p first.run i = omega (arith, ap (λ (t : Task). t.cost) own, rest, yet) in
      let now' : body.cost - c.index.result.now ≡ served_before p first'.run i = served ∙ ap (λ (r : Run). served_before p r i) (sym h.run ∙ h'.run) in
      reads_made p first' chosen cpu s h' i next c.begin.new.self (record { run = c.begin.new.self.run; recorder = c.make_reads.new.self }) (c.in_ok-begin.ensures.begun first' chosen cpu h' next) (c.in_ok-begin.ensures.run ∙ h'.run)
      (rw (sym now') c.in_ok-make_reads.ensures.piece) c.in_ok-make_reads.ensures.table;
}
