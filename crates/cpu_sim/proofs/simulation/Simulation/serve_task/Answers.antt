use Rattle.std.proofs.Common.{arith, ◌≡◌, ◌<◌, ◌+◌, ◌∙◌, ℕ, length, get_or, refl, sym, ap, subst}
use Rattle.std.proofs.lemmas.List.{get_or_read}
use Rattle.dbp_plan.specs.declared.plan.Plan.{Plan}
use Rattle.dbp_plan.specs.Lookups.{declared_task}
use Rattle.dbp_plan.proofs.PlanRules.{closed_task}
use Rattle.dbp_rules.specs.declared.step.Count.TheVariants.{All}
use Rattle.dbp_rules.specs.declared.wiring.Wiring.{Wiring}
use Rattle.instance_steps.specs.EndedRows.{HasEndedRows}
use Rattle.instance_steps.specs.Recorders.{state_in, table_in}
use Rattle.instance_steps.specs.TaskPieces.{MayStep}
use Rattle.virtual_time.specs.Runs.{IsRun, IsServedFor}
use Rattle.virtual_time.proofs.Recordings.{recorded_length}
use Rattle.cpu_sim.specs.Choices.{cpus_at}
use Rattle.cpu_sim.specs.Simulations.{times_below}
use Rattle.cpu_sim.proofs.ServedStages.{finishes, fits, goes_next, is_shut, now_at, pauses, rest_yet, room_here, run_after, run_here, served_here, small_there}
use Rattle.cpu_sim.proofs.Stages.{may_step}
use Rattle.cpu_sim.proofs.simulation.Simulation.serve_task.Goals as goal

pub index-requires : goal.index-requires
index-requires c =
    let n = c.requires.next in
    let small = small_there c.args.plan.now n.first n.choices c.args.ticks n.cpu c.args.self.now n.served c.args.task n.next in
    omega (arith, small, n.served.run.at.rests, c.args.self.now.run.rest.ok.0)

pub pause-requires : goal.pause-requires
pause-requires c =
    let p = c.args.plan.now in
    let s = c.args.self.now in
    let i = c.args.task in
    let d = c.args.ticks in
    let n = c.requires.next in
    let h = n.served in
    let small = small_there p n.first n.choices d n.cpu s h i n.next in
    let rest : c.index.result.now ≡ get_or s.run.rest.items i 0 = get_or_read s.run.rest.items i c.index.result.now (omega (arith, small, h.run.at.rests)) c.index.ensures 0 in
    let yet = rest_yet p n.first n.choices d n.cpu s h i n.next in
    let fit = fits p n.first n.choices d n.cpu s h i n.next in
    (run_here p n.first n.choices d n.cpu s h i n.next, (small, (served_here p n.first n.choices d n.cpu s h i n.next, omega (arith, rest, c.if-ticks-index.true))))

pub end_instance-requires : goal.end_instance-requires
end_instance-requires c =
    let p = c.args.plan.now in
    let s = c.args.self.now in
    let i = c.args.task in
    let d = c.args.ticks in
    let n = c.requires.next in
    let h = n.served in
    let small = small_there p n.first n.choices d n.cpu s h i n.next in
    let rest : c.index.result.now ≡ get_or s.run.rest.items i 0 = get_or_read s.run.rest.items i c.index.result.now (omega (arith, small, h.run.at.rests)) c.index.ensures 0 in
    let yet = rest_yet p n.first n.choices d n.cpu s h i n.next in
    let fit = fits p n.first n.choices d n.cpu s h i n.next in
    let r = s.recorder in
    let g = h.recorded in
    record {
      task = subst (λ (q : Plan). i < length q.diagram.tasks) (sym g.plan) small;
      free = subst (λ (w : Wiring). MayStep w (state_in r) i) (sym g.wiring) (may_step p (state_in r) i);
      place = is_shut p n.first n.choices d n.cpu s h i n.next (omega (arith, rest, yet, fit, c.if-ticks-index.false));
      rows = subst (λ (q : Plan). HasEndedRows q (state_in r) (table_in r)) (sym g.plan) g.rows;
      room =
          let few = room_here p n.first n.choices d n.cpu s h i n.next in
          let long = recorded_length p All _ _ _ _ r g in
          let outs = (closed_task p i small).outs.1 in
          let same = ap (λ (q : Plan). length (declared_task q i).outs) g.plan in
          omega (arith, few, long, outs, same);
    }

pub finish-requires : goal.finish-requires
finish-requires c =
    let p = c.args.plan.now in
    let s = c.args.self.now in
    let i = c.args.task in
    let d = c.args.ticks in
    let n = c.requires.next in
    let h = n.served in
    let small = small_there p n.first n.choices d n.cpu s h i n.next in
    let rest : c.index.result.now ≡ get_or s.run.rest.items i 0 = get_or_read s.run.rest.items i c.index.result.now (omega (arith, small, h.run.at.rests)) c.index.ensures 0 in
    let yet = rest_yet p n.first n.choices d n.cpu s h i n.next in
    let fit = fits p n.first n.choices d n.cpu s h i n.next in
    let all : d ≡ get_or s.run.rest.items i 0 = omega (arith, rest, yet, fit, c.if-ticks-index.false) in
    let cpu = (declared_task p i).cpu in (
      subst (λ (m : ℕ). IsRun p (cpus_at p (times_below cpu s.run.time m)) s.run) all (run_here p n.first n.choices d n.cpu s h i n.next),
      (
        small,
        (
          omega (arith, all, h.jump.some),
          (
            now_at cpu s.run.time (get_or s.run.rest.items i 0) cpu (omega arith),
            subst (λ (m : ℕ). IsServedFor p (cpus_at p (times_below cpu s.run.time m)) s.run i m) all (served_here p n.first n.choices d n.cpu s h i n.next),
          ),
        ),
      ),
    )

pub returns-then-ticks-index : goal.returns-then-ticks-index
returns-then-ticks-index c = record {
  served = λ first chosen cpu h' next.
      let p = c.args.plan.now in
      let s = c.args.self.now in
      let i = c.args.task in
      let d = c.args.ticks in
      let n = c.requires.next in
      let h = n.served in
      let small = small_there p n.first n.choices d n.cpu s h i n.next in
      let rest : c.index.result.now ≡ get_or s.run.rest.items i 0 = get_or_read s.run.rest.items i c.index.result.now (omega (arith, small, h.run.at.rests)) c.index.ensures 0 in
      let yet = rest_yet p n.first n.choices d n.cpu s h i n.next in
      let fit = fits p n.first n.choices d n.cpu s h i n.next in
      let run = c.pause.ensures.run (times_below ((declared_task p i).cpu + 1) s.run.time d) (goes_next p (declared_task p i).cpu s.run.time d) in
      pauses p first chosen d cpu s h' i next (record { run = c.pause.new.self; recorder = s.recorder }) (omega (arith, rest, rest_yet p first chosen d cpu s h' i next, c.if-ticks-index.true))
      (run_after p first chosen d cpu s h' i next c.pause.new.self run) c.pause.ensures.time c.pause.ensures.released c.pause.ensures.rest c.pause.ensures.ends refl;
}

pub returns : goal.returns
returns c = record {
  served = λ first chosen cpu h' next.
      let p = c.args.plan.now in
      let s = c.args.self.now in
      let i = c.args.task in
      let d = c.args.ticks in
      let n = c.requires.next in
      let h = n.served in
      let small = small_there p n.first n.choices d n.cpu s h i n.next in
      let rest : c.index.result.now ≡ get_or s.run.rest.items i 0 = get_or_read s.run.rest.items i c.index.result.now (omega (arith, small, h.run.at.rests)) c.index.ensures 0 in
      let yet = rest_yet p n.first n.choices d n.cpu s h i n.next in
      let fit = fits p n.first n.choices d n.cpu s h i n.next in
      let all : d ≡ get_or s.run.rest.items i 0 = omega (arith, rest, yet, fit, c.if-ticks-index.false) in
      let run = c.in_ok-finish.ensures.run (times_below ((declared_task p i).cpu + 1) s.run.time (get_or s.run.rest.items i 0)) (goes_next p (declared_task p i).cpu s.run.time (get_or s.run.rest.items i 0)) in
      finishes p first chosen d cpu s h' i next (record { run = c.finish.new.self; recorder = c.end_instance.new.self }) (all ∙ rest_yet p first chosen d cpu s h' i next)
      (run_after p first chosen d cpu s h' i next c.finish.new.self (subst (λ (m : ℕ). IsRun p (cpus_at p (times_below ((declared_task p i).cpu + 1) s.run.time m)) c.finish.new.self) (sym all) run))
      c.in_ok-finish.ensures.time c.in_ok-finish.ensures.released c.in_ok-finish.ensures.rest (s.run.time + get_or s.run.rest.items i 0) c.in_ok-finish.ensures.ends
      c.in_ok-end_instance.ensures.piece c.in_ok-end_instance.ensures.rows;
}
