use Rattle.std.proofs.Common.{arith, ℕ, ◌≡◌, ◌<◌, ◌+◌, ◌-◌, ◌++◌, ◌∷◌, [], ◌∙◌, length, get_or, set, refl, sym, ap, subst, length-append}
use Rattle.std.proofs.lemmas.List.{get_or_read}
use Rattle.dbp_plan.specs.declared.diagram.Task.{Task}
use Rattle.dbp_plan.specs.declared.plan.Plan.{Plan}
use Rattle.dbp_plan.specs.Lookups.{declared_task}
use Rattle.rank_order.specs.ServiceOf.{service}
use Rattle.dbp_rules.specs.declared.step.Count.TheVariants.{Ranked}
use Rattle.dbp_rules.specs.declared.wiring.Wiring.{Wiring}
use Rattle.instance_steps.specs.EndedRows.{HasEndedRows}
use Rattle.instance_steps.specs.Events.{read_events}
use Rattle.instance_steps.specs.Recorders.{state_in, table_in}
use Rattle.instance_steps.specs.TaskPieces.{MayStep}
use Rattle.instance_steps.proofs.Adding.{still_kept}
use Rattle.virtual_time.specs.Pieces.{begin_events_at}
use Rattle.virtual_sim.specs.Record.{events_so_far}
use Rattle.virtual_time.specs.Runs.{IsRun, IsServedFor}
use Rattle.virtual_time.specs.declared.run.Run.{Run}
use Rattle.virtual_time.proofs.Budgets.{begin_few, reads_few}
use Rattle.dbp_plan.proofs.PlanRules.{closed_task}
use Rattle.virtual_time.proofs.Recordings.{recorded_length}
use Rattle.virtual_time.proofs.Running.{sooner}
use Rattle.virtual_sim.specs.Simulations.{one_processor}
use Rattle.virtual_sim.proofs.FirstServed.{all_go_on, first_small, may_advance, served_for}
use Rattle.virtual_sim.proofs.Serving.{body_is, events_few, finishes, is_shut, may, no_sooner_in, of_first, pauses}
use Rattle.virtual_sim.proofs.simulation.Simulation.serve.Goals as goal

pub bounds-items-task : goal.bounds-items-task
bounds-items-task c =
    let small = first_small c.args.plan.now c.args.self.now.run c.requires.simulation.run c.args.task c.requires.first in
    omega (arith, small, ap (length {A = Task}) c.items.ensures.value)

pub index-rest-requires : goal.index-rest-requires
index-rest-requires c =
    let small = first_small c.args.plan.now c.args.self.now.run c.requires.simulation.run c.args.task c.requires.first in
    omega (arith, small, c.requires.simulation.run.at.rests, c.args.self.now.run.rest.ok.0)

pub overflow_sub-served : goal.overflow_sub-served
overflow_sub-served c =
    let p = c.args.plan.now in
    let s = c.args.self.now in
    let h = c.requires.simulation in
    let i = c.args.task in
    let t = c.index-items-task.result in
    let rest = c.index-rest.result.now in
    let small = first_small p s.run h.run i c.requires.first in
    let own = body_is p c.items.result.now i t c.items.ensures.value small c.index-items-task.is in
    let f = of_first p s h i c.requires.first t.cost rest (ap (λ (u : Task). u.cost) own) (get_or_read s.run.rest.items i rest (omega (arith, small, h.run.at.rests)) c.index-rest.ensures 0) in
    omega (arith, f.within)

pub ticks_to_event-requires : goal.ticks_to_event-requires
ticks_to_event-requires c =
    let p = c.args.plan.now in
    let s = c.args.self.now in
    let h = c.requires.simulation in
    let i = c.args.task in
    let t = c.index-items-task.result in
    let rest = c.index-rest.result.now in
    let small = first_small p s.run h.run i c.requires.first in
    let own = body_is p c.items.result.now i t c.items.ensures.value small c.index-items-task.is in
    let f = of_first p s h i c.requires.first t.cost rest (ap (λ (u : Task). u.cost) own) (get_or_read s.run.rest.items i rest (omega (arith, small, h.run.at.rests)) c.index-rest.ensures 0) in
    omega (arith, f.within, f.some)

pub make_steps-requires-clause-until : goal.make_steps-requires-clause-until
make_steps-requires-clause-until c =
    let p = c.args.plan.now in
    let s = c.args.self.now in
    let h = c.requires.simulation in
    let i = c.args.task in
    let t = c.index-items-task.result in
    let rest = c.index-rest.result.now in
    let small = first_small p s.run h.run i c.requires.first in
    let own = body_is p c.items.result.now i t c.items.ensures.value small c.index-items-task.is in
    let f = of_first p s h i c.requires.first t.cost rest (ap (λ (u : Task). u.cost) own) (get_or_read s.run.rest.items i rest (omega (arith, small, h.run.at.rests)) c.index-rest.ensures 0) in
    sooner p s.run.released c.args.limit (s.run.time + 1) c.requires.until (omega (arith, c.requires.ahead))

pub make_steps-requires-clause-served : goal.make_steps-requires-clause-served
make_steps-requires-clause-served c =
    let p = c.args.plan.now in
    let s = c.args.self.now in
    let h = c.requires.simulation in
    let i = c.args.task in
    let t = c.index-items-task.result in
    let rest = c.index-rest.result.now in
    let small = first_small p s.run h.run i c.requires.first in
    let own = body_is p c.items.result.now i t c.items.ensures.value small c.index-items-task.is in
    let f = of_first p s h i c.requires.first t.cost rest (ap (λ (u : Task). u.cost) own) (get_or_read s.run.rest.items i rest (omega (arith, small, h.run.at.rests)) c.index-rest.ensures 0) in
    f.served

pub end_instance-requires : goal.end_instance-requires
end_instance-requires c =
    let p = c.args.plan.now in
    let s = c.args.self.now in
    let h = c.requires.simulation in
    let i = c.args.task in
    let t = c.index-items-task.result in
    let rest = c.index-rest.result.now in
    let small = first_small p s.run h.run i c.requires.first in
    let own = body_is p c.items.result.now i t c.items.ensures.value small c.index-items-task.is in
    let f = of_first p s h i c.requires.first t.cost rest (ap (λ (u : Task). u.cost) own) (get_or_read s.run.rest.items i rest (omega (arith, small, h.run.at.rests)) c.index-rest.ensures 0) in
    let g = c.in_ok-make_steps.ensures.recorded in
    let r = c.make_steps.new.self.recorder in
    record {
      task = subst (λ (q : Plan). i < length q.diagram.tasks) (sym g.plan) f.there;
      free = subst (λ (w : Wiring). MayStep w (state_in r) i) (sym g.wiring)
          (may p s h i (t.cost - rest) c.requires.first f.served (sooner p s.run.released c.args.limit (s.run.time + 1) c.requires.until (omega (arith, c.requires.ahead))) (state_in r) g.ended g.aimed);
      place = is_shut p s h i (t.cost - rest) c.requires.first f.served c.min-ticks.result (omega (arith, c.requires.ahead, c.min-ticks.ensures, c.ticks_to_event.ensures.some))
          (omega (arith, c.ticks_to_event.ensures.within, c.min-ticks.ensures, f.rest_is, f.within))
          (sooner p s.run.released c.args.limit (s.run.time + c.min-ticks.result) c.requires.until (omega (arith, c.requires.ahead, c.min-ticks.ensures)))
          (no_sooner_in p i t (t.cost - rest) c.ticks_to_event.result c.min-ticks.result own c.ticks_to_event.ensures (omega (arith, c.min-ticks.ensures)))
          r (omega (arith, c.if-ticks-rest.false, c.ticks_to_event.ensures.within, c.min-ticks.ensures, f.rest_is, f.within)) g;
      rows = subst (λ (q : Plan). HasEndedRows q (state_in r) (table_in r)) (sym g.plan) g.rows;
      room =
          let few = events_few p s h in
          let long = recorded_length p Ranked _ _ _ _ r g in
          let begin = begin_few p i (t.cost - rest) in
          let reads = reads_few p i f.there (t.cost - rest) in
          let all = length-append (events_so_far p (service p) s.run.released s.run.time) (begin_events_at p i (t.cost - rest) ++ read_events p i (t.cost - rest)) in
          let two = length-append (begin_events_at p i (t.cost - rest)) (read_events p i (t.cost - rest)) in
          let outs = (closed_task p i f.there).outs.1 in
          let same = ap (λ (q : Plan). length (declared_task q i).outs) g.plan in
          omega (arith, few, long, begin, reads, all, two, outs, same);
    }

pub pause-requires : goal.pause-requires
pause-requires c =
    let p = c.args.plan.now in
    let s = c.args.self.now in
    let h = c.requires.simulation in
    let i = c.args.task in
    let t = c.index-items-task.result in
    let rest = c.index-rest.result.now in
    let small = first_small p s.run h.run i c.requires.first in
    let own = body_is p c.items.result.now i t c.items.ensures.value small c.index-items-task.is in
    let f = of_first p s h i c.requires.first t.cost rest (ap (λ (u : Task). u.cost) own) (get_or_read s.run.rest.items i rest (omega (arith, small, h.run.at.rests)) c.index-rest.ensures 0) in
    let e = c.in_ok-make_steps.ensures.run in
    subst (λ (r : Run). IsRun p (one_processor p r.time) r × ((i < length p.diagram.tasks) × (IsServedFor p (one_processor p r.time) r i c.min-ticks.result × (c.min-ticks.result < get_or r.rest.items i 0)))) (sym e) (
      h.run,
      (
        small,
        (
          served_for p s.run h.run i c.requires.first c.min-ticks.result
              (sooner p s.run.released c.args.limit (s.run.time + c.min-ticks.result) c.requires.until (omega (arith, c.requires.ahead, c.min-ticks.ensures)))
              (omega (arith, c.requires.ahead, c.min-ticks.ensures, c.ticks_to_event.ensures.some)) (omega (arith, c.if-ticks-rest.true, f.rest_is)),
          omega (arith, c.if-ticks-rest.true, f.rest_is),
        ),
      ),
    )

pub advance-requires : goal.advance-requires
advance-requires c =
    let p = c.args.plan.now in
    let s = c.args.self.now in
    let h = c.requires.simulation in
    let i = c.args.task in
    let t = c.index-items-task.result in
    let rest = c.index-rest.result.now in
    let small = first_small p s.run h.run i c.requires.first in
    let own = body_is p c.items.result.now i t c.items.ensures.value small c.index-items-task.is in
    let f = of_first p s h i c.requires.first t.cost rest (ap (λ (u : Task). u.cost) own) (get_or_read s.run.rest.items i rest (omega (arith, small, h.run.at.rests)) c.index-rest.ensures 0) in
    let e = c.in_ok-make_steps.ensures.run in
    may_advance p s.run h.run i c.requires.first c.pause.new.self c.min-ticks.result (get_or s.run.rest.items i 0 - c.min-ticks.result)
    (sooner p s.run.released c.args.limit (s.run.time + c.min-ticks.result) c.requires.until (omega (arith, c.requires.ahead, c.min-ticks.ensures))) (omega (arith, c.if-ticks-rest.true, f.rest_is))
    (c.pause.ensures.time ∙ ap (λ (r : Run). r.time) e)
    (c.pause.ensures.released ∙ ap (λ (r : Run). r.released) e)
    (c.pause.ensures.rest ∙ ap (λ (r : Run). set r.rest.items i (get_or r.rest.items i 0 - c.min-ticks.result)) e)
    (subst (λ (r : Run). IsRun p (one_processor p (r.time + c.min-ticks.result)) c.pause.new.self) e
    (c.pause.ensures.run (λ k. c.make_steps.new.self.run.time + c.min-ticks.result) (all_go_on c.make_steps.new.self.run.time c.min-ticks.result)))

pub returns-then-ticks-rest-clause-simulation : goal.returns-then-ticks-rest-clause-simulation
returns-then-ticks-rest-clause-simulation c =
    let p = c.args.plan.now in
    let s = c.args.self.now in
    let h = c.requires.simulation in
    let i = c.args.task in
    let t = c.index-items-task.result in
    let rest = c.index-rest.result.now in
    let small = first_small p s.run h.run i c.requires.first in
    let own = body_is p c.items.result.now i t c.items.ensures.value small c.index-items-task.is in
    let f = of_first p s h i c.requires.first t.cost rest (ap (λ (u : Task). u.cost) own) (get_or_read s.run.rest.items i rest (omega (arith, small, h.run.at.rests)) c.index-rest.ensures 0) in
    let e = c.in_ok-make_steps.ensures.run in
    pauses p s h i (t.cost - rest) c.requires.first f.served c.min-ticks.result (omega (arith, c.requires.ahead, c.min-ticks.ensures, c.ticks_to_event.ensures.some))
    (omega (arith, c.if-ticks-rest.true, f.rest_is))
    (sooner p s.run.released c.args.limit (s.run.time + c.min-ticks.result) c.requires.until (omega (arith, c.requires.ahead, c.min-ticks.ensures)))
    (no_sooner_in p i t (t.cost - rest) c.ticks_to_event.result c.min-ticks.result own c.ticks_to_event.ensures (omega (arith, c.min-ticks.ensures)))
    _ (omega (arith, c.if-ticks-rest.true, f.rest_is))
    (subst (λ (n : ℕ). IsRun p (one_processor p n) c.advance.new.self) (sym c.advance.ensures.time) c.advance.ensures.run)
    (c.advance.ensures.time ∙ ap (λ (n : ℕ). n + c.min-ticks.result) (c.pause.ensures.time ∙ ap (λ (r : Run). r.time) e))
    (c.advance.ensures.released ∙ c.pause.ensures.released ∙ ap (λ (r : Run). r.released) e)
    (ap (λ v. v.items) c.advance.ensures.rest ∙ c.pause.ensures.rest ∙ ap (λ (r : Run). set r.rest.items i (get_or r.rest.items i 0 - c.min-ticks.result)) e)
    (c.advance.ensures.ends ∙ c.pause.ensures.ends ∙ ap (λ (r : Run). r.ends) e)
    c.in_ok-make_steps.ensures.recorded

pub finish-requires : goal.finish-requires
finish-requires c =
    let p = c.args.plan.now in
    let s = c.args.self.now in
    let h = c.requires.simulation in
    let i = c.args.task in
    let t = c.index-items-task.result in
    let rest = c.index-rest.result.now in
    let small = first_small p s.run h.run i c.requires.first in
    let own = body_is p c.items.result.now i t c.items.ensures.value small c.index-items-task.is in
    let f = of_first p s h i c.requires.first t.cost rest (ap (λ (u : Task). u.cost) own) (get_or_read s.run.rest.items i rest (omega (arith, small, h.run.at.rests)) c.index-rest.ensures 0) in
    let e = c.in_ok-make_steps.ensures.run in
    subst (λ (r : Run). IsRun p (one_processor p r.time) r × ((i < length p.diagram.tasks) × ((0 < get_or r.rest.items i 0) × ((r.time ≡ r.time) × IsServedFor p (one_processor p r.time) r i (get_or r.rest.items i 0))))) (sym e) (
      h.run,
      (
        small,
        (
          omega (arith, f.some, f.rest_is),
          (
            refl,
            served_for p s.run h.run i c.requires.first (get_or s.run.rest.items i 0)
                (sooner p s.run.released c.args.limit (s.run.time + get_or s.run.rest.items i 0) c.requires.until (omega (arith, c.requires.ahead, c.min-ticks.ensures, c.if-ticks-rest.false, f.rest_is)))
                (omega (arith, f.some, f.rest_is)) (omega arith),
          ),
        ),
      ),
    )

pub advance-requires-2 : goal.advance-requires-2
advance-requires-2 c =
    let p = c.args.plan.now in
    let s = c.args.self.now in
    let h = c.requires.simulation in
    let i = c.args.task in
    let t = c.index-items-task.result in
    let rest = c.index-rest.result.now in
    let small = first_small p s.run h.run i c.requires.first in
    let own = body_is p c.items.result.now i t c.items.ensures.value small c.index-items-task.is in
    let f = of_first p s h i c.requires.first t.cost rest (ap (λ (u : Task). u.cost) own) (get_or_read s.run.rest.items i rest (omega (arith, small, h.run.at.rests)) c.index-rest.ensures 0) in
    let e = c.in_ok-make_steps.ensures.run in
    let all : get_or s.run.rest.items i 0 ≡ c.min-ticks.result = omega (arith, c.if-ticks-rest.false, c.ticks_to_event.ensures.within, c.min-ticks.ensures, f.rest_is, f.within) in
    may_advance p s.run h.run i c.requires.first c.finish.new.self c.min-ticks.result 0
    (sooner p s.run.released c.args.limit (s.run.time + c.min-ticks.result) c.requires.until (omega (arith, c.requires.ahead, c.min-ticks.ensures))) (omega (arith, all))
    (c.in_ok-finish.ensures.time ∙ ap (λ (r : Run). r.time) e)
    (c.in_ok-finish.ensures.released ∙ ap (λ (r : Run). r.released) e)
    (c.in_ok-finish.ensures.rest ∙ ap (λ (r : Run). set r.rest.items i 0) e)
    (subst (λ (d : ℕ). IsRun p (one_processor p (s.run.time + d)) c.finish.new.self) all
    (subst (λ (r : Run). IsRun p (one_processor p (r.time + get_or r.rest.items i 0)) c.finish.new.self) e
    (c.in_ok-finish.ensures.run (λ k. c.make_steps.new.self.run.time + get_or c.make_steps.new.self.run.rest.items i 0) (all_go_on c.make_steps.new.self.run.time (get_or c.make_steps.new.self.run.rest.items i 0)))))

pub returns-clause-simulation : goal.returns-clause-simulation
returns-clause-simulation c =
    let p = c.args.plan.now in
    let s = c.args.self.now in
    let h = c.requires.simulation in
    let i = c.args.task in
    let t = c.index-items-task.result in
    let rest = c.index-rest.result.now in
    let small = first_small p s.run h.run i c.requires.first in
    let own = body_is p c.items.result.now i t c.items.ensures.value small c.index-items-task.is in
    let f = of_first p s h i c.requires.first t.cost rest (ap (λ (u : Task). u.cost) own) (get_or_read s.run.rest.items i rest (omega (arith, small, h.run.at.rests)) c.index-rest.ensures 0) in
    let e = c.in_ok-make_steps.ensures.run in
    let all : c.min-ticks.result ≡ get_or s.run.rest.items i 0 = omega (arith, c.if-ticks-rest.false, c.ticks_to_event.ensures.within, c.min-ticks.ensures, f.rest_is, f.within) in
    finishes p s h i (t.cost - rest) c.requires.first f.served c.min-ticks.result (omega (arith, c.requires.ahead, c.min-ticks.ensures, c.ticks_to_event.ensures.some))
    (omega (arith, all))
    (sooner p s.run.released c.args.limit (s.run.time + c.min-ticks.result) c.requires.until (omega (arith, c.requires.ahead, c.min-ticks.ensures)))
    (no_sooner_in p i t (t.cost - rest) c.ticks_to_event.result c.min-ticks.result own c.ticks_to_event.ensures (omega (arith, c.min-ticks.ensures)))
    _ c.make_steps.new.self.recorder all
    (subst (λ (n : ℕ). IsRun p (one_processor p n) c.advance-2.new.self) (sym c.advance-2.ensures.time) c.advance-2.ensures.run)
    (c.advance-2.ensures.time ∙ ap (λ (n : ℕ). n + c.min-ticks.result) (c.in_ok-finish.ensures.time ∙ ap (λ (r : Run). r.time) e) ∙ ap (λ (n : ℕ). s.run.time + n) all)
    (c.advance-2.ensures.released ∙ c.in_ok-finish.ensures.released ∙ ap (λ (r : Run). r.released) e)
    (ap (λ v. v.items) c.advance-2.ensures.rest ∙ c.in_ok-finish.ensures.rest ∙ ap (λ (r : Run). set r.rest.items i 0) e)
    (c.advance-2.ensures.ends ∙ c.in_ok-finish.ensures.ends ∙ ap (λ (r : Run). set r.ends i (get_or r.ends i [] ++ (r.time + get_or r.rest.items i 0) ∷ [])) e)
    c.in_ok-make_steps.ensures.recorded c.in_ok-end_instance.ensures.piece c.in_ok-end_instance.ensures.rows

pub returns-clause-keeps : goal.returns-clause-keeps
returns-clause-keeps c = still_kept _ _ _ c.in_ok-end_instance.ensures.piece.steps ∙ c.in_ok-make_steps.ensures.keeps
