use Rattle.std.specs.Prelude.{is_some}
use Rattle.std.proofs.Common.{◌∙◌, ap, subst, List, Option}
use Rattle.dbp_plan.specs.declared.plan.Plan.{Plan}
use Rattle.dbp_rules.specs.Start.{start_of}
use Rattle.dbp_rules.specs.Wired.{wiring_of}
use Rattle.dbp_rules.specs.declared.step.Count.TheVariants.{All}
use Rattle.dbp_rules.specs.declared.step.Step.{Step}
use Rattle.instance_steps.specs.EndedRows.{HasEndedRows}
use Rattle.instance_steps.specs.Recorders.{state_in, table_in}
use Rattle.cpu_sim.proofs.Finals.{starts}
use Rattle.cpu_sim.proofs.simulation.Simulation.new.Goals as goal

pub returns-clause-simulation : goal.returns-clause-simulation
returns-clause-simulation c =
    let e = c.in_ok-clone.ensures.cases in
    let r = c.in_ok-recorder.ensures in
    let run = rw c.deref.ensures at c.in_ok-run.ensures.run in
    let rest = rw c.deref.ensures at c.in_ok-run.ensures.rest in
    let ends = rw c.deref.ensures at c.in_ok-run.ensures.ends in
    starts c.args.plan.now.value _ c.args.keeping run c.in_ok-run.ensures.time c.in_ok-run.ensures.released rest ends
    (r.plan ∙ e) r.count (r.start ∙ ap (λ (q : Plan). start_of q (wiring_of q All)) e) r.steps
    (subst (λ (q : Plan). HasEndedRows q (state_in c.in_ok-recorder.recorder) (table_in c.in_ok-recorder.recorder)) e r.rows)

pub returns-clause-released : goal.returns-clause-released
returns-clause-released c = c.in_ok-run.ensures.released

pub returns-clause-keeps : goal.returns-clause-keeps
returns-clause-keeps c = ap (λ (o : Option (List Step)). is_some o) c.in_ok-recorder.ensures.steps
