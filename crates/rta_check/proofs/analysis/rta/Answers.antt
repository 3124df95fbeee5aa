use Rattle.std.proofs.Common.{◌≡◌, None, ◌∙◌, sym, arith}
use Rattle.rta_check.specs.Bounds.{AreBounds, rta_fault}
use Rattle.rta_check.proofs.BoundLists.{bounds_kept, bounds_more}
use Rattle.rta_check.proofs.RtaFaults.{no_fault_ranked, no_fault_periodic}
use Rattle.rta_check.proofs.analysis.rta.Goals as goal

pub of-requires-clause-periodic : goal.of-requires-clause-periodic
of-requires-clause-periodic c = no_fault_periodic c.args.diagram.now (sym c.fault.ensures ∙ c.in_default.is)

pub loop-task-preserved : goal.loop-task-preserved
loop-task-preserved c =
    let d = c.args.diagram.now in
    let own = c.bound.ensures d c.loop-task.task c.of.ensures.is in
    rw c.in_ok-push.ensures.ok (bounds_more d c.loop-task.task c.loop-task.bounds c.bound.result c.loop-task.invariant own)

pub returns-clause-phases : goal.returns-clause-phases
returns-clause-phases c = λ p differs.
    let d = c.args.diagram.now in
    let none : rta_fault d ≡ None = sym c.fault.ensures ∙ c.in_default.is in
    let are : AreBounds d c.loop-task.bounds = record { count = omega (arith, c.loop-task.invariant.count, c.loop-task.auto.task-end, c.loop-task-test.false, c.len-tasks.ensures); each = c.loop-task.invariant.each } in
    bounds_kept d c.loop-task.bounds p (no_fault_ranked d none) (no_fault_periodic d none) are differs
