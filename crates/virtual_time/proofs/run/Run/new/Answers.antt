use Rattle.std.proofs.Common.{arith, ℕ, [], ◌≡◌, length, replicate, refl, ap, ◌∙◌}
use Rattle.std.proofs.lemmas.Grind.{common_steps}
use Rattle.virtual_time.proofs.Whole.{begins}
use Rattle.virtual_time.proofs.run.Run.new.Goals as goal

pub returns-clause-run : goal.returns-clause-run
returns-clause-run g c =
    let plan = c.args.plan.now in
    let rest : c.in_ok-rest.rest.items ≡ replicate (length plan.diagram.tasks) 0 = grind (arith, common_steps) in
    let ends : c.in_ok-ends.ends ≡ replicate (length plan.diagram.tasks) [] = c.in_ok-ends.ensures ∙ ap (λ (n : ℕ). replicate n []) c.len-tasks.ensures in
    begins plan g.cpus _ refl refl rest ends c.in_ok-ready.ensures.made c.in_ok-ready.ensures.empty
