use Rattle.std.proofs.Common.{◌≡◌, sym, subst}
use Rattle.std.specs.Prelude.{codes}
use Rattle.std.proofs.lemmas.Result.{IfOk-weaker}
use Rattle.dbp_answers.specs.Summaries.{IsSimulationLine, same}
use Rattle.dbp_answers.proofs.summaries.simulation_line.Goals as goal

pub returns-in_default : goal.returns-in_default
returns-in_default c =
    let p = c.args.plan.now in
    IfOk-weaker c.same_line.result (λ line. line.items ≡ codes "sim same\n") (λ line. IsSimulationLine p line.items)
    (λ line is. subst (IsSimulationLine p) (sym is) (same c.in_default.ensures.in_time)) c.same_line.ensures
