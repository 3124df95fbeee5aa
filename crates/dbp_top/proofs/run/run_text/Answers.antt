use Rattle.std.proofs.Common.{refl}
use Rattle.std.proofs.lemmas.Result.{err_from_is_err_and}
use Rattle.dbp_answers.specs.declared.command.Command.TheVariants.{Run}
use Rattle.dbp_answers.proofs.StopLaws.{document-stop}
use Rattle.dbp_top.proofs.run.run_text.Goals as goal

pub returns-in_err-plan-clause-stop : goal.returns-in_err-plan-clause-stop
returns-in_err-plan-clause-stop g c =
    let p = err_from_is_err_and c.from_residual.result c.from_residual.ensures.1 in
    rw (p.1, p.2) (λ turns. document-stop c.args.input.now (Run turns) c.in_err-plan.field-0.0 refl c.in_err-plan.ensures.fault)
