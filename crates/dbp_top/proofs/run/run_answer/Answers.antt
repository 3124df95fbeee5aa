use Rattle.dbp_answers.specs.Answer.{made}
use Rattle.dbp_answers.proofs.StopLaws.{run-stop-answered}
use Rattle.dbp_top.proofs.run.run_answer.Goals as goal

pub returns-in-Ok-clause-answer : goal.returns-in-Ok-clause-answer
returns-in-Ok-clause-answer g c = λ turns. made c.in-Ok.text.items (c.in-Ok.ensures.text turns)

pub returns-in-Err-clause-answer : goal.returns-in-Err-clause-answer
returns-in-Err-clause-answer g c = run-stop-answered (λ text. text.items) c.in-Err.stop c.stop_answer.result c.stop_answer.ensures.answer c.args.input.now c.in-Err.ensures.stop
