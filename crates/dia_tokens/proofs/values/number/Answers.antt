use Rattle.std.proofs.lemmas.Str.{IsUtf8-from_ascii}
use Rattle.std.specs.Result.{result_ok}
use Rattle.dia_tokens.proofs.ValueLaws.{number-ascii, number-read, number-some, number-none}
use Rattle.dia_tokens.proofs.values.number.Goals as goal

pub returns-in-Err-clause-none : goal.returns-in-Err-clause-none
returns-in-Err-clause-none c = absurd (c.in-Err.ensures.cases.0 (IsUtf8-from_ascii c.args.text.now (number-ascii c.args.text.now c.requires)))

pub returns-in-Ok-clause-some : goal.returns-in-Ok-clause-some
returns-in-Ok-clause-some c =
    let read = number-read c.args.text.now c.in-Ok.text.now c.parse.result c.in-Ok.ensures.cases.0 c.requires c.parse.ensures.value.0 in
    rw c.ok.ensures.value (number-some c.args.text.now (result_ok c.parse.result) read)

pub returns-in-Ok-clause-none : goal.returns-in-Ok-clause-none
returns-in-Ok-clause-none c =
    let read = number-read c.args.text.now c.in-Ok.text.now c.parse.result c.in-Ok.ensures.cases.0 c.requires c.parse.ensures.value.0 in
    rw c.ok.ensures.value (number-none c.args.text.now (result_ok c.parse.result) read)
