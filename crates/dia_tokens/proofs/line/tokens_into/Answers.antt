use Rattle.std.proofs.Common.{Ok, Err}
use Rattle.dia_tokens.proofs.OneLine.{only-read, only-refused}
use Rattle.dia_tokens.proofs.line.tokens_into.Goals as goal

pub returns-in-Ok-clause-only : goal.returns-in-Ok-clause-only
returns-in-Ok-clause-only c = only-read (λ _. c.read.new.out.items) (Ok c.in-Ok.field-0) c.args.line.now c.in-Ok.ensures.found tt

pub returns-in-Ok-clause-refused : goal.returns-in-Ok-clause-refused
returns-in-Ok-clause-refused c = only-refused (λ _. c.read.new.out.items) (Ok c.in-Ok.field-0) c.args.line.now c.in-Ok.ensures.found tt

pub returns-in-Err-clause-only : goal.returns-in-Err-clause-only
returns-in-Err-clause-only c = only-read {T = Unit {0}} (λ _. c.read.new.out.items) (Err c.in-Err.fail) c.args.line.now tt c.in-Err.ensures.fault

pub returns-in-Err-clause-refused : goal.returns-in-Err-clause-refused
returns-in-Err-clause-refused c = only-refused {T = Unit {0}} (λ _. c.read.new.out.items) (Err c.in-Err.fail) c.args.line.now tt c.in-Err.ensures.fault
