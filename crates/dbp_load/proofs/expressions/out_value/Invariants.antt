use Rattle.std.proofs.Common.{take}
use Rattle.std.specs.Prelude.{fold}
use Rattle.dbp_plan.specs.Expr.{IsExprOf}
use Rattle.dbp_load.specs.Expressions.{with_read, first_sum}
use Rattle.dbp_load.proofs.expressions.out_value.Given as goal

abbrev pub invariant-loop-read : goal.invariant-loop-read
invariant-loop-read l = IsExprOf l.sum (fold with_read first_sum (take l.read-index l.reads))
