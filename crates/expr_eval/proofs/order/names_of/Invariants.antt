use Rattle.std.proofs.Common.{take}
use Rattle.expr_eval.specs.LetOrders.{AreNamesOf}
use Rattle.expr_eval.proofs.order.names_of.Given as goal

abbrev pub invariant-loop-i : goal.invariant-loop-i
invariant-loop-i l = AreNamesOf l.lets (take l.i-index l.numbers) l.names
