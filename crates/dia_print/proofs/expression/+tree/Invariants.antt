use Rattle.std.specs.Prelude.{◌+◌, ◌*◌, max}
use Rattle.dia_print.proofs.expression.+tree.Given as goal

abbrev pub decreases-push_call : goal.decreases-push_call
decreases-push_call l = 3 * max l.left l.right + 1

abbrev pub decreases-push_choice : goal.decreases-push_choice
decreases-push_choice l = 3 * max l.condition (max l.one l.other) + 2

abbrev pub decreases-push_operand : goal.decreases-push_operand
decreases-push_operand l = 3 * l.place + 1

abbrev pub decreases-push_tree : goal.decreases-push_tree
decreases-push_tree l = 3 * l.place
