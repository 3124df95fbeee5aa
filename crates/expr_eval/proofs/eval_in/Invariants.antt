use Rattle.std.proofs.Common.{◌+◌, ◌≤◌, length, take}
use Rattle.dbp_plan.specs.LetOrder.{VariablesBelow}
use Rattle.expr_eval.specs.Values.{value_of}
use Rattle.expr_eval.proofs.StackRuns.{Runs}
use Rattle.expr_eval.proofs.eval_in.Given as goal

-- what is left of the nodes leads from the values so far to the expression's
abbrev pub invariant-loop-nodes : goal.invariant-loop-nodes
invariant-loop-nodes l =
    record {
      runs : Runs l.env (take l.height l.stack) l.last l.nodes (value_of l.expr l.env);
      room : l.height + length l.nodes ≤ length l.stack;
      variables : VariablesBelow (length l.env) l.nodes;
    }

abbrev pub decreases-loop-nodes : goal.decreases-loop-nodes
decreases-loop-nodes l = length l.nodes
