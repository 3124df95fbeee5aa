use Rattle.std.proofs.Common.{◌≡◌, ℕ, ◌+◌, ◌<◌, Contains, slice_get, Some}
use Rattle.dbp_plan.specs.declared.node.Node.TheVariants.{Var}
use Rattle.expr_eval.proofs.variable.uses_one_of.Given as goal

abbrev pub invariant-loop-node : goal.invariant-loop-node
invariant-loop-node l = (k j : ℕ) → k < l.node-index → slice_get l.node-items k ≡ Some (Var (l.base + j)) → Contains l.found j → ⊥
