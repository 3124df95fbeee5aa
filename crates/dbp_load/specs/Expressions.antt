-- The expressions of generated tasks.
use Rattle.std.specs.Prelude.{◌≡◌, ℕ, pos, ◌+◌, ◌*◌, ◌≤◌, List, [], ◌∷◌, length, fold, codes}
use Rattle.std.proofs.Common.{refl, arith}
use Rattle.dbp_plan.specs.declared.expr.Expr.{Expr}
use Rattle.dbp_plan.specs.declared.limits.TheConstants.{MAX_NODES}
use Rattle.dbp_plan.specs.declared.node.BinOp.TheVariants.{Add, Mul, Rem}
use Rattle.dbp_plan.specs.Tree.{Tree, number, variable, binary, size_of, nodes_of}
use Rattle.dbp_plan.specs.TreeLaws.{length-nodes_of}

-- s + 1
abbrev pub next_tree : Tree (List ℕ)
next_tree = binary Add (variable (codes "s")) (number (pos 1))

abbrev pub with_read : Tree (List ℕ) → List ℕ → Tree (List ℕ)
with_read sum read = binary Add sum (variable read)

-- (s * 3) + g0
abbrev pub first_sum : Tree (List ℕ)
first_sum = binary Add (binary Mul (variable (codes "s")) (number (pos 3))) (variable (codes "g0"))

-- ((s * 3) + g0) % 1000, with each read added on the right inside the parentheses
abbrev pub out_tree : List (List ℕ) → Tree (List ℕ)
out_tree reads = binary Rem (fold with_read first_sum reads) (number (pos 1000))

-- ---- as expressions

pub size-added : (t : Tree (List ℕ)) (reads : List (List ℕ)) → size_of (fold with_read t reads) ≡ size_of t + 2 * length reads
size-added t [] = omega arith
size-added t (read ∷ reads) = omega (arith, size-added (with_read t read) reads)

pub few-nodes : (reads : List (List ℕ)) → length reads ≤ 4 → size_of (out_tree reads) ≤ MAX_NODES
few-nodes reads few = omega (arith, size-added first_sum reads)

pub length-few : (t : Tree (List ℕ)) → size_of t ≤ MAX_NODES → length (nodes_of 0 t) ≤ MAX_NODES
length-few t few = omega (arith, length-nodes_of 0 t)

abbrev pub expr_of : (t : Tree (List ℕ)) → size_of t ≤ MAX_NODES → Expr (List ℕ)
expr_of t few = record { nodes = nodes_of 0 t; tree = (t, refl); few = length-few t few }

pub few-next : size_of next_tree ≤ MAX_NODES
few-next = omega arith

abbrev pub next_expr : Expr (List ℕ)
next_expr = expr_of next_tree few-next

-- of at most four reads
abbrev pub out_expr : (reads : List (List ℕ)) → length reads ≤ 4 → Expr (List ℕ)
out_expr reads few = expr_of (out_tree reads) (few-nodes reads few)
