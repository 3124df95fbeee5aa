-- An expression can be printed if its tokens can.
use Rattle.std.proofs.Common.{ℕ, ◌+◌, All, List, [], ◌∷◌, ◌++◌}
use Rattle.std.specs.List.{AllByRecursion}
use Rattle.std.proofs.lemmas.List.Elements.{All-nil, All-cons, All-append}
use Rattle.dbp_plan.specs.declared.node.Node.{Node}
use Rattle.dbp_plan.specs.Tree.{Tree, number, variable, unary, binary, choice, size_of, root_of, nodes_of}
use Rattle.dia_tokens.specs.declared.token.Token.{Token}
use Rattle.dia_tokens.specs.declared.token.Token.TheVariants as token
use Rattle.dia_tokens.specs.declared.token.Keyword.TheVariants as keyword
use Rattle.dia_tokens.specs.declared.token.Symbol.TheVariants as symbol
use Rattle.dia_tokens.specs.Printable.{IsPrintableToken}
use Rattle.dia_exprs.specs.declared.level.Level.{Level}
use Rattle.dia_exprs.specs.declared.level.Level.TheVariants.{Whole, Sum, Prefixed}
use Rattle.dia_exprs.specs.Printable.{IsPrintableTree, IsPrintableNode}
use Rattle.dia_exprs.specs.Grammar.{Expression, tighter, Spells, a_number, a_name, in_parentheses, a_call, as_tighter, prefixed, joined, compared, a_choice}

-- what holds of each of two lists' elements holds of those of each
pub all-parts : {X : Type 0} (P : X → Type 0) (xs ys : List X) → AllByRecursion P (xs ++ ys) → AllByRecursion P xs × AllByRecursion P ys
all-parts P [] ys f = (tt, f)
all-parts P (x ∷ xs) ys f = let both = all-parts P xs ys f.1 in ((f.0, both.0), both.1)

token-parts : (a b : List Token) → AllByRecursion IsPrintableToken (a ++ b) → AllByRecursion IsPrintableToken a × AllByRecursion IsPrintableToken b
token-parts a b f = all-parts IsPrintableToken a b f

pub printable-tree : (l : Level) (ts : List Token) (x : Expression) → Spells l ts x → AllByRecursion IsPrintableToken ts → IsPrintableTree x
printable-tree l ts x (a_number value) f = f.0
printable-tree l ts x (a_name name) f = f.0
printable-tree l ts x (in_parentheses us y s) f = printable-tree Whole us y s (token-parts us (token.Symbol symbol.Close ∷ []) f.1).0
printable-tree l ts x (a_call t o a b y z e s u) f =
    let args = token-parts a (token.Symbol symbol.Comma ∷ (b ++ token.Symbol symbol.Close ∷ [])) f.1.1 in
    (printable-tree Whole a y s args.0, printable-tree Whole b z u (token-parts b (token.Symbol symbol.Close ∷ []) args.1.1).0)
printable-tree l ts x (as_tighter l' ts' x' s) f = printable-tree (tighter l') ts' x' s f
printable-tree l ts x (prefixed t o us y e s) f = printable-tree Prefixed us y s f.1
printable-tree l ts x (joined l' a t b o y z s e u) f = let both = token-parts a (t ∷ b) f in (printable-tree l' a y s both.0, printable-tree (tighter l') b z u both.1.1)
printable-tree l ts x (compared a t b o y z s e u) f = let both = token-parts a (t ∷ b) f in (printable-tree Sum a y s both.0, printable-tree Sum b z u both.1.1)
printable-tree l ts x (a_choice a b c u v w s d e) f =
    let first = token-parts a (token.Keyword keyword.Then ∷ (b ++ token.Keyword keyword.Else ∷ c)) f.1 in
    let others = token-parts b (token.Keyword keyword.Else ∷ c) first.1.1 in
    (printable-tree Whole a u s first.0, printable-tree Whole b v d others.0, printable-tree Whole c w e others.1.1)

-- ---- the nodes of a tree

one-node : (n : Node (List ℕ)) → IsPrintableNode n → All IsPrintableNode (n ∷ [])
one-node n h = All-cons IsPrintableNode n [] h (All-nil IsPrintableNode)

after : (ns ms : List (Node (List ℕ))) → All IsPrintableNode ns → All IsPrintableNode ms → All IsPrintableNode (ns ++ ms)
after ns ms h k = All-append IsPrintableNode ns ms h k

pub printable-nodes : (at : ℕ) (x : Tree (List ℕ)) → IsPrintableTree x → All IsPrintableNode (nodes_of at x)
printable-nodes at (number z) f = one-node _ f
printable-nodes at (variable n) f = one-node _ f
printable-nodes at (unary op t) f = after _ _ (printable-nodes at t f) (one-node (root_of at (unary op t)) tt)
printable-nodes at (binary op l r) f = after _ _ (after _ _ (printable-nodes at l f.0) (printable-nodes (at + size_of l) r f.1)) (one-node (root_of at (binary op l r)) tt)
printable-nodes at (choice c y n) f =
    after _ _ (after _ _ (after _ _ (printable-nodes at c f.0) (printable-nodes (at + size_of c) y f.1)) (printable-nodes (at + size_of c + size_of y) n f.2))
    (one-node (root_of at (choice c y n)) tt)
