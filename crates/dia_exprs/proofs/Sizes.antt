-- An expression has as many nodes as its tokens stand for.
use Rattle.std.proofs.Common.{◌≡◌, ◌+◌, true, List, [], ◌∷◌, ◌++◌, length, Some, refl, ap, ◌∙◌, arith}
use Rattle.std.specs.List.{filter}
use Rattle.std.proofs.lemmas.List.{length-append}
use Rattle.std.proofs.lemmas.List.Elements.{filter-append}
use Rattle.dbp_plan.specs.declared.node.BinOp.{BinOp}
use Rattle.dbp_plan.specs.declared.node.UnOp.{UnOp}
use Rattle.dbp_plan.specs.Tree.{size_of}
use Rattle.dia_tokens.specs.declared.token.Token.{Token}
use Rattle.dia_tokens.specs.declared.token.Token.TheVariants as token
use Rattle.dia_tokens.specs.declared.token.Keyword.TheVariants as keyword
use Rattle.dia_tokens.specs.declared.token.Symbol.TheVariants as symbol
use Rattle.dia_exprs.specs.declared.level.Level.{Level}
use Rattle.dia_exprs.specs.declared.level.Level.TheVariants.{Whole, Sum, Prefixed}
use Rattle.dia_exprs.specs.Counts.{has_node, node_count}
use Rattle.dia_exprs.specs.Grammar.{Expression, operator_of, is_joined, is_comparison, is_call, prefix, Spells, a_number, a_name, in_parentheses, a_call, as_tighter, prefixed, joined, compared, a_choice}
use Rattle.dia_exprs.proofs.OperatorLaws.{each-token, written-is}

count-append : (a b : List Token) → node_count (a ++ b) ≡ node_count a + node_count b
count-append a b = ap length (filter-append has_node a b) ∙ length-append (filter has_node a) (filter has_node b)

-- a token that is an operator stands for a node
counts-one : (t : Token) (ts : List Token) → has_node t ≡ true → node_count (t ∷ ts) ≡ node_count ts + 1
counts-one t ts e = rw e (omega arith)

operator-node : (t : Token) (o : BinOp) → operator_of t ≡ Some o → has_node t ≡ true
operator-node = each-token has_node refl

prefix-node : (t : Token) (o : UnOp) → prefix t ≡ Some o → has_node t ≡ true
prefix-node (token.Symbol symbol.Minus) o e = refl
prefix-node (token.Keyword keyword.Not) o e = refl
prefix-node _ o e = absurd cc

-- each node comes from one token
pub one-node-a-token : (l : Level) (ts : List Token) (x : Expression) → Spells l ts x → size_of x ≡ node_count ts
one-node-a-token l ts x (a_number value) = refl
one-node-a-token l ts x (a_name name) = refl
one-node-a-token l ts x (in_parentheses us y s) = omega (arith, one-node-a-token Whole us y s, count-append us (token.Symbol symbol.Close ∷ []))
one-node-a-token l ts x (a_call t o a b y z e s u) =
    let after = token.Symbol symbol.Comma ∷ (b ++ token.Symbol symbol.Close ∷ []) in
    let first : node_count (t ∷ token.Symbol symbol.Open ∷ (a ++ after)) ≡ node_count (a ++ after) + 1 = counts-one t (token.Symbol symbol.Open ∷ (a ++ after)) (operator-node t o (written-is is_call (operator_of t) o e).0) in
    let last : node_count after ≡ node_count b + 0 = count-append b (token.Symbol symbol.Close ∷ []) in
    omega (arith, first, last, one-node-a-token Whole a y s, one-node-a-token Whole b z u, count-append a after)
one-node-a-token l ts x (as_tighter l' ts' x' s) = one-node-a-token _ ts' x' s
one-node-a-token l ts x (prefixed t o us y e s) = omega (arith, counts-one t us (prefix-node t o e), one-node-a-token Prefixed us y s)
one-node-a-token l ts x (joined l' a t b o y z s e u) =
    omega (arith, count-append a (t ∷ b), counts-one t b (operator-node t o (written-is (is_joined l') (operator_of t) o e).0), one-node-a-token l' a y s, one-node-a-token _ b z u)
one-node-a-token l ts x (compared a t b o y z s e u) =
    omega (arith, count-append a (t ∷ b), counts-one t b (operator-node t o (written-is is_comparison (operator_of t) o e).0), one-node-a-token Sum a y s, one-node-a-token Sum b z u)
one-node-a-token l ts x (a_choice a b c u v w s d e) =
    let after = token.Keyword keyword.Else ∷ c in
    let one : node_count (a ++ token.Keyword keyword.Then ∷ (b ++ after)) ≡ node_count a + node_count (b ++ after) = count-append a (token.Keyword keyword.Then ∷ (b ++ after)) in
    let two : node_count (b ++ after) ≡ node_count b + node_count c = count-append b after in
    let whole : node_count (token.Keyword keyword.If ∷ (a ++ token.Keyword keyword.Then ∷ (b ++ after))) ≡ node_count (a ++ token.Keyword keyword.Then ∷ (b ++ after)) + 1 = counts-one (token.Keyword keyword.If) (a ++ token.Keyword keyword.Then ∷ (b ++ after)) refl in
    omega (arith, one, two, whole, one-node-a-token Whole a u s, one-node-a-token Whole b v d, one-node-a-token Whole c w e)
