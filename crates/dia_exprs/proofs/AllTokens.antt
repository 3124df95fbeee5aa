-- All the tokens as one expression.
use Rattle.std.proofs.Common.{◌≡◌, ℕ, suc, ◌≤◌, List, [], ◌∷◌, ◌++◌, length, Some, None, refl, sym, ap, subst, ◌∙◌, arith}
use Rattle.std.proofs.lemmas.List.{append-nil}
use Rattle.dia_tokens.specs.declared.token.Token.{Token}
use Rattle.dia_exprs.specs.declared.level.Level.TheVariants.{Whole}
use Rattle.dia_exprs.specs.Grammar.{Expression, Spells}
use Rattle.dia_exprs.specs.Reading.{Place, reader}
use Rattle.dbp_plan.specs.declared.node.Node.{Node}
use Rattle.dbp_plan.specs.Tree.{nodes_of}
use Rattle.dia_exprs.specs.declared.fail.ExpressionFail.{ExpressionFail}
use Rattle.dia_exprs.specs.declared.fail.ExpressionFail.TheVariants.{NoExpression, NoMemory}
use Rattle.dia_exprs.specs.Parsing.{of_level, HasRead, HasNone}
use Rattle.dia_exprs.specs.Answers.{SpellsNone}
use Rattle.dia_exprs.proofs.Complete.{complete}
use Rattle.dia_exprs.proofs.Sound.{given, some_is, Reads, Sound-whole}

-- what is spelled is read
pub all-read : (ts : List Token) (x : Expression) → Spells Whole ts x → reader (length ts) Whole ts ≡ Some (x, [])
all-read ts x d =
    let same = append-nil ts in
    let fits : length (ts ++ []) ≤ length ts = let e = ap length same in omega arith in
    ap (reader (length ts) Whole) (sym same) ∙ complete Whole ts x d (length ts) [] tt fits

-- what is read is spelled
pub all-spelled : (n : ℕ) (ts : List Token) (x : Expression) → reader n Whole ts ≡ Some (x, []) → Spells Whole ts x
all-spelled n ts x e =
    let r : Reads Whole ts (x, []) = Sound-whole (suc n) ts (x, []) e in
    let whole : r.front ≡ ts = sym (r.parts ∙ append-nil r.front) in
    subst (λ (us : List Token). Spells Whole us x) whole r.spells

-- tokens spell one expression at most
pub one-spelled : (ts : List Token) (t u : Expression) → Spells Whole ts t → Spells Whole ts u → t ≡ u
one-spelled ts t u d e = ap (λ (p : Place). p.0) (some_is _ _ (sym (all-read ts t d) ∙ all-read ts u e))

-- if nothing is read nothing is spelled
pub none-spelled : (ts : List Token) (e : ExpressionFail) → HasNone (of_level Whole) ts e → e ≡ NoExpression → SpellsNone ts
none-spelled ts NoMemory h same t d = cc
none-spelled ts NoExpression h same t d = let wrong : None ≡ given (t, []) = sym (h (length ts) (omega arith)) ∙ all-read ts t d in cc

no_token : (ts : List Token) → length ts ≡ 0 → ts ≡ []
no_token [] e = refl
no_token (t ∷ ts) e = absurd (omega arith)

-- if all is read it is spelled
pub read-spelled : (nodes grown : List (Node (List ℕ))) (ts rest : List Token) → nodes ≡ [] → length rest ≡ 0 → HasRead (of_level Whole) nodes ts grown rest
    → (x : Expression) × Spells Whole ts x × (grown ≡ nodes_of 0 x)
read-spelled nodes grown ts rest empty ended r =
    let whole : reader (length ts) Whole ts ≡ given (r.0, []) = r.2 (length ts) (omega arith) ∙ ap (λ (us : List Token). given (r.0, us)) (no_token rest ended) in
    (r.0, all-spelled (length ts) ts r.0 whole, r.1 ∙ ap (λ (ns : List (Node (List ℕ))). ns ++ nodes_of (length ns) r.0) empty)

-- if tokens are left nothing is spelled
pub left-over : (nodes grown : List (Node (List ℕ))) (ts rest : List Token) → (length rest ≡ 0 → ⊥) → HasRead (of_level Whole) nodes ts grown rest → SpellsNone ts
left-over nodes grown ts rest more r t d =
    let same : (r.0, rest) ≡ (t, []) = some_is _ _ (sym (r.2 (length ts) (omega arith)) ∙ all-read ts t d) in
    more (ap (λ (p : Place). length p.1) same)
