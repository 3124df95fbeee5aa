-- What all operators have in common, computed from their list.
use Rattle.std.proofs.Common.{◌≡◌, Bool, true, false, Option, Some, None, refl, subst}
use Rattle.std.specs.List.{list_all}
use Rattle.std.specs.Option.{is_some}
use Rattle.dbp_plan.specs.declared.node.BinOp.{BinOp}
use Rattle.dbp_plan.specs.declared.node.BinOp.TheVariants as op
use Rattle.dbp_plan.specs.Operators.{all_operators, notation_of}
use Rattle.dbp_plan.specs.declared.node.Notation.{Notation}
use Rattle.dia_tokens.specs.declared.token.Token.{Token}
use Rattle.dia_tokens.specs.declared.token.Token.TheVariants as token
use Rattle.dia_tokens.specs.declared.token.Keyword.{Keyword}
use Rattle.dia_tokens.specs.declared.token.Keyword.TheVariants as keyword
use Rattle.dia_tokens.specs.declared.token.Symbol.TheVariants as symbol
use Rattle.dia_tokens.specs.Keywords.{begins_call}
use Rattle.dia_tokens.proofs.KeywordLaws.{found-passes}
use Rattle.dia_exprs.specs.Grammar.{operator_token, operator_of, is_same_mark, if_written, called}

-- each operator is found by its token, so it is listed
pub listed : (o : BinOp) → operator_of (operator_token o) ≡ Some o
unfolding operator_of
listed op.Add = refl
listed _ = refl

-- a test that the listed operators pass is passed by each
pub each : (p : BinOp → Bool) → list_all p all_operators ≡ true → (o : BinOp) → p o ≡ true
unfolding operator_of
each p e o = rw (listed o) at (found-passes p (λ u. is_same_mark (operator_token o) (operator_token u)) all_operators e)

-- a token is read as no other operator than the one that is written with it
pub token-is : (t : Token) (o : BinOp) → operator_of t ≡ Some o → operator_token o ≡ t
unfolding operator_of
token-is (token.Keyword keyword.And) o e = cc
token-is (token.Symbol symbol.Plus) o e = cc
token-is _ o e = cc

-- a test that the tokens of the listed operators pass
pub each-token : (p : Token → Bool) → list_all (λ o. p (operator_token o)) all_operators ≡ true → (t : Token) (o : BinOp) → operator_of t ≡ Some o → p t ≡ true
each-token p e t o at = subst (λ (u : Token). p u ≡ true) (token-is t o at) (each (λ u. p (operator_token u)) e o)

-- ---- how they are written

pub written-is : (so : Notation → Bool) (r : Option BinOp) (o : BinOp) → if_written so r ≡ Some o → (r ≡ Some o) × (so (notation_of o) ≡ true)
written-is so None o e = absurd cc
written-is so (Some u) o e = either (so (notation_of u)) refl
  where
    either : (b : Bool) → so (notation_of u) ≡ b → (Some u ≡ Some o) × (so (notation_of o) ≡ true)
    either true is = let same : Some u ≡ Some o = rw is at e in (same, cc)
    either false is = let wrong : None ≡ Some o = rw is at e in absurd cc

pub is-written : (so : Notation → Bool) (o : BinOp) → so (notation_of o) ≡ true → if_written so (operator_of (operator_token o)) ≡ Some o
is-written so o e = rw (listed o, e) refl

-- the keywords that begin a call are the operators that are written as calls
pub calls-listed : (w : Keyword) → begins_call w ≡ is_some (called (token.Keyword w))
unfolding operator_of
calls-listed keyword.Min = refl
calls-listed _ = refl
