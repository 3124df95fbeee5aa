-- The tokens of an expression spell it, and what else they are.
use Rattle.std.proofs.Common.{◌≡◌, ℕ, ◌+◌, ◌-◌, ◌≤◌, Bool, true, false, cond, List, [], ◌∷◌, ◌++◌, refl, sym, subst, arith, append_assoc, inl, inr}
use Rattle.std.specs.Prelude.{max}
use Rattle.std.specs.List.{AllByRecursion}
use Rattle.std.proofs.lemmas.Bool.{cases_Bool}
use Rattle.dbp_plan.specs.declared.node.BinOp.{BinOp}
use Rattle.dbp_plan.specs.declared.node.Notation.{Notation}
use Rattle.dbp_plan.specs.declared.node.Notation.TheVariants as notation
use Rattle.dbp_plan.specs.declared.node.UnOp.{UnOp}
use Rattle.dbp_plan.specs.declared.node.UnOp.TheVariants as prefix_op
use Rattle.dbp_plan.specs.Operators.{notation_of}
use Rattle.dbp_plan.specs.Tree.{number, variable, unary, binary, choice, size_of}
use Rattle.dbp_plan.specs.TreeLaws.{one_node}
use Rattle.dia_tokens.specs.declared.token.Token.{Token}
use Rattle.dia_tokens.specs.declared.token.Token.TheVariants.{Keyword, Name, Number, Symbol}
use Rattle.dia_tokens.specs.declared.token.Keyword.TheVariants as keyword
use Rattle.dia_tokens.specs.declared.token.Symbol.TheVariants as symbol
use Rattle.dia_tokens.specs.Lexes.{signs}
use Rattle.dia_tokens.specs.Printable.{IsPrintableToken}
use Rattle.dia_tokens.specs.TokenText.{piece_of}
use Rattle.dia_tokens.specs.KeepsSigns.{IsUnsigned, KeepsSigns}
use Rattle.dia_exprs.specs.declared.level.Level.{Level}
use Rattle.dia_exprs.specs.declared.level.Level.TheVariants.{Whole, Disjunction, Conjunction, Comparison, Sum, Product, Prefixed, Factor}
use Rattle.dia_exprs.specs.Counts.{has_node, opened, deepest}
use Rattle.dia_exprs.specs.Grammar.{Expression, tighter, operator_token, is_joined, is_comparison, is_call, Spells, a_number, a_name, in_parentheses, a_call, as_tighter, prefixed, joined, compared, a_choice}
use Rattle.dia_exprs.specs.Printable.{IsPrintableTree}
use Rattle.dia_exprs.proofs.OperatorLaws.{each, is-written}
use Rattle.dia_print.specs.ExpressionTokens.{prefix_token, is_compound, enclosed, call_tokens, choice_tokens, tokens_of, operand_tokens}

-- ---- the tokens spell the expression

-- an expression of a level stands at those above it
module _ {ts : List Token} {x : Expression} where
  prefixed-of : Spells Factor ts x → Spells Prefixed ts x
  prefixed-of s = as_tighter Prefixed ts x s

  product-of : Spells Prefixed ts x → Spells Product ts x
  product-of s = as_tighter Product ts x s

  sum-of : Spells Product ts x → Spells Sum ts x
  sum-of s = as_tighter Sum ts x s

  comparison-of : Spells Sum ts x → Spells Comparison ts x
  comparison-of s = as_tighter Comparison ts x s

  conjunction-of : Spells Comparison ts x → Spells Conjunction ts x
  conjunction-of s = as_tighter Conjunction ts x s

  disjunction-of : Spells Conjunction ts x → Spells Disjunction ts x
  disjunction-of s = as_tighter Disjunction ts x s

  whole-of : Spells Disjunction ts x → Spells Whole ts x
  whole-of s = as_tighter Whole ts x s

  at-level : (l : Level) → Spells Factor ts x → Spells l ts x
  at-level Factor s = s
  at-level Prefixed s = prefixed-of s
  at-level Product s = product-of (prefixed-of s)
  at-level Sum s = sum-of (product-of (prefixed-of s))
  at-level Comparison s = comparison-of (sum-of (product-of (prefixed-of s)))
  at-level Conjunction s = conjunction-of (comparison-of (sum-of (product-of (prefixed-of s))))
  at-level Disjunction s = disjunction-of (conjunction-of (comparison-of (sum-of (product-of (prefixed-of s)))))
  at-level Whole s = whole-of (disjunction-of (conjunction-of (comparison-of (sum-of (product-of (prefixed-of s))))))

  whole : (l : Level) → Spells l ts x → Spells Whole ts x
  whole Whole s = s
  whole Disjunction s = whole-of s
  whole Conjunction s = whole-of (disjunction-of s)
  whole Comparison s = whole-of (disjunction-of (conjunction-of s))
  whole Sum s = whole-of (disjunction-of (conjunction-of (comparison-of s)))
  whole Product s = whole-of (disjunction-of (conjunction-of (comparison-of (sum-of s))))
  whole Prefixed s = whole-of (disjunction-of (conjunction-of (comparison-of (sum-of (product-of s)))))
  whole Factor s = whole-of (disjunction-of (conjunction-of (comparison-of (sum-of (product-of (prefixed-of s))))))

spells-unary : (o : UnOp) (xs : List Token) (x : Expression) → Spells Factor xs x → Spells Whole (prefix_token o ∷ xs) (unary o x)
spells-unary prefix_op.Neg xs x s = whole Prefixed (prefixed (prefix_token prefix_op.Neg) prefix_op.Neg xs x refl (at-level Prefixed s))
spells-unary prefix_op.Not xs x s = whole Prefixed (prefixed (prefix_token prefix_op.Not) prefix_op.Not xs x refl (at-level Prefixed s))

-- an operator that is joined at the level
spells-joined : (l : Level) (o : BinOp) (xs ys : List Token) (x y : Expression) → is_joined l (notation_of o) ≡ true → Spells Factor xs x → Spells Factor ys y → Spells Whole (xs ++ operator_token o ∷ ys) (binary o x y)
spells-joined l o xs ys x y e s t = whole l (joined l xs (operator_token o) ys o x y (at-level l s) (is-written (is_joined l) o e) (at-level (tighter l) t))

spells-infix : (n : Notation) (o : BinOp) (xs ys : List Token) (x y : Expression) → notation_of o ≡ n → is_call n ≡ false → Spells Factor xs x → Spells Factor ys y
    → Spells Whole (xs ++ operator_token o ∷ ys) (binary o x y)
spells-infix notation.Disjunction o xs ys x y is e s t = spells-joined Disjunction o xs ys x y (rw is refl) s t
spells-infix notation.Conjunction o xs ys x y is e s t = spells-joined Conjunction o xs ys x y (rw is refl) s t
spells-infix notation.Comparison o xs ys x y is e s t = whole Comparison (compared xs (operator_token o) ys o x y (at-level Sum s) (is-written is_comparison o (rw is refl)) (at-level Sum t))
spells-infix notation.Sum o xs ys x y is e s t = spells-joined Sum o xs ys x y (rw is refl) s t
spells-infix notation.Product o xs ys x y is e s t = spells-joined Product o xs ys x y (rw is refl) s t
spells-infix notation.Call o xs ys x y is e s t = absurd cc

-- as a whole, and as an operand
record IsWritten (x : Expression) : Type 0 where
  tokens : Spells Whole (tokens_of x) x
  operand : Spells Factor (operand_tokens x) x

factor : (x : Expression) → is_compound x ≡ false → Spells Factor (tokens_of x) x → IsWritten x
factor x e s = record { tokens = whole Factor s; operand = rw e s }

compound : (x : Expression) → is_compound x ≡ true → Spells Whole (tokens_of x) x → IsWritten x
compound x e s = record { tokens = s; operand = rw e (in_parentheses (tokens_of x) x s) }

written : (x : Expression) → IsWritten x
written (number z) = factor (number z) refl (a_number z)
written (variable n) = factor (variable n) refl (a_name n)
written (unary o x) = compound (unary o x) refl (spells-unary o (operand_tokens x) x (written x).operand)
written (binary o x y) =
    let left = written x in
    let right = written y in
    elim (cases_Bool (is_call (notation_of o))) [
      | inl e ↦ factor (binary o x y) (rw e refl) (rw e (a_call (operator_token o) o (tokens_of x) (tokens_of y) x y (is-written is_call o e) left.tokens right.tokens))
      | inr e ↦ compound (binary o x y) (rw e refl) (rw e (spells-infix (notation_of o) o (operand_tokens x) (operand_tokens y) x y refl e left.operand right.operand))
    ]
written (choice c x y) =
    compound (choice c x y) refl
    (a_choice (operand_tokens c) (operand_tokens x) (operand_tokens y) c x y (whole Factor (written c).operand) (whole Factor (written x).operand) (whole Factor (written y).operand))

pub spells-tokens : (x : Expression) → Spells Whole (tokens_of x) x
spells-tokens x = (written x).tokens

-- ---- negative numbers

-- the tokens after are no number
abbrev Follows : List Token → Type 0
Follows rest = (s : Bool) → KeepsSigns s rest

prefix-signs : (o : UnOp) → signs (piece_of (prefix_token o)) ≡ true
prefix-signs prefix_op.Neg = refl
prefix-signs prefix_op.Not = refl

operator-signs : (o : BinOp) → signs (piece_of (operator_token o)) ≡ true
operator-signs = each (λ o. signs (piece_of (operator_token o))) refl

prefix-unsigned : (o : UnOp) → IsUnsigned (prefix_token o)
prefix-unsigned prefix_op.Neg = tt
prefix-unsigned prefix_op.Not = tt

-- a `-` after a number is no sign
unsigned : (t : Token) → signs (piece_of t) ≡ true → IsUnsigned t
unsigned (Number z) e = absurd cc
unsigned _ e = tt

after-prefix : (o : UnOp) (rest : List Token) → KeepsSigns true rest → Follows (prefix_token o ∷ rest)
after-prefix o rest k s = (λ e. prefix-unsigned o, subst (λ b. KeepsSigns b rest) (sym (prefix-signs o)) k)

after-operator : (o : BinOp) (rest : List Token) → KeepsSigns true rest → Follows (operator_token o ∷ rest)
after-operator o rest k s = (λ e. unsigned (operator_token o) (operator-signs o), subst (λ b. KeepsSigns b rest) (sym (operator-signs o)) k)

abbrev KeepsAt : List Token → Type 0
KeepsAt ts = (rest : List Token) → Follows rest → KeepsSigns true (ts ++ rest)

enclosed-keeps : (b : Bool) (ts : List Token) → KeepsAt ts → KeepsAt (enclosed b ts)
enclosed-keeps false ts k rest f = k rest f
enclosed-keeps true ts k rest f =
    (λ e. tt, subst (KeepsSigns true) (sym (append_assoc ts (Symbol symbol.Close ∷ []) rest)) (k (Symbol symbol.Close ∷ rest) (λ s. (λ e. tt, f false))))

called-keeps : (o : BinOp) (xs ys : List Token) → KeepsAt xs → KeepsAt ys → KeepsAt (call_tokens o xs ys)
called-keeps o xs ys k l rest f =
    let after_second : List Token = Symbol symbol.Close ∷ rest in
    let after_first : List Token = Symbol symbol.Comma ∷ ((ys ++ Symbol symbol.Close ∷ []) ++ rest) in
    let second : KeepsSigns true ((ys ++ Symbol symbol.Close ∷ []) ++ rest) = subst (KeepsSigns true) (sym (append_assoc ys (Symbol symbol.Close ∷ []) rest)) (l after_second (λ s. (λ e. tt, f false))) in
    let first : KeepsSigns true ((xs ++ Symbol symbol.Comma ∷ (ys ++ Symbol symbol.Close ∷ [])) ++ rest) =
    subst (KeepsSigns true) (sym (append_assoc xs (Symbol symbol.Comma ∷ (ys ++ Symbol symbol.Close ∷ [])) rest)) (k after_first (λ s. (λ e. tt, second))) in
    after-operator o (Symbol symbol.Open ∷ ((xs ++ Symbol symbol.Comma ∷ (ys ++ Symbol symbol.Close ∷ [])) ++ rest)) (λ e. tt, first) true

between-keeps : (o : BinOp) (xs ys : List Token) → KeepsAt xs → KeepsAt ys → KeepsAt (xs ++ operator_token o ∷ ys)
between-keeps o xs ys k l rest f = subst (KeepsSigns true) (sym (append_assoc xs (operator_token o ∷ ys) rest)) (k (operator_token o ∷ (ys ++ rest)) (after-operator o (ys ++ rest) (l rest f)))

chosen-keeps : (cs xs ys : List Token) → KeepsAt cs → KeepsAt xs → KeepsAt ys → KeepsAt (choice_tokens cs xs ys)
chosen-keeps cs xs ys j k l rest f =
    let second : KeepsSigns true ((xs ++ Keyword keyword.Else ∷ ys) ++ rest) = subst (KeepsSigns true) (sym (append_assoc xs (Keyword keyword.Else ∷ ys) rest)) (k (Keyword keyword.Else ∷ (ys ++ rest)) (λ s. (λ e. tt, l rest f))) in (
      λ e. tt,
      subst (KeepsSigns true) (sym (append_assoc cs (Keyword keyword.Then ∷ (xs ++ Keyword keyword.Else ∷ ys)) rest))
          (j (Keyword keyword.Then ∷ ((xs ++ Keyword keyword.Else ∷ ys) ++ rest)) (λ s. (λ e. tt, second))),
    )

either-keeps : (b : Bool) (xs ys : List Token) → KeepsAt xs → KeepsAt ys → KeepsAt (cond b xs ys)
either-keeps true xs ys k l = k
either-keeps false xs ys k l = l

pub keeps-tokens : (x : Expression) (rest : List Token) → ((s : Bool) → KeepsSigns s rest) → KeepsSigns true (tokens_of x ++ rest)
keeps-tokens (number z) rest f = (λ e. absurd cc, f false)
keeps-tokens (variable n) rest f = (λ e. tt, f false)
keeps-tokens (unary o x) rest f = after-prefix o (operand_tokens x ++ rest) (enclosed-keeps (is_compound x) (tokens_of x) (keeps-tokens x) rest f) true
keeps-tokens (binary o x y) rest f =
    either-keeps (is_call (notation_of o)) (call_tokens o (tokens_of x) (tokens_of y)) (operand_tokens x ++ operator_token o ∷ operand_tokens y)
    (called-keeps o (tokens_of x) (tokens_of y) (keeps-tokens x) (keeps-tokens y))
    (between-keeps o (operand_tokens x) (operand_tokens y) (enclosed-keeps (is_compound x) (tokens_of x) (keeps-tokens x)) (enclosed-keeps (is_compound y) (tokens_of y) (keeps-tokens y)))
    rest f
keeps-tokens (choice c x y) rest f =
    chosen-keeps (operand_tokens c) (operand_tokens x) (operand_tokens y)
    (enclosed-keeps (is_compound c) (tokens_of c) (keeps-tokens c)) (enclosed-keeps (is_compound x) (tokens_of x) (keeps-tokens x)) (enclosed-keeps (is_compound y) (tokens_of y) (keeps-tokens y))
    rest f

-- ---- each token can be printed

abbrev Each : List Token → Type 0
Each ts = AllByRecursion IsPrintableToken ts

pub both-parts : {X : Type 0} (P : X → Type 0) (xs ys : List X) → AllByRecursion P xs → AllByRecursion P ys → AllByRecursion P (xs ++ ys)
both-parts P [] ys h k = k
both-parts P (x ∷ xs) ys h k = (h.0, both-parts P xs ys h.1 k)

each-append : (ts us : List Token) → Each ts → Each us → Each (ts ++ us)
each-append ts us h k = both-parts IsPrintableToken ts us h k

enclosed-each : (b : Bool) (ts : List Token) → Each ts → Each (enclosed b ts)
enclosed-each false ts h = h
enclosed-each true ts h = (tt, each-append ts (Symbol symbol.Close ∷ []) h (tt, tt))

-- a `-` after a name or a number is no sign
printable : (t : Token) → signs (piece_of t) ≡ true → IsPrintableToken t
printable (Name text) e = absurd cc
printable (Number z) e = absurd cc
printable _ e = tt

operator-each : (o : BinOp) → IsPrintableToken (operator_token o)
operator-each o = printable (operator_token o) (operator-signs o)

called-each : (o : BinOp) (xs ys : List Token) → Each xs → Each ys → Each (call_tokens o xs ys)
called-each o xs ys h k = (operator-each o, (tt, each-append xs _ h (tt, each-append ys (Symbol symbol.Close ∷ []) k (tt, tt))))

between-each : (o : BinOp) (xs ys : List Token) → Each xs → Each ys → Each (xs ++ operator_token o ∷ ys)
between-each o xs ys h k = each-append xs (operator_token o ∷ ys) h (operator-each o, k)

either-each : (b : Bool) (xs ys : List Token) → Each xs → Each ys → Each (cond b xs ys)
either-each true xs ys h k = h
either-each false xs ys h k = k

pub each-printable : (x : Expression) → IsPrintableTree x → AllByRecursion IsPrintableToken (tokens_of x)
each-printable (number z) h = (h, tt)
each-printable (variable n) h = (h, tt)
each-printable (unary prefix_op.Neg x) h = (tt, enclosed-each (is_compound x) (tokens_of x) (each-printable x h))
each-printable (unary prefix_op.Not x) h = (tt, enclosed-each (is_compound x) (tokens_of x) (each-printable x h))
each-printable (binary o x y) h =
    let left = each-printable x h.0 in
    let right = each-printable y h.1 in
    either-each (is_call (notation_of o)) (call_tokens o (tokens_of x) (tokens_of y)) (operand_tokens x ++ operator_token o ∷ operand_tokens y) (called-each o (tokens_of x) (tokens_of y) left right)
    (between-each o (operand_tokens x) (operand_tokens y) (enclosed-each (is_compound x) (tokens_of x) left) (enclosed-each (is_compound y) (tokens_of y) right))
each-printable (choice c x y) h = (
  tt,
  each-append (operand_tokens c) _ (enclosed-each (is_compound c) (tokens_of c) (each-printable c h.0))
      (tt, each-append (operand_tokens x) _ (enclosed-each (is_compound x) (tokens_of x) (each-printable x h.1)) (tt, enclosed-each (is_compound y) (tokens_of y) (each-printable y h.2))),
)

-- ---- how deep parentheses stand

-- if so many parentheses are open before, no more than m are open at once in the tokens and what stands after them
abbrev Shallow : ℕ → List Token → Type 0
Shallow size ts = (k m : ℕ) (rest : List Token) → k + size ≤ m + 1 → deepest k rest ≤ m → deepest k (ts ++ rest) ≤ m

-- a token that is no parenthesis
abbrev IsLevel : Token → Type 0
IsLevel t = (k : ℕ) → opened k t ≡ k

max-le : (a b m : ℕ) → a ≤ m → b ≤ m → max a b ≤ m
max-le a b m h k = omega (arith, h, k)

shallow-more : (a b : ℕ) (ts : List Token) → a ≤ b → Shallow a ts → Shallow b ts
shallow-more a b ts le h k m rest fits after = h k m rest (omega (arith, le, fits)) after

shallow-append : (n : ℕ) (xs ys : List Token) → Shallow n xs → Shallow n ys → Shallow n (xs ++ ys)
shallow-append n xs ys h l k m rest fits after = rw (append_assoc xs ys rest) (h k m (ys ++ rest) fits (l k m rest fits after))

shallow-level : (n : ℕ) (t : Token) (ts : List Token) → 1 ≤ n → IsLevel t → Shallow n ts → Shallow n (t ∷ ts)
shallow-level n t ts some l h k m rest fits after = max-le k (deepest (opened k t) (ts ++ rest)) m (omega (arith, some, fits)) (rw (l k) (h k m rest fits after))

-- in parentheses
shallow-inside : (n : ℕ) (ts : List Token) → 1 ≤ n → Shallow n ts → Shallow (n + 1) (Symbol symbol.Open ∷ (ts ++ Symbol symbol.Close ∷ []))
shallow-inside n ts some h k m rest fits after =
    let back : k + 1 - 1 ≡ k = omega arith in
    let last : deepest (k + 1) (Symbol symbol.Close ∷ rest) ≤ m = max-le (k + 1) (deepest (k + 1 - 1) rest) m (omega (arith, some, fits)) (rw back after) in
    let inside : deepest (k + 1) (ts ++ Symbol symbol.Close ∷ rest) ≤ m = h (k + 1) m (Symbol symbol.Close ∷ rest) (omega (arith, fits)) last in
    max-le k (deepest (k + 1) ((ts ++ Symbol symbol.Close ∷ []) ++ rest)) m (omega (arith, some, fits)) (rw (append_assoc ts (Symbol symbol.Close ∷ []) rest) inside)

enclosed-shallow : (b : Bool) (n : ℕ) (ts : List Token) → 1 ≤ n → Shallow n ts → Shallow (n + 1) (enclosed b ts)
enclosed-shallow false n ts some h = shallow-more n (n + 1) ts (omega arith) h
enclosed-shallow true n ts some h = shallow-inside n ts some h

prefix-level : (o : UnOp) → IsLevel (prefix_token o)
prefix-level prefix_op.Neg k = refl
prefix-level prefix_op.Not k = refl

node-level : (t : Token) → has_node t ≡ true → IsLevel t
node-level (Symbol symbol.Open) e k = absurd cc
node-level (Symbol symbol.Close) e k = absurd cc
node-level _ e k = refl

operator-level : (o : BinOp) → IsLevel (operator_token o)
operator-level o = node-level (operator_token o) (each (λ u. has_node (operator_token u)) refl o)

called-shallow : (n : ℕ) (o : BinOp) (xs ys : List Token) → 1 ≤ n → Shallow n xs → Shallow n ys → Shallow (n + 1) (call_tokens o xs ys)
called-shallow n o xs ys some h l =
    let arguments : List Token = xs ++ Symbol symbol.Comma ∷ ys in
    let both : Shallow n arguments = shallow-append n xs (Symbol symbol.Comma ∷ ys) h (shallow-level n (Symbol symbol.Comma) ys some (λ k. refl) l) in
    let same : arguments ++ Symbol symbol.Close ∷ [] ≡ xs ++ Symbol symbol.Comma ∷ (ys ++ Symbol symbol.Close ∷ []) = append_assoc xs (Symbol symbol.Comma ∷ ys) (Symbol symbol.Close ∷ []) in
    shallow-level (n + 1) (operator_token o) (Symbol symbol.Open ∷ (xs ++ Symbol symbol.Comma ∷ (ys ++ Symbol symbol.Close ∷ []))) (omega arith) (operator-level o) (subst (λ ts. Shallow (n + 1) (Symbol symbol.Open ∷ ts)) same (shallow-inside n arguments some both))

either-shallow : (b : Bool) (n : ℕ) (xs ys : List Token) → Shallow n xs → Shallow n ys → Shallow n (cond b xs ys)
either-shallow true n xs ys h l = h
either-shallow false n xs ys h l = l

shallow-tokens : (x : Expression) → Shallow (size_of x) (tokens_of x)
shallow-tokens (number z) = λ k m rest fits after. max-le k (deepest k rest) m (omega (arith, fits)) after
shallow-tokens (variable n) = λ k m rest fits after. max-le k (deepest k rest) m (omega (arith, fits)) after
shallow-tokens (unary o x) =
    shallow-level (size_of x + 1) (prefix_token o) (operand_tokens x) (omega arith) (prefix-level o) (enclosed-shallow (is_compound x) (size_of x) (tokens_of x) (one_node x) (shallow-tokens x))
shallow-tokens (binary o x y) =
    let n : ℕ = size_of x + size_of y in
    let some : 1 ≤ n = omega (arith, one_node x) in
    let left : Shallow (n + 1) (operand_tokens x) = shallow-more (size_of x + 1) (n + 1) (operand_tokens x) (omega arith) (enclosed-shallow (is_compound x) (size_of x) (tokens_of x) (one_node x) (shallow-tokens x)) in
    let right : Shallow (n + 1) (operand_tokens y) = shallow-more (size_of y + 1) (n + 1) (operand_tokens y) (omega arith) (enclosed-shallow (is_compound y) (size_of y) (tokens_of y) (one_node y) (shallow-tokens y)) in
    either-shallow (is_call (notation_of o)) (n + 1) (call_tokens o (tokens_of x) (tokens_of y)) (operand_tokens x ++ operator_token o ∷ operand_tokens y)
    (called-shallow n o (tokens_of x) (tokens_of y) some (shallow-more (size_of x) n (tokens_of x) (omega arith) (shallow-tokens x)) (shallow-more (size_of y) n (tokens_of y) (omega arith) (shallow-tokens y)))
    (shallow-append (n + 1) (operand_tokens x) (operator_token o ∷ operand_tokens y) left (shallow-level (n + 1) (operator_token o) (operand_tokens y) (omega arith) (operator-level o) right))
shallow-tokens (choice c x y) =
    let n : ℕ = size_of c + size_of x + size_of y + 1 in
    let some : 1 ≤ n = omega arith in
    let part : (e : Expression) → size_of e + 1 ≤ n → Shallow (size_of e) (tokens_of e) → Shallow n (operand_tokens e) =
    λ e le h. shallow-more (size_of e + 1) n (operand_tokens e) le (enclosed-shallow (is_compound e) (size_of e) (tokens_of e) (one_node e) h) in
    shallow-level n (Keyword keyword.If) (operand_tokens c ++ Keyword keyword.Then ∷ (operand_tokens x ++ Keyword keyword.Else ∷ operand_tokens y)) some (λ k. refl)
    (shallow-append n (operand_tokens c) (Keyword keyword.Then ∷ (operand_tokens x ++ Keyword keyword.Else ∷ operand_tokens y)) (part c (omega arith) (shallow-tokens c)) (shallow-level n (Keyword keyword.Then) (operand_tokens x ++ Keyword keyword.Else ∷ operand_tokens y) some (λ k. refl)
    (shallow-append n (operand_tokens x) (Keyword keyword.Else ∷ operand_tokens y) (part x (omega arith) (shallow-tokens x)) (shallow-level n (Keyword keyword.Else) (operand_tokens y) some (λ k. refl) (part y (omega arith) (shallow-tokens y))))))

pub shallow : (x : Expression) (k m : ℕ) (rest : List Token) → k + size_of x ≤ m + 1 → deepest k rest ≤ m → deepest k (tokens_of x ++ rest) ≤ m
shallow x = shallow-tokens x
