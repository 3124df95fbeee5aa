-- What is spelled is read.
use Rattle.std.proofs.Common.{◌≡◌, ℕ, zero, suc, ◌≤◌, Bool, true, false, List, [], ◌∷◌, ◌++◌, length, Option, Some, None, refl, sym, ap, subst, ◌∙◌, append_assoc, arith, lit≤}
use Rattle.std.specs.Prelude.{not, ◌||◌}
use Rattle.std.proofs.lemmas.List.{length-append}
use Rattle.dbp_plan.specs.declared.node.BinOp.{BinOp}
use Rattle.dbp_plan.specs.declared.node.Notation.{Notation}
use Rattle.dbp_plan.specs.declared.node.Notation.TheVariants as notation
use Rattle.dbp_plan.specs.declared.node.UnOp.{UnOp}
use Rattle.dbp_plan.specs.Operators.{notation_of}
use Rattle.dbp_plan.specs.Tree.{unary, binary, choice}
use Rattle.dia_tokens.specs.declared.token.Token.{Token}
use Rattle.dia_tokens.specs.declared.token.Token.TheVariants as token
use Rattle.dia_tokens.specs.declared.token.Keyword.TheVariants as keyword
use Rattle.dia_tokens.specs.declared.token.Symbol.TheVariants as symbol
use Rattle.dia_exprs.specs.declared.level.Level.{Level}
use Rattle.dia_exprs.specs.declared.level.Level.TheVariants.{Whole, Disjunction, Conjunction, Comparison, Sum, Product, Prefixed, Factor}
use Rattle.dia_exprs.specs.Grammar.{Expression, tighter, operator_token, operator_of, is_joined, is_comparison, is_call, if_written, operator, comparison, prefix, called, Spells, a_number, a_name, in_parentheses, a_call, as_tighter, prefixed, joined, compared, a_choice}
use Rattle.dia_exprs.proofs.OperatorLaws.{each, token-is, written-is}
use Rattle.dia_exprs.specs.Reading.{◌>>=◌, Place, Reader, more, level_at, compare_rest, compared_at, prefixed_at, inside_at, call_at, factor_of, disjunction_in, choice_at, whole_at, reader}

-- ---- what follows, and what begins

-- how tight an operator of the notation binds between two operands; 0 for a call
abbrev pub tightness : Notation → ℕ
tightness notation.Call = 0
tightness notation.Disjunction = 1
tightness notation.Conjunction = 2
tightness notation.Comparison = 3
tightness notation.Sum = 4
tightness notation.Product = 5

-- how tight the operator binds, if there is one
abbrev pub strength_of : Option BinOp → ℕ
strength_of None = 0
strength_of (Some o) = tightness (notation_of o)

abbrev pub strength : Token → ℕ
strength t = strength_of (operator_of t)

-- the tightest operator that may come after an expression of the level
abbrev pub limit : Level → ℕ
limit Whole = 0
limit Disjunction = 1
limit Conjunction = 2
limit Comparison = 2
limit Sum = 4
limit _ = 5

abbrev pub Follows : Level → List Token → Type 0
Follows l [] = Unit {0}
Follows l (t ∷ ts) = strength t ≤ limit l

Follows-tighter : (l : Level) (ts : List Token) → Follows l ts → Follows (tighter l) ts
Follows-tighter l [] f = tt
Follows-tighter Whole (t ∷ ts) f = omega arith
Follows-tighter Disjunction (t ∷ ts) f = omega arith
Follows-tighter Conjunction (t ∷ ts) f = f
Follows-tighter Comparison (t ∷ ts) f = omega arith
Follows-tighter Sum (t ∷ ts) f = omega arith
Follows-tighter Product (t ∷ ts) f = f
Follows-tighter Prefixed (t ∷ ts) f = f
Follows-tighter Factor (t ∷ ts) f = f

-- whether an expression of the level may begin with the token, as far as `if` and operators go
abbrev pub starts : Level → Token → Bool
starts Whole t = true
starts _ (token.Keyword keyword.If) = false
starts Factor (token.Symbol symbol.Minus) = false
starts Factor (token.Keyword keyword.Not) = false
starts _ t = true

starts-looser : (l : Level) (t : Token) → starts (tighter l) t ≡ true → starts l t ≡ true
starts-looser Whole t e = refl
starts-looser Disjunction t e = e
starts-looser Conjunction t e = e
starts-looser Comparison t e = e
starts-looser Sum t e = e
starts-looser Product t e = e
starts-looser Prefixed (token.Keyword keyword.If) e = e
starts-looser Prefixed (token.Keyword keyword.Not) e = refl
starts-looser Prefixed (token.Symbol symbol.Minus) e = refl
starts-looser Prefixed _ e = refl
starts-looser Factor t e = e

starts-prefix : (t : Token) (o : UnOp) → prefix t ≡ Some o → starts Prefixed t ≡ true
starts-prefix (token.Symbol symbol.Minus) o e = refl
starts-prefix (token.Keyword keyword.Not) o e = refl
starts-prefix _ o e = absurd cc

starts-call : (t : Token) (o : BinOp) → called t ≡ Some o → starts Factor t ≡ true
starts-call t o e =
    let w = written-is is_call (operator_of t) o e in
    let all = each (λ u. not (is_call (notation_of u)) || starts Factor (operator_token u)) refl o in
    subst (λ (u : Token). starts Factor u ≡ true) (token-is t o w.0) (rw w.1 at all)

pub first : (l : Level) (ts : List Token) (x : Expression) → Spells l ts x → (t : Token) × (us : List Token) × (ts ≡ t ∷ us) × (starts l t ≡ true)
first l ts x (a_number value) = (token.Number value, [], refl, refl)
first l ts x (a_name name) = (token.Name name, [], refl, refl)
first l ts x (in_parentheses us y s) = (token.Symbol symbol.Open, us ++ token.Symbol symbol.Close ∷ [], refl, refl)
first l ts x (a_call t o a b y z e s u) = (t, token.Symbol symbol.Open ∷ (a ++ token.Symbol symbol.Comma ∷ (b ++ token.Symbol symbol.Close ∷ [])), refl, starts-call t o e)
first l ts x (as_tighter l' ts' x' s) = let f = first (tighter l') ts' x' s in (f.0, f.1, f.2, starts-looser l' f.0 f.3)
first l ts x (prefixed t o us y e s) = (t, us, refl, starts-prefix t o e)
first l ts x (joined l' a t b o y z s e u) = let f = first l' a y s in (f.0, f.1 ++ t ∷ b, ap (λ (vs : List Token). vs ++ t ∷ b) f.2, f.3)
first l ts x (compared a t b o y z s e u) = let f = first Sum a y s in (f.0, f.1 ++ t ∷ b, ap (λ (vs : List Token). vs ++ t ∷ b) f.2, f.3)
first l ts x (a_choice a b c u v w s d e) = (token.Keyword keyword.If, a ++ token.Keyword keyword.Then ∷ (b ++ token.Keyword keyword.Else ∷ c), refl, refl)

-- ---- reading by level

-- What is still read once so much of a level has been read.
abbrev pub Continues : ℕ → Level → Expression → List Token → Option Place → Type 0
Continues n Disjunction x rest r = (k : ℕ) × (length rest ≤ k) × (r ≡ more Disjunction (reader n Conjunction) k x rest)
Continues n Conjunction x rest r = (k : ℕ) × (length rest ≤ k) × (r ≡ more Conjunction (reader n Comparison) k x rest)
Continues n Sum x rest r = (k : ℕ) × (length rest ≤ k) × (r ≡ more Sum (reader n Product) k x rest)
Continues n Product x rest r = (k : ℕ) × (length rest ≤ k) × (r ≡ more Product (reader n Prefixed) k x rest)
Continues n _ x rest r = r ≡ Some (x, rest)

pub more-none : (l : Level) (r : Reader) (n : ℕ) (x : Expression) (t : Token) (ts : List Token) → operator l t ≡ None → more l r n x (t ∷ ts) ≡ Some (x, t ∷ ts)
unfolding more
more-none l r zero x t ts e = refl
more-none l r (suc n) x t ts e = rw (e, more) refl

pub more-nil : (l : Level) (r : Reader) (n : ℕ) (x : Expression) → more l r n x [] ≡ Some (x, [])
unfolding more
more-nil l r zero x = refl
more-nil l r (suc n) x = refl

pub more-some : (l : Level) (r : Reader) (n : ℕ) (x : Expression) (t : Token) (o : BinOp) (ts : List Token) → operator l t ≡ Some o
    → more l r (suc n) x (t ∷ ts) ≡ (r ts >>= λ p. more l r n (binary o x p.0) p.1)
unfolding more
more-some l r n x t o ts e = rw (e, more) refl

too-tight : (l : Level) (n : Notation) → tightness n ≤ limit l → is_joined (tighter l) n ≡ false
too-tight Whole notation.Disjunction h = absurd (omega arith)
too-tight Disjunction notation.Conjunction h = absurd (omega arith)
too-tight Comparison notation.Sum h = absurd (omega arith)
too-tight Sum notation.Product h = absurd (omega arith)
too-tight _ _ h = refl

no_operator : (l : Level) (r : Option BinOp) → strength_of r ≤ limit l → if_written (is_joined (tighter l)) r ≡ None
no_operator l None h = refl
no_operator l (Some o) h = rw (too-tight l (notation_of o) h) refl

-- a level is done if no operator of it comes
abbrev pub Ends : Level → List Token → Type 0
Ends l [] = Unit {0}
Ends l (t ∷ ts) = operator l t ≡ None

pub more-ends : (l : Level) (r : Reader) (n : ℕ) (x : Expression) (rest : List Token) → Ends l rest → more l r n x rest ≡ Some (x, rest)
more-ends l r n x [] f = more-nil l r n x
more-ends l r n x (t ∷ ts) f = more-none l r n x t ts f

ended : (n : ℕ) (l : Level) (x : Expression) (rest : List Token) (r : Option Place) → Ends l rest → Continues n l x rest r → r ≡ Some (x, rest)
ended n Disjunction x rest r f c = c.2 ∙ more-ends Disjunction (reader n Conjunction) c.0 x rest f
ended n Conjunction x rest r f c = c.2 ∙ more-ends Conjunction (reader n Comparison) c.0 x rest f
ended n Sum x rest r f c = c.2 ∙ more-ends Sum (reader n Product) c.0 x rest f
ended n Product x rest r f c = c.2 ∙ more-ends Product (reader n Prefixed) c.0 x rest f
ended n _ x rest r f c = c

Ends-tighter : (l : Level) (rest : List Token) → Follows l rest → Ends (tighter l) rest
Ends-tighter l [] f = tt
Ends-tighter l (t ∷ ts) f = no_operator l (operator_of t) f

pub done : (n : ℕ) (l : Level) (x : Expression) (rest : List Token) (r : Option Place) → Follows l rest → Continues n (tighter l) x rest r → r ≡ Some (x, rest)
done n l x rest r f c = ended n (tighter l) x rest r (Ends-tighter l rest f) c

loose : (n : Notation) → tightness n ≤ 2 → is_comparison n ≡ false
loose notation.Comparison h = absurd (omega arith)
loose _ h = refl

no_comparison : (r : Option BinOp) → strength_of r ≤ 2 → if_written is_comparison r ≡ None
no_comparison None h = refl
no_comparison (Some o) h = rw (loose (notation_of o) h) refl

pub compare-none : (operand : Reader) (x : Expression) (t : Token) (ts : List Token) → comparison t ≡ None → compare_rest operand x (t ∷ ts) ≡ Some (x, t ∷ ts)
unfolding compare_rest
compare-none operand x t ts e = rw (e, compare_rest) refl

not_compared : (operand : Reader) (x : Expression) (rest : List Token) → Follows Comparison rest → compare_rest operand x rest ≡ Some (x, rest)
unfolding compare_rest
not_compared operand x [] f = refl
not_compared operand x (t ∷ ts) f = compare-none operand x t ts (no_comparison (operator_of t) f)

no_prefix : (t : Token) → starts Factor t ≡ true → prefix t ≡ None
no_prefix (token.Symbol symbol.Minus) e = absurd cc
no_prefix (token.Keyword keyword.Not) e = absurd cc
no_prefix _ e = refl

pub not_prefixed : (operand : Reader) (t : Token) (ts : List Token) → prefix t ≡ None → prefixed_at operand (t ∷ ts) ≡ operand (t ∷ ts)
unfolding prefixed_at
not_prefixed operand t ts e = rw (e, prefixed_at) refl

pub not_if : (n : ℕ) (t : Token) (ts : List Token) → starts Disjunction t ≡ true → whole_at (suc n) (t ∷ ts) ≡ disjunction_in (whole_at n) (t ∷ ts)
unfolding whole_at
not_if n (token.Keyword keyword.If) ts e = absurd cc
not_if n _ ts e = refl

-- a level begins with the next tighter one
pub begins : (n : ℕ) (l : Level) (t : Token) (us : List Token) (x : Expression) (rest : List Token) → starts (tighter l) t ≡ true → Follows l rest → reader n (tighter l) (t ∷ us) ≡ Some (x, rest)
    → Continues n l x rest (reader n l (t ∷ us))
unfolding level_at compared_at
begins n Whole t us x rest s f e = not_if n t us s ∙ e
begins n Disjunction t us x rest s f e = (length rest, omega arith, rw (e, level_at) refl)
begins n Conjunction t us x rest s f e = (length rest, omega arith, rw (e, level_at) refl)
begins n Comparison t us x rest s f e = rw (e, compared_at) (not_compared (reader n Sum) x rest f)
begins n Sum t us x rest s f e = (length rest, omega arith, rw (e, level_at) refl)
begins n Product t us x rest s f e = (length rest, omega arith, rw (e, level_at) refl)
begins n Prefixed t us x rest s f e = not_prefixed (factor_of (whole_at n)) t us (no_prefix t s) ∙ e
begins n Factor t us x rest s f e = e

more-read : (l : Level) (r : Reader) (n : ℕ) (x : Expression) (t : Token) (o : BinOp) (ts : List Token) (y : Expression) (rest : List Token) → operator l t ≡ Some o → r ts ≡ Some (y, rest)
    → more l r (suc n) x (t ∷ ts) ≡ more l r n (binary o x y) rest
more-read l r n x t o ts y rest e h = more-some l r n x t o ts e ∙ rw h refl

pub next : (n : ℕ) (l : Level) (x : Expression) (t : Token) (o : BinOp) (ts : List Token) (y : Expression) (rest : List Token) (r : Option Place) → operator l t ≡ Some o
    → reader n (tighter l) ts ≡ Some (y, rest) → length rest ≤ length ts → Continues n l x (t ∷ ts) r → Continues n l (binary o x y) rest r
next n Disjunction x t o ts y rest r e h le (zero, g, c) = absurd (omega arith)
next n Disjunction x t o ts y rest r e h le (suc k, g, c) = (k, omega arith, c ∙ more-read Disjunction (reader n Conjunction) k x t o ts y rest e h)
next n Conjunction x t o ts y rest r e h le (zero, g, c) = absurd (omega arith)
next n Conjunction x t o ts y rest r e h le (suc k, g, c) = (k, omega arith, c ∙ more-read Conjunction (reader n Comparison) k x t o ts y rest e h)
next n Sum x t o ts y rest r e h le (zero, g, c) = absurd (omega arith)
next n Sum x t o ts y rest r e h le (suc k, g, c) = (k, omega arith, c ∙ more-read Sum (reader n Product) k x t o ts y rest e h)
next n Product x t o ts y rest r e h le (zero, g, c) = absurd (omega arith)
next n Product x t o ts y rest r e h le (suc k, g, c) = (k, omega arith, c ∙ more-read Product (reader n Prefixed) k x t o ts y rest e h)
next n l x t o ts y rest r e h le c = let w = written-is (is_joined l) (operator_of t) o e in absurd cc

joined-limit : (l : Level) (n : Notation) → is_joined l n ≡ true → tightness n ≤ limit l
joined-limit Disjunction notation.Disjunction e = lit≤ tt
joined-limit Conjunction notation.Conjunction e = lit≤ tt
joined-limit Sum notation.Sum e = lit≤ tt
joined-limit Product notation.Product e = lit≤ tt
joined-limit _ _ e = absurd cc

operator-follows : (l : Level) (t : Token) (o : BinOp) → operator l t ≡ Some o → strength t ≤ limit l
operator-follows l t o e = let w = written-is (is_joined l) (operator_of t) o e in rw w.0 (joined-limit l (notation_of o) w.1)

comparison-limit : (n : Notation) → is_comparison n ≡ true → (tightness n ≤ 4) × (is_joined Sum n ≡ false)
comparison-limit notation.Comparison e = (lit≤ tt, refl)
comparison-limit _ e = absurd cc

comparison-follows : (t : Token) (o : BinOp) → comparison t ≡ Some o → (strength t ≤ 4) × (operator Sum t ≡ None)
comparison-follows t o e =
    let w = written-is is_comparison (operator_of t) o e in
    let c = comparison-limit (notation_of o) w.1 in
    (rw w.0 c.0, rw (w.0, c.1) refl)

closed : (n : ℕ) (ts rest : List Token) (x : Expression) → whole_at n ts ≡ Some (x, token.Symbol symbol.Close ∷ rest) → factor_of (whole_at n) (token.Symbol symbol.Open ∷ ts) ≡ Some (x, rest)
unfolding factor_of inside_at
closed n ts rest x e = rw (e, inside_at) refl

pub calling : (whole : Reader) (t : Token) (o : BinOp) (ts : List Token) → called t ≡ Some o → factor_of whole (t ∷ ts) ≡ call_at o whole ts
unfolding factor_of operator_of
calling whole (token.Keyword w) o ts e = rw (e, factor_of) refl
calling whole (token.Symbol symbol.Open) o ts e = absurd cc
calling whole _ o ts e = absurd cc

call-read : (whole : Reader) (o : BinOp) (ts us rest : List Token) (x y : Expression) → whole ts ≡ Some (x, token.Symbol symbol.Comma ∷ us) → whole us ≡ Some (y, token.Symbol symbol.Close ∷ rest)
    → call_at o whole (token.Symbol symbol.Open ∷ ts) ≡ Some (binary o x y, rest)
unfolding call_at
call-read whole o ts us rest x y e f = rw (e, call_at) (rw (f, call_at) refl)

chosen : (n : ℕ) (ts us vs rest : List Token) (x y z : Expression) → whole_at n ts ≡ Some (x, token.Keyword keyword.Then ∷ us) → whole_at n us ≡ Some (y, token.Keyword keyword.Else ∷ vs) → whole_at n vs ≡ Some (z, rest)
    → whole_at (suc n) (token.Keyword keyword.If ∷ ts) ≡ Some (choice x y z, rest)
unfolding whole_at choice_at
chosen n ts us vs rest x y z e f g = rw (e, choice_at) (rw (f, choice_at) (rw (g, choice_at) refl))

prefix-read : (operand : Reader) (t : Token) (o : UnOp) (ts rest : List Token) (x : Expression) → prefix t ≡ Some o → prefixed_at operand ts ≡ Some (x, rest) → prefixed_at operand (t ∷ ts) ≡ Some (unary o x, rest)
unfolding prefixed_at
prefix-read operand t o ts rest x p e = rw (p, prefixed_at) (rw (e, prefixed_at) refl)

comparison-read : (operand : Reader) (t : Token) (o : BinOp) (ts us rest : List Token) (x y : Expression) → comparison t ≡ Some o → operand ts ≡ Some (x, t ∷ us) → operand us ≡ Some (y, rest)
    → compared_at operand ts ≡ Some (binary o x y, rest)
unfolding compared_at compare_rest
comparison-read operand t o ts us rest x y p e f = rw (e, compared_at) (rw (p, compare_rest) (rw (f, compare_rest) refl))

as_level : (n : ℕ) (l : Level) (ts : List Token) (x : Expression) (rest : List Token) → Spells (tighter l) ts x → Follows l rest → reader n (tighter l) (ts ++ rest) ≡ Some (x, rest)
    → Continues n l x rest (reader n l (ts ++ rest))
as_level n l ts x rest s f e =
    let b = first (tighter l) ts x s in
    let same : ts ++ rest ≡ b.0 ∷ (b.1 ++ rest) = ap (λ (us : List Token). us ++ rest) b.2 in
    subst (λ (us : List Token). Continues n l x rest (reader n l us)) (sym same) (begins n l b.0 (b.1 ++ rest) x rest b.3 f (ap (reader n (tighter l)) (sym same) ∙ e))

pub complete : (l : Level) (ts : List Token) (x : Expression) → Spells l ts x → (n : ℕ) (rest : List Token) → Follows l rest → length (ts ++ rest) ≤ n → Continues n l x rest (reader n l (ts ++ rest))
unfolding factor_of operator_of
complete l ts x (a_number value) n rest f h = refl
complete l ts x (a_name name) n rest f h = refl
complete l ts x (in_parentheses us y s) zero rest f h = absurd (omega arith)
complete l ts x (in_parentheses us y s) (suc n) rest f h =
    let whole = append_assoc us (token.Symbol symbol.Close ∷ []) rest in
    let len : length (us ++ (token.Symbol symbol.Close ∷ rest)) ≤ n = let e = ap length whole in omega arith in
    let one : reader n Whole (us ++ (token.Symbol symbol.Close ∷ rest)) ≡ Some (y, token.Symbol symbol.Close ∷ rest) = complete Whole us y s n (token.Symbol symbol.Close ∷ rest) (lit≤ tt) len in
    closed (suc n) ((us ++ token.Symbol symbol.Close ∷ []) ++ rest) rest y (ap (whole_at (suc n)) whole ∙ one)
complete l ts x (a_call t o a b y z e s u) zero rest f h = absurd (omega arith)
complete l ts x (a_call t o a b y z e s u) (suc n) rest f h =
    let inner = append_assoc b (token.Symbol symbol.Close ∷ []) rest in
    let whole : (a ++ token.Symbol symbol.Comma ∷ (b ++ token.Symbol symbol.Close ∷ [])) ++ rest ≡ a ++ (token.Symbol symbol.Comma ∷ (b ++ (token.Symbol symbol.Close ∷ rest))) =
    append_assoc a (token.Symbol symbol.Comma ∷ (b ++ token.Symbol symbol.Close ∷ [])) rest ∙ ap (λ (us : List Token). a ++ token.Symbol symbol.Comma ∷ us) inner in
    let len : length (a ++ (token.Symbol symbol.Comma ∷ (b ++ (token.Symbol symbol.Close ∷ rest)))) ≤ n = let e = ap length whole in omega arith in
    let len_b : length (b ++ (token.Symbol symbol.Close ∷ rest)) ≤ n = omega (arith, length-append a (token.Symbol symbol.Comma ∷ (b ++ (token.Symbol symbol.Close ∷ rest)))) in
    let one : reader n Whole (a ++ (token.Symbol symbol.Comma ∷ (b ++ (token.Symbol symbol.Close ∷ rest)))) ≡ Some (y, token.Symbol symbol.Comma ∷ (b ++ (token.Symbol symbol.Close ∷ rest))) =
    complete Whole a y s n (token.Symbol symbol.Comma ∷ (b ++ (token.Symbol symbol.Close ∷ rest))) (lit≤ tt) len in
    let two : reader n Whole (b ++ (token.Symbol symbol.Close ∷ rest)) ≡ Some (z, token.Symbol symbol.Close ∷ rest) = complete Whole b z u n (token.Symbol symbol.Close ∷ rest) (lit≤ tt) len_b in
    calling (whole_at (suc n)) t o (token.Symbol symbol.Open ∷ ((a ++ token.Symbol symbol.Comma ∷ (b ++ token.Symbol symbol.Close ∷ [])) ++ rest)) e
    ∙ call-read (whole_at (suc n)) o ((a ++ token.Symbol symbol.Comma ∷ (b ++ token.Symbol symbol.Close ∷ [])) ++ rest) (b ++ (token.Symbol symbol.Close ∷ rest)) rest y z (ap (whole_at (suc n)) whole ∙ one) two
complete l ts x (as_tighter l' ts' x' s) n rest f h =
    let one = complete (tighter l') ts' x' s n rest (Follows-tighter l' rest f) h in
    as_level n l' ts' x' rest s f (done n l' x' rest (reader n (tighter l') (ts' ++ rest)) f one)
complete l ts x (prefixed t o us y e s) n rest f h = prefix-read (factor_of (whole_at n)) t o (us ++ rest) rest y e (complete Prefixed us y s n rest f (omega arith))
complete l ts x (joined l' a t b o y z s e u) n rest f h =
    let whole = append_assoc a (t ∷ b) rest in
    let len : length (a ++ (t ∷ (b ++ rest))) ≤ n = let e = ap length whole in omega arith in
    let left = complete l' a y s n (t ∷ (b ++ rest)) (operator-follows l' t o e) len in
    let shorter : length (b ++ rest) ≤ n = omega (arith, length-append a (t ∷ (b ++ rest))) in
    let right : reader n (tighter l') (b ++ rest) ≡ Some (z, rest) = done n l' z rest (reader n (tighter l') (b ++ rest)) f (complete (tighter l') b z u n rest (Follows-tighter l' rest f) shorter) in
    let le : length rest ≤ length (b ++ rest) = omega (arith, length-append b rest) in
    subst (λ (us : List Token). Continues n l' (binary o y z) rest (reader n l' us)) (sym whole) (next n l' y t o (b ++ rest) z rest (reader n l' (a ++ (t ∷ (b ++ rest)))) e right le left)
complete l ts x (compared a t b o y z s e u) n rest f h =
    let whole = append_assoc a (t ∷ b) rest in
    let len : length (a ++ (t ∷ (b ++ rest))) ≤ n = let e = ap length whole in omega arith in
    let mark = comparison-follows t o e in
    let left = ended n Sum y (t ∷ (b ++ rest)) (reader n Sum (a ++ (t ∷ (b ++ rest)))) mark.1 (complete Sum a y s n (t ∷ (b ++ rest)) mark.0 len) in
    let shorter : length (b ++ rest) ≤ n = omega (arith, length-append a (t ∷ (b ++ rest))) in
    let right = done n Comparison z rest (reader n Sum (b ++ rest)) f (complete Sum b z u n rest (Follows-tighter Comparison rest f) shorter) in
    ap (reader n Comparison) whole ∙ comparison-read (reader n Sum) t o (a ++ (t ∷ (b ++ rest))) (b ++ rest) rest y z e left right
complete l ts x (a_choice a b c u v w s d e) zero rest f h = absurd (omega arith)
complete l ts x (a_choice a b c u v w s d e) (suc n) rest f h =
    let inner = append_assoc b (token.Keyword keyword.Else ∷ c) rest in
    let whole : (a ++ token.Keyword keyword.Then ∷ (b ++ token.Keyword keyword.Else ∷ c)) ++ rest ≡ a ++ (token.Keyword keyword.Then ∷ (b ++ (token.Keyword keyword.Else ∷ (c ++ rest)))) =
    append_assoc a (token.Keyword keyword.Then ∷ (b ++ token.Keyword keyword.Else ∷ c)) rest ∙ ap (λ (us : List Token). a ++ token.Keyword keyword.Then ∷ us) inner in
    let len : length (a ++ (token.Keyword keyword.Then ∷ (b ++ (token.Keyword keyword.Else ∷ (c ++ rest))))) ≤ n = let e = ap length whole in omega arith in
    let len_b : length (b ++ (token.Keyword keyword.Else ∷ (c ++ rest))) ≤ n = omega (arith, length-append a (token.Keyword keyword.Then ∷ (b ++ (token.Keyword keyword.Else ∷ (c ++ rest))))) in
    let len_c : length (c ++ rest) ≤ n = omega (arith, length-append b (token.Keyword keyword.Else ∷ (c ++ rest))) in
    let one : reader n Whole (a ++ (token.Keyword keyword.Then ∷ (b ++ (token.Keyword keyword.Else ∷ (c ++ rest))))) ≡ Some (u, token.Keyword keyword.Then ∷ (b ++ (token.Keyword keyword.Else ∷ (c ++ rest)))) =
    complete Whole a u s n (token.Keyword keyword.Then ∷ (b ++ (token.Keyword keyword.Else ∷ (c ++ rest)))) (lit≤ tt) len in
    let two : reader n Whole (b ++ (token.Keyword keyword.Else ∷ (c ++ rest))) ≡ Some (v, token.Keyword keyword.Else ∷ (c ++ rest)) = complete Whole b v d n (token.Keyword keyword.Else ∷ (c ++ rest)) (lit≤ tt) len_b in
    let three : reader n Whole (c ++ rest) ≡ Some (w, rest) = complete Whole c w e n rest f len_c in
    chosen (suc n) ((a ++ token.Keyword keyword.Then ∷ (b ++ token.Keyword keyword.Else ∷ c)) ++ rest) (b ++ (token.Keyword keyword.Else ∷ (c ++ rest))) (c ++ rest) rest u v w (ap (whole_at (suc n)) whole ∙ one) two three
