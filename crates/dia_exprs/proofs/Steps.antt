-- The steps of the descent.
use Rattle.std.proofs.Common.{◌≡◌, ℕ, ℤ, zero, suc, ◌+◌, ◌-◌, ◌<◌, ◌≤◌, List, [], ◌∷◌, ◌++◌, length, Option, Some, None, refl, sym, ap, subst, ◌∙◌, append_assoc, arith, lit<, IfOk, IfErr, Result, Ok, Err}
use Rattle.std.proofs.lemmas.List.{length-append}
use Rattle.dbp_plan.specs.declared.node.BinOp.{BinOp}
use Rattle.dbp_plan.specs.declared.node.UnOp.{UnOp}
use Rattle.dbp_plan.specs.Tree.{number, variable, unary, binary, choice}
use Rattle.dia_tokens.specs.declared.token.Token.{Token}
use Rattle.dia_tokens.specs.declared.token.Token.TheVariants as token
use Rattle.dia_tokens.specs.declared.token.Keyword.{Keyword}
use Rattle.dia_tokens.specs.declared.token.Symbol.{Symbol}
use Rattle.dia_tokens.specs.declared.token.Keyword.TheVariants as keyword
use Rattle.dia_tokens.specs.declared.token.Symbol.TheVariants as symbol
use Rattle.dia_exprs.specs.declared.level.Level.{Level}
use Rattle.dia_exprs.specs.declared.level.Level.TheVariants.{Whole, Disjunction, Conjunction, Comparison, Sum, Product, Prefixed, Factor}
use Rattle.dia_exprs.specs.Grammar.{Expression, tighter, operator, comparison, prefix, called}
use Rattle.dia_exprs.specs.Reading.{◌>>=◌, Place, Reader, if_at, then_at, else_at, open_at, comma_at, close_at, more, level_at, compare_rest, compared_at, prefixed_at, inside_at, call_at, factor_of, choice_at, whole_at, reader}
use Rattle.dbp_plan.specs.declared.node.Node.{Node}
use Rattle.dbp_plan.specs.declared.node.Node.TheVariants.{Num, Var, Un, Bin, Pick}
use Rattle.dbp_plan.specs.Tree.{size_of, nodes_of}
use Rattle.dbp_plan.specs.TreeLaws.{length-nodes_of}
use Rattle.dia_exprs.specs.declared.fail.ExpressionFail.{ExpressionFail}
use Rattle.dia_exprs.specs.declared.fail.ExpressionFail.TheVariants.{NoExpression, NoMemory}
use Rattle.dia_exprs.specs.Counts.{node_count}
use Rattle.dia_exprs.specs.Parsing.{Readers, of_level, of_inside, of_call, of_choice, Says, HasRead, HasNone, IsJoined, operator_at, comparison_at, prefix_at}
use Rattle.dia_exprs.proofs.Complete.{more-some, more-ends, Ends, compare-none, not_prefixed, calling}
use Rattle.dia_exprs.proofs.Sound.{bind_some}

-- ---- measures

-- how far above a factor a call for the level stands
abbrev pub level_height : Level → ℕ
level_height Whole = 15
level_height Disjunction = 13
level_height Conjunction = 11
level_height Comparison = 9
level_height Sum = 8
level_height Product = 6
level_height Prefixed = 4
level_height Factor = 3

abbrev pub joined_height : Level → ℕ
joined_height Disjunction = 12
joined_height Conjunction = 10
joined_height Sum = 7
joined_height Product = 5
joined_height _ = 14

pub below-level : (l : Level) → IsJoined l → joined_height l < level_height l
below-level Disjunction j = lit< tt
below-level Conjunction j = lit< tt
below-level Sum j = lit< tt
below-level Product j = lit< tt
below-level _ j = absurd j

pub below-joined : (l next : Level) → next ≡ tighter l → level_height next < joined_height l
below-joined l next e = subst (λ (m : Level). level_height m < joined_height l) (sym e) (at l)
  where
    at : (l : Level) → level_height (tighter l) < joined_height l
    at Whole = lit< tt
    at Disjunction = lit< tt
    at Conjunction = lit< tt
    at Comparison = lit< tt
    at Sum = lit< tt
    at Product = lit< tt
    at Prefixed = lit< tt
    at Factor = lit< tt

-- ---- nodes

abbrev pub Nodes : Type 0
Nodes = List (Node (List ℕ))

length-grown : (nodes grown : Nodes) (x : Expression) → grown ≡ nodes ++ nodes_of (length nodes) x → length grown ≡ length nodes + size_of x
length-grown nodes grown x e = ap length e ∙ length-append nodes (nodes_of (length nodes) x) ∙ ap (λ (n : ℕ). length nodes + n) (length-nodes_of (length nodes) x)

pub unary-nodes : (nodes mid new : Nodes) (o : UnOp) (x : Expression) (place : ℕ) → mid ≡ nodes ++ nodes_of (length nodes) x → place ≡ length mid - 1 → new ≡ mid ++ Un o place ∷ []
    → new ≡ nodes ++ nodes_of (length nodes) (unary o x)
unary-nodes nodes mid new o x place e p f =
    let size = length-grown nodes mid x e in
    let at : place ≡ length nodes + size_of x - 1 = omega (arith, p, size) in
    f ∙ ap (λ (k : ℕ). mid ++ Un o k ∷ []) at ∙ ap (λ (ns : Nodes). ns ++ Un o (length nodes + size_of x - 1) ∷ []) e
    ∙ append_assoc nodes (nodes_of (length nodes) x) (Un o (length nodes + size_of x - 1) ∷ [])

pub binary-nodes : (nodes out mid new : Nodes) (o : BinOp) (x y : Expression) (left right : ℕ) → out ≡ nodes ++ nodes_of (length nodes) x → left ≡ length out - 1
    → mid ≡ out ++ nodes_of (length out) y → right ≡ length mid - 1 → new ≡ mid ++ Bin o left right ∷ []
    → new ≡ nodes ++ nodes_of (length nodes) (binary o x y)
binary-nodes nodes out mid new o x y left right e l f r g =
    let size_x = length-grown nodes out x e in
    let size_y = length-grown out mid y f in
    let xs = nodes_of (length nodes) x in
    let ys = nodes_of (length nodes + size_of x) y in
    let at_x : left ≡ length nodes + size_of x - 1 = omega (arith, l, size_x) in
    let at_y : right ≡ length nodes + size_of x + size_of y - 1 = omega (arith, r, size_x, size_y) in
    let root = Bin o (length nodes + size_of x - 1) (length nodes + size_of x + size_of y - 1) ∷ [] in
    let both : mid ≡ nodes ++ (xs ++ ys) = f ∙ ap (λ (k : ℕ). out ++ nodes_of k y) size_x ∙ ap (λ (ns : Nodes). ns ++ ys) e ∙ append_assoc nodes xs ys in
    g ∙ ap (λ (k : ℕ). mid ++ Bin o k right ∷ []) at_x ∙ ap (λ (k : ℕ). mid ++ Bin o (length nodes + size_of x - 1) k ∷ []) at_y
    ∙ ap (λ (ns : Nodes). ns ++ root) both ∙ append_assoc nodes (xs ++ ys) root

pub choice-nodes : (nodes out mid all new : Nodes) (x y z : Expression) (a b c : ℕ) → out ≡ nodes ++ nodes_of (length nodes) x → a ≡ length out - 1
    → mid ≡ out ++ nodes_of (length out) y → b ≡ length mid - 1 → all ≡ mid ++ nodes_of (length mid) z → c ≡ length all - 1 → new ≡ all ++ Pick a b c ∷ []
    → new ≡ nodes ++ nodes_of (length nodes) (choice x y z)
choice-nodes nodes out mid all new x y z a b c e p f q g r h =
    let size_x = length-grown nodes out x e in
    let size_y = length-grown out mid y f in
    let size_z = length-grown mid all z g in
    let xs = nodes_of (length nodes) x in
    let ys = nodes_of (length nodes + size_of x) y in
    let zs = nodes_of (length nodes + size_of x + size_of y) z in
    let first : ℕ = length nodes + size_of x - 1 in
    let second : ℕ = length nodes + size_of x + size_of y - 1 in
    let third : ℕ = length nodes + size_of x + size_of y + size_of z - 1 in
    let at_x : a ≡ first = omega (arith, p, size_x) in
    let at_y : b ≡ second = omega (arith, q, size_x, size_y) in
    let at_z : c ≡ third = omega (arith, r, size_x, size_y, size_z) in
    let to_y : length mid ≡ length nodes + size_of x + size_of y = omega (arith, size_x, size_y) in
    let both : mid ≡ nodes ++ (xs ++ ys) = f ∙ ap (λ (k : ℕ). out ++ nodes_of k y) size_x ∙ ap (λ (ns : Nodes). ns ++ ys) e ∙ append_assoc nodes xs ys in
    let three : all ≡ nodes ++ (xs ++ ys ++ zs) = g ∙ ap (λ (k : ℕ). mid ++ nodes_of k z) to_y ∙ ap (λ (ns : Nodes). ns ++ zs) both ∙ append_assoc nodes (xs ++ ys) zs in
    h ∙ ap (λ (k : ℕ). all ++ Pick k b c ∷ []) at_x ∙ ap (λ (k : ℕ). all ++ Pick first k c ∷ []) at_y ∙ ap (λ (k : ℕ). all ++ Pick first second k ∷ []) at_z
    ∙ ap (λ (ns : Nodes). ns ++ Pick first second third ∷ []) three ∙ append_assoc nodes (xs ++ ys ++ zs) (Pick first second third ∷ [])

-- ---- refusals

-- a refusal of one reader is a refusal of another
pub refused : (r s : Readers) (ts us : List Token) (e : ExpressionFail) → (Says r ts None → Says s us None) → HasNone r ts e → HasNone s us e
refused r s ts us NoMemory f h = tt
refused r s ts us NoExpression f h = f h

-- ---- what stands at the front

module _ {O : Type 0} where
  abbrev later : O → List Token → Option (O × List Token)
  later o ts = Some (o, ts)

  abbrev pair : O × List Token → Option (O × List Token)
  pair p = Some p

  pair_is : (p q : O × List Token) → pair p ≡ pair q → p ≡ q
  pair_is p q e = cc

  -- a token with this meaning stands at the front
  pub in_front : (m : Token → Option O) (t : Token) (ts : List Token) (o : O) (after : List Token) → (m t >>= λ o. later o ts) ≡ later o after → (m t ≡ Some o) × (ts ≡ after)
  in_front m t ts o after e =
      let b = bind_some (m t) (λ o. later o ts) (o, after) e in
      let same = pair_is (b.0, ts) (o, after) b.2 in
      (b.1 ∙ ap (λ (p : O × List Token). Some p.0) same, ap (λ (p : O × List Token). p.1) same)

  pub none_in_front : (m : Option O) (ts : List Token) → (m >>= λ o. later o ts) ≡ None → m ≡ None
  none_in_front None ts e = refl
  none_in_front (Some o) ts e = absurd cc

at_operator : (l : Level) (ts : List Token) (o : BinOp) (after : List Token) → Some (o, after) ≡ operator_at l ts → (t : Token) × (ts ≡ t ∷ after) × (operator l t ≡ Some o)
at_operator l [] o after e = absurd cc
at_operator l (t ∷ ts) o after e = let f = in_front (operator l) t ts o after (sym e) in (t, ap (λ (us : List Token). t ∷ us) f.1, f.0)

at_comparison : (ts : List Token) (o : BinOp) (after : List Token) → Some (o, after) ≡ comparison_at ts → (t : Token) × (ts ≡ t ∷ after) × (comparison t ≡ Some o)
at_comparison [] o after e = absurd cc
at_comparison (t ∷ ts) o after e = let f = in_front comparison t ts o after (sym e) in (t, ap (λ (us : List Token). t ∷ us) f.1, f.0)

at_prefix : (ts : List Token) (o : UnOp) (after : List Token) → Some (o, after) ≡ prefix_at ts → (t : Token) × (ts ≡ t ∷ after) × (prefix t ≡ Some o)
at_prefix [] o after e = absurd cc
at_prefix (t ∷ ts) o after e = let f = in_front prefix t ts o after (sym e) in (t, ap (λ (us : List Token). t ∷ us) f.1, f.0)

pub no_operator_ends : (l : Level) (ts : List Token) → None ≡ operator_at l ts → Ends l ts
no_operator_ends l [] e = tt
no_operator_ends l (t ∷ ts) e = none_in_front (operator l t) ts (sym e)

-- ---- the levels that are joined

reader-joined : (l : Level) → IsJoined l → (n : ℕ) (ts : List Token) → reader n l ts ≡ (reader n (tighter l) ts >>= λ p. more l (reader n (tighter l)) (length p.1) p.0 p.1)
unfolding level_at
reader-joined Disjunction j n ts = refl
reader-joined Conjunction j n ts = refl
reader-joined Sum j n ts = refl
reader-joined Product j n ts = refl
reader-joined _ j n ts = absurd j

-- the tokens read so far give the expression, and reading goes on after it
abbrev pub GoesOn : Level → List Token → Expression → List Token → Type 0
GoesOn l ts x rest = (n : ℕ) → length ts ≤ n → (k : ℕ) × (length rest ≤ k) × (reader n l ts ≡ more l (reader n (tighter l)) k x rest)

-- what holds between two operands
pub record Between (l : Level) (nodes out : Nodes) (tokens rest : List Token) : Type 0 where
  pub x : Expression
  pub adds : out ≡ nodes ++ nodes_of (length nodes) x
  pub so_far : GoesOn l tokens x rest
  pub fits : length out + node_count rest ≤ length nodes + node_count tokens
  pub grows : length nodes < length out
  pub shorter : length rest < length tokens

pub first-refused : (l next : Level) (ts : List Token) (e : ExpressionFail) → IsJoined l → next ≡ tighter l → HasNone (of_level next) ts e → HasNone (of_level l) ts e
first-refused l next ts e j same =
    refused (of_level next) (of_level l) ts ts e (λ none n h. reader-joined l j n ts ∙ rw (ap (λ (m : Level). reader n m ts) (sym same) ∙ none n h) refl)

pub first-read : (l next : Level) (nodes out : Nodes) (ts rest : List Token) → IsJoined l → next ≡ tighter l → (r : HasRead (of_level next) nodes ts out rest) → GoesOn l ts r.0 rest
first-read l next nodes out ts rest j same r n h =
    (length rest, omega arith, reader-joined l j n ts ∙ rw (ap (λ (m : Level). reader n m ts) (sym same) ∙ r.2 n h) refl)

-- the loop takes an operator
goes_on : (l : Level) (r : Reader) (k : ℕ) (x : Expression) (rest : List Token) (o : BinOp) (after : List Token) → length rest ≤ k → Some (o, after) ≡ operator_at l rest
    → (m : ℕ) × (k ≡ suc m) × (more l r k x rest ≡ (r after >>= λ p. more l r m (binary o x p.0) p.1))
goes_on l r zero x rest o after h e =
    let a = at_operator l rest o after e in
    let len = ap length a.1 in
    absurd (omega arith)
goes_on l r (suc k) x rest o after h e =
    let a = at_operator l rest o after e in
    (k, refl, ap (more l r (suc k) x) a.1 ∙ more-some l r k x a.0 o after a.2)

pub next-refused : (l next : Level) (ts rest after : List Token) (x : Expression) (o : BinOp) (e : ExpressionFail) → next ≡ tighter l → GoesOn l ts x rest → Some (o, after) ≡ operator_at l rest
    → length after ≤ length ts → HasNone (of_level next) after e → HasNone (of_level l) ts e
next-refused l next ts rest after x o e same so_far at le =
    refused (of_level next) (of_level l) after ts e (λ none n h.
    let c = so_far n h in
    let g = goes_on l (reader n (tighter l)) c.0 x rest o after c.1 at in
    c.2 ∙ g.2 ∙ rw (ap (λ (m : Level). reader n m after) (sym same) ∙ none n (omega arith)) refl)

pub next-read : (l next : Level) (ts rest after later : List Token) (x y : Expression) (o : BinOp) → next ≡ tighter l → GoesOn l ts x rest → Some (o, after) ≡ operator_at l rest
    → length after + 1 ≡ length rest → length after ≤ length ts → length later ≤ length after → Says (of_level next) after (Some (y, later)) → GoesOn l ts (binary o x y) later
next-read l next ts rest after later x y o same so_far at len le less read n h =
    let c = so_far n h in
    let g = goes_on l (reader n (tighter l)) c.0 x rest o after c.1 at in
    (g.0, omega (arith, c.1, g.1), c.2 ∙ g.2 ∙ rw (ap (λ (m : Level). reader n m after) (sym same) ∙ read n (omega arith)) refl)

pub last-read : (l : Level) (nodes out : Nodes) (ts rest : List Token) → None ≡ operator_at l rest → Between l nodes out ts rest → HasRead (of_level l) nodes ts out rest
last-read l nodes out ts rest e b =
    (b.x, b.adds, λ n h. let c = b.so_far n h in c.2 ∙ more-ends l (reader n (tighter l)) c.0 b.x rest (no_operator_ends l rest e))

-- ---- comparisons

pub compared-refused : (ts : List Token) (e : ExpressionFail) → HasNone (of_level Sum) ts e → HasNone (of_level Comparison) ts e
unfolding compared_at
compared-refused ts e = refused (of_level Sum) (of_level Comparison) ts ts e (λ none n h. rw (none n h, compared_at) refl)

alone : (r : Reader) (x : Expression) (rest : List Token) → None ≡ comparison_at rest → compare_rest r x rest ≡ Some (x, rest)
unfolding compare_rest
alone r x [] e = refl
alone r x (t ∷ ts) e = compare-none r x t ts (none_in_front (comparison t) ts (sym e))

pub compared-alone : (nodes out : Nodes) (ts rest : List Token) → None ≡ comparison_at rest → HasRead (of_level Sum) nodes ts out rest → HasRead (of_level Comparison) nodes ts out rest
unfolding compared_at
compared-alone nodes out ts rest e r = (r.0, r.1, λ n h. rw (r.2 n h, compared_at) (alone (reader n Sum) r.0 rest e))

compare-some : (r : Reader) (x : Expression) (t : Token) (o : BinOp) (ts : List Token) → comparison t ≡ Some o → compare_rest r x (t ∷ ts) ≡ (r ts >>= λ p. Some (binary o x p.0, p.1))
unfolding compare_rest
compare-some r x t o ts e = rw (e, compare_rest) refl

comparing : (n : ℕ) (ts rest after : List Token) (x : Expression) (o : BinOp) → reader n Sum ts ≡ Some (x, rest) → Some (o, after) ≡ comparison_at rest
    → reader n Comparison ts ≡ (reader n Sum after >>= λ p. Some (binary o x p.0, p.1))
unfolding compared_at
comparing n ts rest after x o e at =
    let a = at_comparison rest o after at in
    rw (e, compared_at) (ap (compare_rest (reader n Sum) x) a.1 ∙ compare-some (reader n Sum) x a.0 o after a.2)

pub compared-next-refused : (ts rest after : List Token) (x : Expression) (o : BinOp) (e : ExpressionFail) → Says (of_level Sum) ts (Some (x, rest)) → Some (o, after) ≡ comparison_at rest → length after ≤ length ts
    → HasNone (of_level Sum) after e → HasNone (of_level Comparison) ts e
compared-next-refused ts rest after x o e read at le =
    refused (of_level Sum) (of_level Comparison) after ts e (λ none n h. comparing n ts rest after x o (read n h) at ∙ rw (none n (omega arith)) refl)

pub compared-read : (ts rest after later : List Token) (x y : Expression) (o : BinOp) → Says (of_level Sum) ts (Some (x, rest)) → Some (o, after) ≡ comparison_at rest → length after ≤ length ts
    → Says (of_level Sum) after (Some (y, later)) → Says (of_level Comparison) ts (Some (binary o x y, later))
compared-read ts rest after later x y o read at le second n h = comparing n ts rest after x o (read n h) at ∙ rw (second n (omega arith)) refl

-- ---- prefixes

unprefixed : (r : Reader) (ts : List Token) → None ≡ prefix_at ts → prefixed_at r ts ≡ r ts
unfolding prefixed_at
unprefixed r [] e = refl
unprefixed r (t ∷ ts) e = not_prefixed r t ts (none_in_front (prefix t) ts (sym e))

pub unprefixed-refused : (ts : List Token) (e : ExpressionFail) → None ≡ prefix_at ts → HasNone (of_level Factor) ts e → HasNone (of_level Prefixed) ts e
unprefixed-refused ts e at = refused (of_level Factor) (of_level Prefixed) ts ts e (λ none n h. unprefixed (reader n Factor) ts at ∙ none n h)

pub unprefixed-read : (nodes out : Nodes) (ts rest : List Token) → None ≡ prefix_at ts → HasRead (of_level Factor) nodes ts out rest → HasRead (of_level Prefixed) nodes ts out rest
unprefixed-read nodes out ts rest at r = (r.0, r.1, λ n h. unprefixed (reader n Factor) ts at ∙ r.2 n h)

prefix-some : (r : Reader) (t : Token) (o : UnOp) (ts : List Token) → prefix t ≡ Some o → prefixed_at r (t ∷ ts) ≡ (prefixed_at r ts >>= λ p. Some (unary o p.0, p.1))
unfolding prefixed_at
prefix-some r t o ts e = rw (e, prefixed_at) refl

prefixing : (n : ℕ) (ts after : List Token) (o : UnOp) → Some (o, after) ≡ prefix_at ts → reader n Prefixed ts ≡ (reader n Prefixed after >>= λ p. Some (unary o p.0, p.1))
prefixing n ts after o at = let a = at_prefix ts o after at in ap (reader n Prefixed) a.1 ∙ prefix-some (reader n Factor) a.0 o after a.2

pub prefix-refused : (ts after : List Token) (o : UnOp) (e : ExpressionFail) → Some (o, after) ≡ prefix_at ts → length after ≤ length ts → HasNone (of_level Prefixed) after e → HasNone (of_level Prefixed) ts e
prefix-refused ts after o e at le = refused (of_level Prefixed) (of_level Prefixed) after ts e (λ none n h. prefixing n ts after o at ∙ rw (none n (omega arith)) refl)

pub prefix-read : (ts after rest : List Token) (x : Expression) (o : UnOp) → Some (o, after) ≡ prefix_at ts → length after ≤ length ts → Says (of_level Prefixed) after (Some (x, rest))
    → Says (of_level Prefixed) ts (Some (unary o x, rest))
prefix-read ts after rest x o at le read n h = prefixing n ts after o at ∙ rw (read n (omega arith)) refl

-- ---- whole expressions

not_a_choice : (n : ℕ) (ts : List Token) → None ≡ if_at ts → reader n Whole ts ≡ reader n Disjunction ts
unfolding whole_at
not_a_choice n (token.Keyword keyword.If ∷ ts) e = absurd cc
not_a_choice n _ e = refl

pub unchosen-refused : (ts : List Token) (e : ExpressionFail) → None ≡ if_at ts → HasNone (of_level Disjunction) ts e → HasNone (of_level Whole) ts e
unchosen-refused ts e at = refused (of_level Disjunction) (of_level Whole) ts ts e (λ none n h. not_a_choice n ts at ∙ none n h)

pub unchosen-read : (nodes out : Nodes) (ts rest : List Token) → None ≡ if_at ts → HasRead (of_level Disjunction) nodes ts out rest → HasRead (of_level Whole) nodes ts out rest
unchosen-read nodes out ts rest at r = (r.0, r.1, λ n h. not_a_choice n ts at ∙ r.2 n h)

-- a token less needs one less of fuel
choosing : (ts after : List Token) (p : Option Place) → Some after ≡ if_at ts → Says of_choice after p → Says (of_level Whole) ts p
unfolding whole_at
choosing (token.Keyword keyword.If ∷ ts) after p e f zero h = absurd (omega arith)
choosing (token.Keyword keyword.If ∷ ts) after p e f (suc n) h =
    let same : after ≡ ts = cc in
    let read : Says of_choice ts p = subst (λ (us : List Token). Says of_choice us p) same f in
    read n (omega arith)
choosing _ after p e f n h = absurd cc

pub choosing-refused : (ts after : List Token) (e : ExpressionFail) → Some after ≡ if_at ts → HasNone of_choice after e → HasNone (of_level Whole) ts e
choosing-refused ts after e at = refused of_choice (of_level Whole) after ts e (choosing ts after None at)

pub choosing-read : (nodes out : Nodes) (ts after rest : List Token) → Some after ≡ if_at ts → HasRead of_choice nodes after out rest → HasRead (of_level Whole) nodes ts out rest
choosing-read nodes out ts after rest at r = (r.0, r.1, choosing ts after (Some (r.0, rest)) at r.2)

-- ---- what stands after `if`

abbrev W : Readers
W = of_level Whole

pub choice-refused : (ts : List Token) (e : ExpressionFail) → HasNone W ts e → HasNone of_choice ts e
unfolding choice_at
choice-refused ts e = refused W of_choice ts ts e (λ none n h. rw (none n h, choice_at) refl)

pub no-then : (ts end : List Token) (x : Expression) → Says W ts (Some (x, end)) → None ≡ then_at end → Says of_choice ts None
unfolding choice_at
no-then ts end x r e n h = rw (r n h, choice_at) (rw (← e) refl)

pub first-part-refused : (ts end a : List Token) (x : Expression) (e : ExpressionFail) → Says W ts (Some (x, end)) → Some a ≡ then_at end → length a ≤ length ts → HasNone W a e → HasNone of_choice ts e
unfolding choice_at
first-part-refused ts end a x e r f le = refused W of_choice a ts e (λ none n h. rw (r n h, choice_at) (rw (← f) (rw (none n (omega arith), choice_at) refl)))

pub no-else : (ts end a mid : List Token) (x y : Expression) → Says W ts (Some (x, end)) → Some a ≡ then_at end → length a ≤ length ts → Says W a (Some (y, mid)) → None ≡ else_at mid → Says of_choice ts None
unfolding choice_at
no-else ts end a mid x y r f le s g n h = rw (r n h, choice_at) (rw (← f) (rw (s n (omega arith), choice_at) (rw (← g) refl)))

pub second-part-refused : (ts end a mid b : List Token) (x y : Expression) (e : ExpressionFail) → Says W ts (Some (x, end)) → Some a ≡ then_at end → length a ≤ length ts → Says W a (Some (y, mid)) → Some b ≡ else_at mid
    → length b ≤ length ts → HasNone W b e → HasNone of_choice ts e
unfolding choice_at
second-part-refused ts end a mid b x y e r f le s g ge =
    refused W of_choice b ts e (λ none n h. rw (r n h, choice_at) (rw (← f) (rw (s n (omega arith), choice_at) (rw (← g) (rw (none n (omega arith), choice_at) refl)))))

pub choice-read : (ts end a mid b rest : List Token) (x y z : Expression) → Says W ts (Some (x, end)) → Some a ≡ then_at end → length a ≤ length ts → Says W a (Some (y, mid)) → Some b ≡ else_at mid → length b ≤ length ts
    → Says W b (Some (z, rest)) → Says of_choice ts (Some (choice x y z, rest))
unfolding choice_at
choice-read ts end a mid b rest x y z r f le s g ge t n h =
    rw (r n h, choice_at) (rw (← f) (rw (s n (omega arith), choice_at) (rw (← g) (rw (t n (omega arith), choice_at) refl))))

-- ---- calls

pub no-open : (o : BinOp) (ts : List Token) → None ≡ open_at ts → Says (of_call o) ts None
unfolding call_at
no-open o ts e n h = rw (← e) refl

pub first-argument-refused : (o : BinOp) (ts a : List Token) (e : ExpressionFail) → Some a ≡ open_at ts → length a ≤ length ts → HasNone W a e → HasNone (of_call o) ts e
unfolding call_at
first-argument-refused o ts a e f le = refused W (of_call o) a ts e (λ none n h. rw (← f) (rw (none n (omega arith), call_at) refl))

pub no-comma : (o : BinOp) (ts a end : List Token) (x : Expression) → Some a ≡ open_at ts → length a ≤ length ts → Says W a (Some (x, end)) → None ≡ comma_at end → Says (of_call o) ts None
unfolding call_at
no-comma o ts a end x f le r g n h = rw (← f) (rw (r n (omega arith), call_at) (rw (← g) refl))

pub second-argument-refused : (o : BinOp) (ts a end b : List Token) (x : Expression) (e : ExpressionFail) → Some a ≡ open_at ts → length a ≤ length ts → Says W a (Some (x, end)) → Some b ≡ comma_at end → length b ≤ length ts
    → HasNone W b e → HasNone (of_call o) ts e
unfolding call_at
second-argument-refused o ts a end b x e f le r g ge =
    refused W (of_call o) b ts e (λ none n h. rw (← f) (rw (r n (omega arith), call_at) (rw (← g) (rw (none n (omega arith), call_at) refl))))

pub no-close : (o : BinOp) (ts a end b last : List Token) (x y : Expression) → Some a ≡ open_at ts → length a ≤ length ts → Says W a (Some (x, end)) → Some b ≡ comma_at end → length b ≤ length ts → Says W b (Some (y, last))
    → None ≡ close_at last → Says (of_call o) ts None
unfolding call_at
no-close o ts a end b last x y f le r g ge s i n h = rw (← f) (rw (r n (omega arith), call_at) (rw (← g) (rw (s n (omega arith), call_at) (rw (← i) refl))))

pub call-read : (o : BinOp) (ts a end b last rest : List Token) (x y : Expression) → Some a ≡ open_at ts → length a ≤ length ts → Says W a (Some (x, end)) → Some b ≡ comma_at end → length b ≤ length ts → Says W b (Some (y, last))
    → Some rest ≡ close_at last → Says (of_call o) ts (Some (binary o x y, rest))
unfolding call_at
call-read o ts a end b last rest x y f le r g ge s i n h = rw (← f) (rw (r n (omega arith), call_at) (rw (← g) (rw (s n (omega arith), call_at) (rw (← i) refl))))

-- ---- parentheses

pub inside-refused : (ts : List Token) (e : ExpressionFail) → HasNone W ts e → HasNone of_inside ts e
unfolding inside_at
inside-refused ts e = refused W of_inside ts ts e (λ none n h. rw (none n h, inside_at) refl)

pub unclosed : (ts end : List Token) (x : Expression) → Says W ts (Some (x, end)) → None ≡ close_at end → Says of_inside ts None
unfolding inside_at
unclosed ts end x r e n h = rw (r n h, inside_at) (rw (← e) refl)

pub closed-read : (ts end rest : List Token) (x : Expression) → Says W ts (Some (x, end)) → Some rest ≡ close_at end → Says of_inside ts (Some (x, rest))
unfolding inside_at
closed-read ts end rest x r e n h = rw (r n h, inside_at) (rw (← e) refl)

-- ---- factors

pub factor-nothing : Says (of_level Factor) [] None
unfolding factor_of
factor-nothing n h = refl

pub factor-number : (value : ℤ) (ts : List Token) → Says (of_level Factor) (token.Number value ∷ ts) (Some (number value, ts))
unfolding factor_of
factor-number value ts n h = refl

pub factor-name : (name : List ℕ) (ts : List Token) → Says (of_level Factor) (token.Name name ∷ ts) (Some (variable name, ts))
unfolding factor_of
factor-name name ts n h = refl

pub factor-inside : (ts : List Token) (p : Option Place) → Says of_inside ts p → Says (of_level Factor) (token.Symbol symbol.Open ∷ ts) p
unfolding factor_of
factor-inside ts p r zero h = absurd (omega arith)
factor-inside ts p r (suc n) h = r n (omega arith)

pub factor-call : (t : Token) (o : BinOp) (ts : List Token) (p : Option Place) → called t ≡ Some o → Says (of_call o) ts p → Says (of_level Factor) (t ∷ ts) p
factor-call t o ts p e r zero h = absurd (omega arith)
factor-call t o ts p e r (suc n) h = calling (whole_at (suc n)) t o ts e ∙ r n (omega arith)

factor-symbol : (s : Symbol) (ts : List Token) → None ≡ open_at (token.Symbol s ∷ ts) → Says (of_level Factor) (token.Symbol s ∷ ts) None
unfolding factor_of
factor-symbol symbol.Open ts f n h = absurd cc
factor-symbol _ ts f n h = refl

factor-keyword : (w : Keyword) (ts : List Token) → called (token.Keyword w) ≡ None → Says (of_level Factor) (token.Keyword w ∷ ts) None
unfolding factor_of
factor-keyword w ts e n h = rw (e, factor_of) refl

-- the tokens begin with this one
begun : (ts after : List Token) (t u : Token) → ts ≡ t ∷ after → t ≡ u → ts ≡ u ∷ after
begun ts after t u e f = e ∙ ap (λ (v : Token). v ∷ after) f

pub nothing-read : (ts : List Token) → ts ≡ [] → Says (of_level Factor) ts None
nothing-read ts e = subst (λ (us : List Token). Says (of_level Factor) us None) (sym e) factor-nothing

pub number-read : (nodes new : Nodes) (ts after : List Token) (t : Token) (value : ℤ) → ts ≡ t ∷ after → t ≡ token.Number value → new ≡ nodes ++ Num value ∷ [] → HasRead (of_level Factor) nodes ts new after
number-read nodes new ts after t value e f g = subst (λ (us : List Token). HasRead (of_level Factor) nodes us new after) (sym (begun ts after t (token.Number value) e f)) (number value, g, factor-number value after)

pub name-read : (nodes new : Nodes) (ts after : List Token) (t : Token) (name : List ℕ) → ts ≡ t ∷ after → t ≡ token.Name name → new ≡ nodes ++ Var name ∷ [] → HasRead (of_level Factor) nodes ts new after
name-read nodes new ts after t name e f g = subst (λ (us : List Token). HasRead (of_level Factor) nodes us new after) (sym (begun ts after t (token.Name name) e f)) (variable name, g, factor-name name after)

pub parentheses-read : (ts after : List Token) (p : Option Place) → Some after ≡ open_at ts → Says of_inside after p → Says (of_level Factor) ts p
parentheses-read (token.Symbol symbol.Open ∷ ts) after p e r =
    let same : after ≡ ts = cc in
    factor-inside ts p (subst (λ (us : List Token). Says of_inside us p) same r)
parentheses-read _ after p e r = absurd cc

pub called-read : (ts after : List Token) (t : Token) (o : BinOp) (p : Option Place) → ts ≡ t ∷ after → called t ≡ Some o → Says (of_call o) after p → Says (of_level Factor) ts p
called-read ts after t o p e f r = subst (λ (us : List Token). Says (of_level Factor) us p) (sym e) (factor-call t o after p f r)

pub symbol-refused : (ts after : List Token) (t : Token) (s : Symbol) → ts ≡ t ∷ after → t ≡ token.Symbol s → None ≡ open_at ts → Says (of_level Factor) ts None
symbol-refused ts after t s e f n =
    let same = begun ts after t (token.Symbol s) e f in
    subst (λ (us : List Token). Says (of_level Factor) us None) (sym same) (factor-symbol s after (n ∙ ap open_at same))

pub keyword-refused : (ts after : List Token) (t : Token) (w : Keyword) → ts ≡ t ∷ after → t ≡ token.Keyword w → called t ≡ None → Says (of_level Factor) ts None
keyword-refused ts after t w e f n = subst (λ (us : List Token). Says (of_level Factor) us None) (sym (begun ts after t (token.Keyword w) e f)) (factor-keyword w after (ap called (sym f) ∙ n))

-- ---- results that are passed on

pub ok_map : {T E : Type 0} (P Q : T → Type 0) (r : Result T E) → ((x : T) → P x → Q x) → IfOk r P → IfOk r Q
ok_map P Q (Ok x) f h = f x h
ok_map P Q (Err e) f h = h

pub err_map : {T E : Type 0} (P Q : E → Type 0) (r : Result T E) → ((e : E) → P e → Q e) → IfErr r P → IfErr r Q
err_map P Q (Ok x) f h = h
err_map P Q (Err e) f h = f e h

pub pushed : (mid new : Nodes) (node : Node (List ℕ)) → new ≡ mid ++ node ∷ [] → length new ≡ length mid + 1
pushed mid new node e = ap length e ∙ length-append mid (node ∷ [])
