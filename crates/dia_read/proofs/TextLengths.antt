-- How long the canonical text of a document is.
use Rattle.std.proofs.Common.{◌≡◌, ℕ, ℤ, pos, negsuc, ◌+◌, ◌*◌, ◌≤◌, Bool, true, false, cond, All, List, [], ◌∷◌, ◌++◌, length, Option, Some, None, refl, arith}
use Rattle.std.specs.Prelude.{◌==◌}
use Rattle.std.specs.Fmt.{signed_decimal}
use Rattle.std.specs.List.{AllByRecursion, flat_map}
use Rattle.std.proofs.lemmas.Fmt.{length_signed_le}
use Rattle.std.proofs.lemmas.List.{length-append}
use Rattle.std.proofs.lemmas.List.Elements.{All-from_recursion, recursion_from_All}
use Rattle.dbp_plan.specs.declared.diagram.Policy.{Policy}
use Rattle.dbp_plan.specs.declared.expr.Expr.{Expr}
use Rattle.dbp_plan.specs.declared.node.BinOp.{BinOp}
use Rattle.dbp_plan.specs.Expr.{tree_of}
use Rattle.dbp_plan.specs.Operators.{notation_of}
use Rattle.dbp_plan.specs.Tree.{number, variable, unary, binary, choice, size_of}
use Rattle.dia_tokens.specs.declared.edge.Edge.{Edge}
use Rattle.dia_tokens.specs.declared.edge.Edge.TheVariants.{Tight}
use Rattle.dia_tokens.specs.declared.token.Token.{Token}
use Rattle.dia_tokens.specs.declared.token.Token.TheVariants.{Keyword, Name, Number, Symbol}
use Rattle.dia_tokens.specs.declared.token.Keyword as keywords
use Rattle.dia_tokens.specs.declared.token.Keyword.TheVariants as keyword
use Rattle.dia_tokens.specs.declared.token.Symbol as symbols
use Rattle.dia_tokens.specs.declared.token.Symbol.TheVariants as symbol
use Rattle.dia_tokens.specs.Printable.{IsPrintableNumber, IsPrintableToken}
use Rattle.dia_tokens.specs.Spelling.{symbol_text}
use Rattle.dia_tokens.specs.TokenText.{edge_of, gap, is_apart, line_of, line_text, text_after, token_text}
use Rattle.dia_tokens.proofs.KeywordLaws.{keyword-length}
use Rattle.dia_exprs.specs.Grammar.{Expression, operator_token, is_call}
use Rattle.dia_lines.specs.Delays.{delay_tokens}
use Rattle.dia_lines.specs.declared.item.Decl.{Decl}
use Rattle.dia_lines.specs.declared.item.Decl.TheVariants.{Input, Event}
use Rattle.dia_lines.specs.declared.item.Part.{Part}
use Rattle.dia_lines.specs.declared.item.Part.TheVariants as part
use Rattle.dia_lines.specs.declared.item.RawClock.{RawClock}
use Rattle.dia_lines.specs.declared.item.RawClock.TheVariants.{Every, On}
use Rattle.dia_lines.specs.declared.item.TaskLine.{TaskLine}
use Rattle.dia_lines.specs.declared.place.Place.TheVariants as place
use Rattle.dia_print.specs.ExpressionTokens.{call_tokens, enclosed, is_compound, operand_tokens, tokens_of}
use Rattle.dia_print.specs.ItemTokens.{clock_tokens, decl_tokens, header_tokens, named_cpu, option_tokens, part_tokens, policy_tokens, source_tokens, task_tokens, until_tokens, when_tokens}
use Rattle.dia_print.proofs.ItemLaws.{IsAfterHeader, decl-line, done-line, header-line, part-line, policy-line, size-fits, task-line, until-line}
use Rattle.dia_print.specs.Printable.{IsPrintableDecl, IsPrintablePart}
use Rattle.dia_read.specs.Canonical.{canonical_text, decl_text, part_text, section_lines, task_text}
use Rattle.dia_read.specs.Documents.{first_line}
use Rattle.dia_read.specs.Printable.{IsPrintable, IsPrintableTask}
use Rattle.dia_read.specs.declared.document.Body.{Body}
use Rattle.dia_read.specs.declared.document.RawTask.{RawTask}

-- ---- tokens

symbol-short : (s : symbols.Symbol) → length (symbol_text s) ≤ 24
symbol-short symbol.Assign = omega arith
symbol-short _ = omega arith

number-short : (z : ℤ) → IsPrintableNumber z → length (signed_decimal z) ≤ 24
number-short (pos n) fits = omega (arith, length_signed_le 20 (pos n) (omega arith) fits)
number-short (negsuc n) fits = omega (arith, length_signed_le 20 (negsuc n) (omega arith) fits)

token-short : (t : Token) → IsPrintableToken t → length (token_text t) ≤ 24
token-short (Keyword w) prints = omega (arith, keyword-length w)
token-short (Name text) prints = prints.0.fits
token-short (Number z) prints = number-short z prints
token-short (Symbol s) prints = symbol-short s

gap-short : (edge : Edge) (t : Token) → length (gap edge t) ≤ 1
gap-short edge t = space (is_apart edge t)
  where
    one : List ℕ
    one = 32 ∷ []

    space : (apart : Bool) → length (cond apart one []) ≤ 1
    space true = omega arith
    space false = omega arith

text-short : (edge : Edge) (ts : List Token) → AllByRecursion IsPrintableToken ts → length (text_after edge ts) ≤ 25 * length ts
text-short edge [] prints = omega arith
text-short edge (t ∷ ts) prints =
    omega (arith, length-append (gap edge t ++ token_text t) (text_after (edge_of t) ts), length-append (gap edge t) (token_text t), gap-short edge t, token-short t prints.0, text-short (edge_of t) ts prints.1)

-- the line of tokens that can be printed
line-short : (ts : List Token) → All IsPrintableToken ts → length (line_of ts) ≤ 25 * length ts + 1
line-short ts prints = omega (arith, length-append (line_text ts) (10 ∷ []), text-short Tight ts (recursion_from_All IsPrintableToken ts prints))

-- ---- how many tokens an expression has

enclosed-few : (b : Bool) (ts : List Token) → length (enclosed b ts) ≤ length ts + 2
enclosed-few false ts = omega arith
enclosed-few true ts = omega (arith, length-append ts (Symbol symbol.Close ∷ []))

called-few : (o : BinOp) (xs ys : List Token) → length (call_tokens o xs ys) ≡ length xs + length ys + 4
called-few o xs ys = omega (arith, length-append xs (Symbol symbol.Comma ∷ (ys ++ Symbol symbol.Close ∷ [])), length-append ys (Symbol symbol.Close ∷ []))

either-few : (b : Bool) (xs ys : List Token) (most : ℕ) → length xs ≤ most → length ys ≤ most → length (cond b xs ys) ≤ most
either-few true xs ys most some other = some
either-few false xs ys most some other = other

tokens-few : (x : Expression) → length (tokens_of x) ≤ 9 * size_of x
tokens-few (number z) = omega arith
tokens-few (variable n) = omega arith
tokens-few (unary o x) = omega (arith, enclosed-few (is_compound x) (tokens_of x), tokens-few x)
tokens-few (binary o x y) =
    let left = tokens-few x in
    let right = tokens-few y in
    either-few (is_call (notation_of o)) (call_tokens o (tokens_of x) (tokens_of y)) (operand_tokens x ++ operator_token o ∷ operand_tokens y) (9 * (size_of x + size_of y + 1))
    (omega (arith, called-few o (tokens_of x) (tokens_of y), left, right))
    (omega (arith, length-append (operand_tokens x) (operator_token o ∷ operand_tokens y), enclosed-few (is_compound x) (tokens_of x), enclosed-few (is_compound y) (tokens_of y), left, right))
tokens-few (choice c x y) =
    let after : List Token = operand_tokens x ++ Keyword keyword.Else ∷ operand_tokens y in
    omega (
      arith,
      length-append (operand_tokens c) (Keyword keyword.Then ∷ after),
      length-append (operand_tokens x) (Keyword keyword.Else ∷ operand_tokens y),
      enclosed-few (is_compound c) (tokens_of c),
      enclosed-few (is_compound x) (tokens_of x),
      enclosed-few (is_compound y) (tokens_of y),
      tokens-few c,
      tokens-few x,
      tokens-few y,
    )

expression-few : (e : Expr (List ℕ)) → length (tokens_of (tree_of e)) ≤ 576
expression-few e = omega (arith, tokens-few (tree_of e), size-fits e)

-- ---- how many tokens a line has

decl-few : (d : Decl) → length (decl_tokens d) ≤ 4
decl-few (Input n v) = omega arith
decl-few (Event n) = omega arith

clock-few : (c : RawClock) → length (clock_tokens c) ≤ 4
clock-few (Every period offset) = omega arith
clock-few (On n) = omega arith

option-few : (w : keywords.Keyword) (o : Option ℕ) → length (option_tokens w o) ≤ 2
option-few w None = omega arith
option-few w (Some n) = omega arith

when-few : (o : Option (List ℕ)) → length (when_tokens o) ≤ 2
when-few None = omega arith
when-few (Some n) = omega arith

task-few : (version : ℕ) (t : TaskLine) → length (task_tokens version t) ≤ 16
task-few version t =
    let cs = clock_tokens t.clock in
    let ws = when_tokens t.when in
    let ps = option_tokens keyword.Prio t.prio in
    let ds = option_tokens keyword.Deadline t.deadline in
    let us = option_tokens keyword.Cpu (named_cpu version t.cpu) in
    omega (
      arith,
      length-append (cs ++ ws ++ ps ++ ds) (Keyword keyword.Cost ∷ Number (pos t.cost) ∷ us),
      length-append (cs ++ ws ++ ps) ds,
      length-append (cs ++ ws) ps,
      length-append cs ws,
      clock-few t.clock,
      when-few t.when,
      option-few keyword.Cpu (named_cpu version t.cpu),
      option-few keyword.Prio t.prio,
      option-few keyword.Deadline t.deadline,
    )

delay-few : (d : ℕ) → length (delay_tokens d) ≤ 2
delay-few d =
    either-few (d == 0) [] _ 2 (omega arith) (either-few (d == 1) (Keyword keyword.Pre ∷ []) (Keyword keyword.Pre ∷ Number (pos d) ∷ []) 2 (omega arith) (omega arith))

part-few : (p : Part) → length (part_tokens p) ≤ 600
part-few (part.State n v) = omega arith
part-few (part.Sense n i) = omega arith
part-few (part.Read n d w p a) =
    omega (
      arith,
      length-append (source_tokens d w p) (Keyword keyword.At ∷ Number (pos a) ∷ []),
      length-append (delay_tokens d) (Name w ∷ Symbol symbol.Point ∷ Name p ∷ []),
      delay-few d,
    )
part-few (part.Let n e) = omega (arith, expression-few e)
part-few (part.Next n e) = omega (arith, expression-few e)
part-few (part.Out n v e) = omega (arith, expression-few e)

-- ---- how long a text is

after-end : IsAfterHeader place.Ended
after-end [] = refl
after-end (t ∷ ts) = refl

all-short : {A : Type 0} (P : A → Type 0) (text : A → List ℕ) (most : ℕ) → ((x : A) → P x → length (text x) ≤ most)
    → (xs : List A) → AllByRecursion P xs → length (flat_map text xs) ≤ most * length xs
all-short P text most each [] prints = omega arith
all-short P text most each (x ∷ xs) prints = omega (arith, length-append (text x) (flat_map text xs), each x prints.0, all-short P text most each xs prints.1)

decl-short : (d : Decl) → IsPrintableDecl d → length (decl_text d) ≤ 101
decl-short d prints = omega (arith, line-short (decl_tokens d) (decl-line place.Ended after-end d prints).printable, decl-few d)

part-short : (p : Part) → IsPrintablePart p → length (part_text p) ≤ 15003
part-short p prints = omega (arith, line-short (part_tokens p) (part-line place.Ended after-end p prints).printable, part-few p)

task-short : (version : ℕ) (t : RawTask) → IsPrintableTask t → length (task_text version t) ≤ 960593
task-short version t prints =
    let tokens = task_tokens version (first_line t) in
    omega (
      arith,
      length-append (line_of tokens) (flat_map part_text t.parts),
      line-short tokens (task-line place.Ended after-end version (first_line t) prints.line).printable,
      task-few version (first_line t),
      all-short IsPrintablePart part_text 15003 part-short t.parts (recursion_from_All IsPrintablePart t.parts prints.parts),
      prints.body,
    )

policy-short : (p : Policy) → length (line_of (policy_tokens p)) ≤ 51
policy-short p = omega (arith, line-short (policy_tokens p) (policy-line place.Ended after-end p).printable)

-- how many bytes a section keeps
abbrev pub kept_bytes : Option (List ℕ) → ℕ
kept_bytes None = 0
kept_bytes (Some text) = length text

section-short : (w : keywords.Keyword) (section : Option (List ℕ)) → length (section_lines w section) ≤ 26 + kept_bytes section
section-short w None = omega arith
section-short w (Some text) =
    omega (arith, length-append (line_of (Keyword w ∷ [])) text, line-short (Keyword w ∷ []) (All-from_recursion IsPrintableToken (Keyword w ∷ []) (tt, tt)))

-- the text of a body that can be printed
pub text-length : (body : Body) → IsPrintable body
    → length (canonical_text body) ≤ 31000000 + 101 * length body.decls + kept_bytes body.trace + kept_bytes body.script
text-length body prints =
    let a = line_of (header_tokens body.version) in
    let b = line_of (policy_tokens body.policy) in
    let c = line_of (until_tokens body.until) in
    let d = flat_map decl_text body.decls in
    let e = flat_map (task_text body.version) body.tasks in
    let f = section_lines keyword.Trace body.trace in
    let g = section_lines keyword.Script body.script in
    let h = line_of (Keyword keyword.Done ∷ []) in
    omega (
      arith,
      length-append (a ++ b ++ c ++ d ++ e ++ f ++ g) h,
      length-append (a ++ b ++ c ++ d ++ e ++ f) g,
      length-append (a ++ b ++ c ++ d ++ e) f,
      length-append (a ++ b ++ c ++ d) e,
      length-append (a ++ b ++ c) d,
      length-append (a ++ b) c,
      length-append a b,
      line-short (header_tokens body.version) (header-line body.version prints.version).printable,
      policy-short body.policy,
      line-short (until_tokens body.until) (until-line place.Ended after-end body.until prints.until).printable,
      all-short IsPrintableDecl decl_text 101 decl-short body.decls (recursion_from_All IsPrintableDecl body.decls prints.decls),
      all-short IsPrintableTask (task_text body.version) 960593 (task-short body.version) body.tasks (recursion_from_All IsPrintableTask body.tasks prints.tasks),
      prints.few,
      section-short keyword.Trace body.trace,
      section-short keyword.Script body.script,
      line-short (Keyword keyword.Done ∷ []) (done-line place.Ended after-end).printable,
    )
