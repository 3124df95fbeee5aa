-- The canonical lines of a document's items say the items.
use Rattle.std.proofs.Common.{◌≡◌, ℕ, pos, zero, suc, ◌+◌, ◌<◌, ◌≤◌, ◌^◌, Bool, true, false, cond, All, List, [], ◌∷◌, ◌++◌, length, Option, Some, None, refl, sym, ap, subst, arith, append_assoc}
use Rattle.std.specs.Prelude.{nat_lt, ◌==◌}
use Rattle.std.specs.List.{AllByRecursion}
use Rattle.std.specs.Option.{option_map, IfSome}
use Rattle.std.proofs.lemmas.Bool.Decides.{nat_tests}
use Rattle.std.proofs.lemmas.List.{append-nil}
use Rattle.std.proofs.lemmas.List.Elements.{All-from_recursion, recursion_from_All}
use Rattle.dbp_plan.specs.declared.diagram.Policy.{Policy}
use Rattle.dbp_plan.specs.declared.expr.Expr.{Expr}
use Rattle.dbp_plan.specs.declared.limits.TheConstants.{MAX_NODES, MAX_TIME, MAX_PRIO, MAX_CPU}
use Rattle.dbp_plan.specs.Expr.{tree_of}
use Rattle.dbp_plan.specs.Limits.{max_delay, max_delay-le}
use Rattle.dbp_plan.specs.Tree.{Tree, number, variable, unary, binary, choice, size_of, root_of, nodes_of}
use Rattle.dbp_plan.specs.TreeLaws.{length-nodes_of}
use Rattle.dia_tokens.specs.declared.token.Token.{Token}
use Rattle.dia_tokens.specs.declared.token.Token.TheVariants.{Keyword, Name, Number, Symbol}
use Rattle.dia_tokens.specs.declared.token.Keyword as keywords
use Rattle.dia_tokens.specs.declared.token.Keyword.TheVariants as keyword
use Rattle.dia_tokens.specs.declared.token.Symbol.TheVariants.{Assign, Point}
use Rattle.dia_tokens.specs.KeepsSigns.{KeepsSigns}
use Rattle.dia_tokens.specs.Printable.{IsPrintableName, IsPrintableToken}
use Rattle.dia_exprs.specs.declared.counts.TheConstants.{MAX_DEPTH}
use Rattle.dia_exprs.specs.declared.level.Level.TheVariants.{Whole}
use Rattle.dia_exprs.specs.Counts.{node_count, opened, deepest, depth_of}
use Rattle.dia_exprs.specs.Grammar.{Expression}
use Rattle.dia_exprs.proofs.PrintableTrees.{all-parts}
use Rattle.dia_exprs.proofs.Sizes.{one-node-a-token}
use Rattle.dia_exprs.specs.Printable.{IsPrintableTree, IsPrintableNode}
use Rattle.dia_lines.specs.declared.item.Decl.{Decl}
use Rattle.dia_lines.specs.declared.item.Decl.TheVariants.{Input, Event}
use Rattle.dia_lines.specs.declared.item.Part.{Part}
use Rattle.dia_lines.specs.declared.item.Part.TheVariants as part
use Rattle.dia_lines.specs.declared.item.RawClock.{RawClock}
use Rattle.dia_lines.specs.declared.item.RawClock.TheVariants.{Every, On}
use Rattle.dia_lines.specs.declared.item.TaskLine.{TaskLine}
use Rattle.dia_lines.specs.declared.place.Place.{Place}
use Rattle.dia_lines.specs.declared.place.Place.TheVariants.{Header}
use Rattle.dia_lines.specs.Delays.{delay_tokens}
use Rattle.dia_lines.proofs.DelayLaws.{given_delay, longer-tokens, delay-spelled, each-delay-token}
use Rattle.dia_lines.proofs.FormLaws.{in_five}
use Rattle.dia_lines.specs.Lines.{token_fault, lacks_header, expression_of}
use Rattle.dia_lines.specs.Statements.{Statement, header, policy, until, trace, script, done, state, sense, a_policy, an_until, a_trace, a_script, an_end, in_version_1, in_version_2, SpellsClock, from_offset, with_event, SpellsWhen, always, guarded, SpellsOption, left_out, given, at_tick, IsStatement, an_input, an_event, a_task, a_state, a_sense, a_read, a_let_line, a_next_line, an_out}
use Rattle.dia_print.specs.ExpressionTokens.{tokens_of}
use Rattle.dia_print.specs.ItemTokens.{assigned, decl_tokens, clock_tokens, option_tokens, when_tokens, named_cpu, task_tokens, source_tokens, part_tokens, policy_tokens, until_tokens, header_tokens}
use Rattle.dia_print.proofs.ItemStatements.{decl_statement, clock_of, header_of, task_statement, part_statement}
use Rattle.dia_print.specs.Printable.{IsPrintableExpr, IsPrintableDecl, IsPrintableClock, IsPrintablePart, IsPrintableTaskLine}
use Rattle.dia_print.proofs.ExpressionLaws.{spells-tokens, keeps-tokens, both-parts, each-printable, shallow}

-- ---- what the items say

pub decl-says : (d : Decl) → IsStatement (decl_tokens d) (decl_statement d)
decl-says (Input n v) = an_input n v
decl-says (Event n) = an_event n

clock-says : (c : RawClock) → SpellsClock (clock_tokens c) (clock_of c)
clock-says (Every p o) = from_offset (pos p) (pos o)
clock-says (On n) = with_event n

option-says : (w : keywords.Keyword) (o : Option ℕ) → SpellsOption w (option_tokens w o) (option_map pos o)
option-says w None = left_out
option-says w (Some n) = given (pos n)

when-says : (o : Option (List ℕ)) → SpellsWhen (when_tokens o) o
when-says None = always
when-says (Some n) = guarded n

pub task-says : (version : ℕ) (t : TaskLine) → IsStatement (task_tokens version t) (task_statement version t)
task-says version t =
    let us = option_tokens keyword.Cpu (named_cpu version t.cpu) in
    a_task (header_of version t) (clock_tokens t.clock) (when_tokens t.when) (option_tokens keyword.Prio t.prio) (option_tokens keyword.Deadline t.deadline) us
    (clock-says t.clock) (when-says t.when) (option-says keyword.Prio t.prio) (option-says keyword.Deadline t.deadline) (option-says keyword.Cpu (named_cpu version t.cpu))

pub part-says : (p : Part) → IsPrintablePart p → IsStatement (part_tokens p) (part_statement p)
part-says (part.State n v) h = a_state n v
part-says (part.Sense n i) h = a_sense n i
part-says (part.Read n d w p a) h =
    let read = a_read n w p (delay_tokens d) (Keyword keyword.At ∷ Number (pos a) ∷ []) (given_delay d) (pos a) (delay-spelled d) (at_tick (pos a)) in
    subst (λ ts. IsStatement (Keyword keyword.Read ∷ Name n ∷ Symbol Assign ∷ ts) (part_statement (part.Read n d w p a))) (sym (append_assoc (delay_tokens d) (Name w ∷ Symbol Point ∷ Name p ∷ []) (Keyword keyword.At ∷ Number (pos a) ∷ []))) read
part-says (part.Let n e) h = a_let_line n (tokens_of (tree_of e)) (tree_of e) (spells-tokens (tree_of e))
part-says (part.Next n e) h = a_next_line n (tokens_of (tree_of e)) (tree_of e) (spells-tokens (tree_of e))
part-says (part.Out n v e) h = an_out n v (tokens_of (tree_of e)) (tree_of e) (spells-tokens (tree_of e))

-- ---- no fault of the tokens

faultless : (place : Place) (ts : List Token) → lacks_header place ts ≡ false → node_count (expression_of ts) ≤ MAX_NODES → depth_of ts ≤ MAX_DEPTH → token_fault place ts ≡ None
faultless place ts h n d =
    let nodes : nat_lt MAX_NODES (node_count (expression_of ts)) ≡ false = grind (arith, nat_tests) in
    let depth : nat_lt MAX_DEPTH (depth_of ts) ≡ false = grind (arith, nat_tests) in
    rw (h, nodes, depth) refl

-- a token that is no parenthesis, and belongs to no expression
abbrev IsPlain : Token → Type 0
IsPlain t = (k : ℕ) → opened k t ≡ k

plain-depth : (k : ℕ) (ts : List Token) → AllByRecursion IsPlain ts → deepest k ts ≤ k
plain-depth k [] h = omega arith
plain-depth k (t ∷ ts) h = let rest = plain-depth k ts h.1 in rw (h.0 k) (omega (arith, rest))

-- the clock and the optional parts of a task's line before its cost
abbrev options_of : TaskLine → List Token
options_of t = clock_tokens t.clock ++ when_tokens t.when ++ option_tokens keyword.Prio t.prio ++ option_tokens keyword.Deadline t.deadline

-- what holds of each token of these parts holds of each token of all
options-each : (P : Token → Type 0) (t : TaskLine) → AllByRecursion P (clock_tokens t.clock) → AllByRecursion P (when_tokens t.when) → AllByRecursion P (option_tokens keyword.Prio t.prio)
    → AllByRecursion P (option_tokens keyword.Deadline t.deadline) → AllByRecursion P (options_of t)
options-each P t c w p d =
    let cs = clock_tokens t.clock in
    let ws = when_tokens t.when in
    let ps = option_tokens keyword.Prio t.prio in
    both-parts P (cs ++ ws ++ ps) (option_tokens keyword.Deadline t.deadline) (both-parts P (cs ++ ws) ps (both-parts P cs ws c w) p) d

clock-plain : (c : RawClock) → AllByRecursion IsPlain (clock_tokens c)
clock-plain (Every p o) = (λ k. refl, (λ k. refl, (λ k. refl, (λ k. refl, tt))))
clock-plain (On n) = (λ k. refl, (λ k. refl, tt))

when-plain : (o : Option (List ℕ)) → AllByRecursion IsPlain (when_tokens o)
when-plain None = tt
when-plain (Some n) = (λ k. refl, (λ k. refl, tt))

option-plain : (w : keywords.Keyword) (o : Option ℕ) → AllByRecursion IsPlain (option_tokens w o)
option-plain w None = tt
option-plain w (Some n) = (λ k. refl, (λ k. refl, tt))

task-plain : (version : ℕ) (t : TaskLine) → AllByRecursion IsPlain (task_tokens version t)
task-plain version t =
    let us = option_tokens keyword.Cpu (named_cpu version t.cpu) in
    let parts = options-each IsPlain t (clock-plain t.clock) (when-plain t.when) (option-plain keyword.Prio t.prio) (option-plain keyword.Deadline t.deadline) in
    let end : AllByRecursion IsPlain (Keyword keyword.Cost ∷ Number (pos t.cost) ∷ us) = (λ k. refl, (λ k. refl, option-plain keyword.Cpu (named_cpu version t.cpu))) in
    (λ k. refl, (λ k. refl, both-parts IsPlain (options_of t) (Keyword keyword.Cost ∷ Number (pos t.cost) ∷ us) parts end))

read-plain : (n w p : List ℕ) (d a : ℕ) → AllByRecursion IsPlain (assigned keyword.Read n ++ (source_tokens d w p ++ Keyword keyword.At ∷ Number (pos a) ∷ []))
read-plain n w p d a = (
  λ k. refl,
  (
    λ k. refl,
    (
      λ k. refl,
      both-parts IsPlain (source_tokens d w p) (Keyword keyword.At ∷ Number (pos a) ∷ []) (both-parts IsPlain (delay_tokens d) (Name w ∷ Symbol Point ∷ Name p ∷ []) (each-delay-token IsPlain d (λ k. refl) (λ k. refl)) (λ k. refl, (λ k. refl, (λ k. refl, tt)))) (λ k. refl, (λ k. refl, tt)),
    ),
  ),
)

-- tokens without an expression
plain-faultless : (place : Place) (ts : List Token) → lacks_header place ts ≡ false → expression_of ts ≡ [] → AllByRecursion IsPlain ts → token_fault place ts ≡ None
plain-faultless place ts h e p = let d = plain-depth 0 ts p in faultless place ts h (rw e (omega arith)) (omega (arith, d))

-- so many nodes has an expression at most
pub size-fits : (e : Expr (List ℕ)) → size_of (tree_of e) ≤ MAX_NODES
size-fits e = omega (arith, e.few, ap length e.tree.1, length-nodes_of 0 (tree_of e))

expression-nodes : (e : Expr (List ℕ)) → node_count (tokens_of (tree_of e)) ≤ MAX_NODES
expression-nodes e = let one = one-node-a-token Whole (tokens_of (tree_of e)) (tree_of e) (spells-tokens (tree_of e)) in omega (arith, one, size-fits e)

expression-depth : (e : Expr (List ℕ)) → deepest 0 (tokens_of (tree_of e)) ≤ MAX_DEPTH
expression-depth e =
    let deep : deepest 0 (tokens_of (tree_of e) ++ []) ≤ MAX_DEPTH = shallow (tree_of e) 0 MAX_DEPTH [] (omega (arith, size-fits e)) (omega arith) in
    subst (λ ts. deepest 0 ts ≤ MAX_DEPTH) (append-nil (tokens_of (tree_of e))) deep

-- ---- lines

-- the tokens are the statement, can be printed, keep the signs of numbers, and have no fault at the place
pub record IsLine (place : Place) (ts : List Token) (s : Statement) : Type 0 where
  pub form : IsStatement ts s
  pub printable : All IsPrintableToken ts
  pub signs : KeepsSigns true ts
  pub faultless : token_fault place ts ≡ None

-- a place after the first line
abbrev pub IsAfterHeader : Place → Type 0
IsAfterHeader place = (ts : List Token) → lacks_header place ts ≡ false

-- the tokens after are no number
abbrev Follows : List Token → Type 0
Follows rest = (s : Bool) → KeepsSigns s rest

clock-keeps : (c : RawClock) (rest : List Token) → Follows rest → Follows (clock_tokens c ++ rest)
clock-keeps (Every p o) rest f s = (λ e. tt, (λ e. tt, (λ e. tt, (λ e. tt, f false))))
clock-keeps (On n) rest f s = (λ e. tt, (λ e. tt, f false))

option-keeps : (w : keywords.Keyword) (o : Option ℕ) (rest : List Token) → Follows rest → Follows (option_tokens w o ++ rest)
option-keeps w None rest f s = f s
option-keeps w (Some n) rest f s = (λ e. tt, (λ e. tt, f false))

when-keeps : (o : Option (List ℕ)) (rest : List Token) → Follows rest → Follows (when_tokens o ++ rest)
when-keeps None rest f s = f s
when-keeps (Some n) rest f s = (λ e. tt, (λ e. tt, f false))

cpu-keeps : (o : Option ℕ) → Follows (option_tokens keyword.Cpu o)
cpu-keeps None s = tt
cpu-keeps (Some n) s = (λ e. tt, (λ e. tt, tt))

task-keeps : (version : ℕ) (t : TaskLine) → KeepsSigns true (task_tokens version t)
task-keeps version t =
    let cs = clock_tokens t.clock in
    let ws = when_tokens t.when in
    let ps = option_tokens keyword.Prio t.prio in
    let ds = option_tokens keyword.Deadline t.deadline in
    let costs : List Token = Keyword keyword.Cost ∷ Number (pos t.cost) ∷ option_tokens keyword.Cpu (named_cpu version t.cpu) in
    let last : Follows costs = λ s. (λ e. tt, (λ e. tt, cpu-keeps (named_cpu version t.cpu) false)) in
    let options : Follows (ps ++ (ds ++ costs)) = option-keeps keyword.Prio t.prio (ds ++ costs) (option-keeps keyword.Deadline t.deadline costs last) in
    let all : KeepsSigns false (cs ++ (ws ++ (ps ++ (ds ++ costs)))) = clock-keeps t.clock (ws ++ (ps ++ (ds ++ costs))) (when-keeps t.when (ps ++ (ds ++ costs)) options) false in
    let same : cs ++ (ws ++ (ps ++ (ds ++ costs))) ≡ cs ++ ws ++ ps ++ ds ++ costs = in_five cs ws ps ds costs in
    (λ e. tt, (λ e. tt, subst (KeepsSigns false) same all))

delay-keeps : (d : ℕ) (rest : List Token) → Follows rest → Follows (delay_tokens d ++ rest)
delay-keeps zero rest f s = f s
delay-keeps (suc zero) rest f s = (λ e. tt, f true)
delay-keeps (suc (suc d)) rest f s = rw (longer-tokens d) (λ e. tt, (λ e. tt, f false))

read-keeps : (n w p : List ℕ) (d a : ℕ) → KeepsSigns true (assigned keyword.Read n ++ (source_tokens d w p ++ Keyword keyword.At ∷ Number (pos a) ∷ []))
read-keeps n w p d a =
    let port : List Token = Name w ∷ Symbol Point ∷ Name p ∷ [] in
    let time : List Token = Keyword keyword.At ∷ Number (pos a) ∷ [] in
    let last : Follows (port ++ time) = λ s. (λ e. tt, (λ e. tt, (λ e. tt, (λ e. tt, (λ e. tt, tt))))) in
    (λ e. tt, (λ e. tt, (λ e. tt, subst (KeepsSigns true) (sym (append_assoc (delay_tokens d) port time)) (delay-keeps d (port ++ time) last true))))

expression-keeps : (x : Expression) → KeepsSigns true (tokens_of x)
expression-keeps x = subst (KeepsSigns true) (append-nil (tokens_of x)) (keeps-tokens x [] (λ s. tt))

-- a small number
small : (n : ℕ) → n ≤ MAX_TIME → n < 2 ^ 63
small n h = omega (arith, h)

clock-tokens : (c : RawClock) → IsPrintableClock c → AllByRecursion IsPrintableToken (clock_tokens c)
clock-tokens (Every p o) h = (tt, (small p h.1, (tt, (small o h.2, tt))))
clock-tokens (On n) h = (tt, (h, tt))

when-tokens : (o : Option (List ℕ)) → IfSome o IsPrintableName → AllByRecursion IsPrintableToken (when_tokens o)
when-tokens None h = tt
when-tokens (Some n) h = (tt, (h, tt))

option-tokens : (w : keywords.Keyword) (o : Option ℕ) → IfSome o (λ n. n < 2 ^ 63) → AllByRecursion IsPrintableToken (option_tokens w o)
option-tokens w None h = tt
option-tokens w (Some n) h = (tt, (h, tt))

small-prio : (o : Option ℕ) → IfSome o (λ p. p ≤ MAX_PRIO) → IfSome o (λ n. n < 2 ^ 63)
small-prio None h = tt
small-prio (Some n) h = omega (arith, h)

small-cpu : (version cpu : ℕ) → cpu ≤ MAX_CPU → IfSome (named_cpu version cpu) (λ n. n < 2 ^ 63)
small-cpu version cpu h = by_version (version == 2)
  where
    by_version : (b : Bool) → IfSome (cond b (Some cpu) None) (λ n. n < 2 ^ 63)
    by_version true = omega (arith, h)
    by_version false = tt

small-deadline : (o : Option ℕ) → IfSome o (λ d. (1 ≤ d) × (d ≤ MAX_TIME)) → IfSome o (λ n. n < 2 ^ 63)
small-deadline None h = tt
small-deadline (Some n) h = small n h.1

task-printable : (version : ℕ) (t : TaskLine) → IsPrintableTaskLine t → AllByRecursion IsPrintableToken (task_tokens version t)
task-printable version t h =
    let us = option_tokens keyword.Cpu (named_cpu version t.cpu) in
    let prio = option-tokens keyword.Prio t.prio (small-prio t.prio h.prio) in
    let deadline = option-tokens keyword.Deadline t.deadline (small-deadline t.deadline h.deadline) in
    let cpu = option-tokens keyword.Cpu (named_cpu version t.cpu) (small-cpu version t.cpu h.cpu) in
    let parts = options-each IsPrintableToken t (clock-tokens t.clock h.clock) (when-tokens t.when h.when) prio deadline in
    (tt, (h.named, both-parts IsPrintableToken (options_of t) (Keyword keyword.Cost ∷ Number (pos t.cost) ∷ us) parts (tt, (small t.cost h.cost.1, cpu))))

read-printable : (n w p : List ℕ) (d a : ℕ) → IsPrintableName n → d ≤ max_delay → IsPrintableName w → IsPrintableName p → a ≤ MAX_TIME
    → AllByRecursion IsPrintableToken (assigned keyword.Read n ++ (source_tokens d w p ++ Keyword keyword.At ∷ Number (pos a) ∷ []))
read-printable n w p d a f short g h less = (
  tt,
  (
    f,
    (
      tt,
      both-parts IsPrintableToken (source_tokens d w p) (Keyword keyword.At ∷ Number (pos a) ∷ []) (both-parts IsPrintableToken (delay_tokens d) (Name w ∷ Symbol Point ∷ Name p ∷ []) (each-delay-token IsPrintableToken d tt (omega (arith, short, max_delay-le))) (g, (tt, (h, tt)))) (tt, (small a less, tt)),
    ),
  ),
)

-- the tree of nodes that can be printed
printable-nodes : (at : ℕ) (t : Tree (List ℕ)) → AllByRecursion IsPrintableNode (nodes_of at t) → IsPrintableTree t
printable-nodes at (number z) h = h.0
printable-nodes at (variable n) h = h.0
printable-nodes at (unary o t) h = printable-nodes at t (all-parts IsPrintableNode (nodes_of at t) (root_of at (unary o t) ∷ []) h).0
printable-nodes at (binary o l r) h =
    let ls = nodes_of at l in
    let rs = nodes_of (at + size_of l) r in
    let both = all-parts IsPrintableNode ls rs (all-parts IsPrintableNode (ls ++ rs) (root_of at (binary o l r) ∷ []) h).0 in
    (printable-nodes at l both.0, printable-nodes (at + size_of l) r both.1)
printable-nodes at (choice c x y) h =
    let cs = nodes_of at c in
    let xs = nodes_of (at + size_of c) x in
    let ys = nodes_of (at + size_of c + size_of x) y in
    let all = all-parts IsPrintableNode (cs ++ xs) ys (all-parts IsPrintableNode (cs ++ xs ++ ys) (root_of at (choice c x y) ∷ []) h).0 in
    let both = all-parts IsPrintableNode cs xs all.0 in
    (printable-nodes at c both.0, printable-nodes (at + size_of c) x both.1, printable-nodes (at + size_of c + size_of x) y all.1)

expression-printable : (e : Expr (List ℕ)) → IsPrintableExpr e → AllByRecursion IsPrintableToken (tokens_of (tree_of e))
expression-printable e h = each-printable (tree_of e) (printable-nodes 0 (tree_of e) (recursion_from_All IsPrintableNode (nodes_of 0 (tree_of e)) (subst (All IsPrintableNode) e.tree.1 h)))

module _ (place : Place) (after : IsAfterHeader place) where
  plain-line : (ts : List Token) (s : Statement) → expression_of ts ≡ [] → AllByRecursion IsPlain ts → IsStatement ts s → AllByRecursion IsPrintableToken ts → KeepsSigns true ts → IsLine place ts s
  plain-line ts s e p form printable signs =
      record { form = form; printable = All-from_recursion IsPrintableToken ts printable; signs = signs; faultless = plain-faultless place ts (after ts) e p }

  pub policy-line : (p : Policy) → IsLine place (policy_tokens p) (policy p)
  policy-line p = plain-line (policy_tokens p) (policy p) refl (λ k. refl, (λ k. refl, tt)) (a_policy p) (tt, (tt, tt)) (λ e. tt, (λ e. tt, tt))

  pub until-line : (n : ℕ) → n ≤ MAX_TIME → IsLine place (until_tokens n) (until (pos n))
  until-line n h = plain-line (until_tokens n) (until (pos n)) refl (λ k. refl, (λ k. refl, tt)) (an_until (pos n)) (tt, (small n h, tt)) (λ e. tt, (λ e. tt, tt))

  pub decl-line : (d : Decl) → IsPrintableDecl d → IsLine place (decl_tokens d) (decl_statement d)
  decl-line (Input n v) h =
      plain-line (decl_tokens (Input n v)) (decl_statement (Input n v)) refl (λ k. refl, (λ k. refl, (λ k. refl, (λ k. refl, tt)))) (decl-says (Input n v))
      (tt, (h.0, (tt, (h.1, tt)))) (λ e. tt, (λ e. tt, (λ e. tt, (λ e. absurd cc, tt))))
  decl-line (Event n) h = plain-line (decl_tokens (Event n)) (decl_statement (Event n)) refl (λ k. refl, (λ k. refl, tt)) (decl-says (Event n)) (tt, (h, tt)) (λ e. tt, (λ e. tt, tt))

  pub task-line : (version : ℕ) (t : TaskLine) → IsPrintableTaskLine t → IsLine place (task_tokens version t) (task_statement version t)
  task-line version t h =
      plain-line (task_tokens version t) (task_statement version t) refl (task-plain version t) (task-says version t) (task-printable version t h) (task-keeps version t)

  pub part-line : (p : Part) → IsPrintablePart p → IsLine place (part_tokens p) (part_statement p)
  part-line (part.State n v) h =
      plain-line (part_tokens (part.State n v)) (state n v) refl (λ k. refl, (λ k. refl, (λ k. refl, (λ k. refl, tt)))) (a_state n v)
      (tt, (h.0, (tt, (h.1, tt)))) (λ e. tt, (λ e. tt, (λ e. tt, (λ e. absurd cc, tt))))
  part-line (part.Sense n i) h =
      plain-line (part_tokens (part.Sense n i)) (sense n i) refl (λ k. refl, (λ k. refl, (λ k. refl, (λ k. refl, tt)))) (a_sense n i)
      (tt, (h.0, (tt, (h.1, tt)))) (λ e. tt, (λ e. tt, (λ e. tt, (λ e. tt, tt))))
  part-line (part.Read n d w p a) h =
      plain-line (part_tokens (part.Read n d w p a)) (part_statement (part.Read n d w p a)) refl (read-plain n w p d a) (part-says (part.Read n d w p a) h) (read-printable n w p d a h.0 h.1 h.2 h.3 h.4) (read-keeps n w p d a)
  part-line (part.Let n e) h =
      let ts = part_tokens (part.Let n e) in
      record {
        form = part-says (part.Let n e) h;
        printable = All-from_recursion IsPrintableToken ts (tt, (h.0, (tt, expression-printable e h.1)));
        signs = (λ s. tt, (λ s. tt, (λ s. tt, expression-keeps (tree_of e))));
        faultless = faultless place ts (after ts) (expression-nodes e) (omega (arith, expression-depth e));
      }
  part-line (part.Next n e) h =
      let ts = part_tokens (part.Next n e) in
      record {
        form = part-says (part.Next n e) h;
        printable = All-from_recursion IsPrintableToken ts (tt, (h.0, (tt, expression-printable e h.1)));
        signs = (λ s. tt, (λ s. tt, (λ s. tt, expression-keeps (tree_of e))));
        faultless = faultless place ts (after ts) (expression-nodes e) (omega (arith, expression-depth e));
      }
  part-line (part.Out n v e) h =
      let ts = part_tokens (part.Out n v e) in
      record {
        form = part-says (part.Out n v e) h;
        printable = All-from_recursion IsPrintableToken ts (tt, (h.0, (tt, (h.1, (tt, expression-printable e h.2)))));
        signs = (λ s. tt, (λ s. tt, (λ s. tt, (λ s. absurd cc, (λ s. tt, expression-keeps (tree_of e))))));
        faultless = faultless place ts (after ts) (expression-nodes e) (omega (arith, expression-depth e));
      }

  -- a line of one keyword
  pub trace-line : IsLine place (Keyword keyword.Trace ∷ []) trace
  trace-line = plain-line (Keyword keyword.Trace ∷ []) trace refl (λ k. refl, tt) a_trace (tt, tt) (λ e. tt, tt)

  pub script-line : IsLine place (Keyword keyword.Script ∷ []) script
  script-line = plain-line (Keyword keyword.Script ∷ []) script refl (λ k. refl, tt) a_script (tt, tt) (λ e. tt, tt)

  pub done-line : IsLine place (Keyword keyword.Done ∷ []) done
  done-line = plain-line (Keyword keyword.Done ∷ []) done refl (λ k. refl, tt) an_end (tt, tt) (λ e. tt, tt)

pub header-line : (version : ℕ) → (1 ≤ version) × (version ≤ 2) → IsLine Header (header_tokens version) (header version)
header-line zero h = absurd (omega (arith, h.0))
header-line (suc zero) h = record {
  form = in_version_1;
  printable = All-from_recursion IsPrintableToken (header_tokens 1) (tt, (omega arith, tt));
  signs = (λ e. tt, (λ e. tt, tt));
  faultless = plain-faultless Header (header_tokens 1) refl refl (λ k. refl, (λ k. refl, tt));
}
header-line (suc (suc zero)) h = record {
  form = in_version_2;
  printable = All-from_recursion IsPrintableToken (header_tokens 2) (tt, (omega arith, tt));
  signs = (λ e. tt, (λ e. tt, tt));
  faultless = plain-faultless Header (header_tokens 2) refl refl (λ k. refl, (λ k. refl, tt));
}
header-line (suc (suc (suc more))) h = absurd (omega (arith, h.1))
