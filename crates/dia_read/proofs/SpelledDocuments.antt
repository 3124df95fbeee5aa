-- What a text spells is what a reader's draft comes to, so it can be printed and has a line of each item.
use Rattle.std.proofs.Common.{◌≡◌, ℕ, ℤ, pos, negsuc, ◌≤◌, ◌<◌, true, false, List, [], ◌∷◌, length, Option, Some, None, refl, sym, ap, ◌∙◌, subst, arith}
use Rattle.std.specs.Prelude.{◌&&◌, nat_lt}
use Rattle.std.specs.Option.{option_map}
use Rattle.std.proofs.lemmas.Bool.{and_parts}
use Rattle.std.proofs.lemmas.Bool.Decides.{nat_tests}
use Rattle.dbp_plan.proofs.FirstFaults.{test-none}
use Rattle.dbp_plan.specs.declared.expr.Expr.{Expr}
use Rattle.dbp_plan.specs.declared.limits.TheConstants.{MAX_NODES, MAX_TIME, MAX_PRIO, MAX_CPU}
use Rattle.dbp_plan.specs.Expr.{IsExprOf}
use Rattle.dbp_plan.specs.Limits.{max_delay}
use Rattle.dbp_plan.specs.Tree.{Tree, nodes_of}
use Rattle.dbp_plan.specs.TreeLaws.{length-nodes_of}
use Rattle.dia_tokens.specs.declared.token.Token.{Token}
use Rattle.dia_exprs.specs.declared.level.Level.TheVariants.{Whole}
use Rattle.dia_exprs.specs.Counts.{node_count}
use Rattle.dia_exprs.specs.Grammar.{Spells as SpellsTree}
use Rattle.dia_exprs.proofs.Sizes.{one-node-a-token}
use Rattle.dia_lines.specs.declared.fault.Limit.TheVariants.{Nodes}
use Rattle.dia_lines.specs.declared.fault.ReadCode.TheVariants.{LimitHit, MissingHeader}
use Rattle.dia_lines.specs.declared.item.Decl.TheVariants.{Input, Event}
use Rattle.dia_lines.specs.declared.item.Line.{Line}
use Rattle.dia_lines.specs.declared.item.Line.TheVariants as line
use Rattle.dia_lines.specs.declared.item.Part.TheVariants as part
use Rattle.dia_lines.specs.declared.item.RawClock.{RawClock}
use Rattle.dia_lines.specs.declared.item.RawClock.TheVariants.{Every, On}
use Rattle.dia_lines.specs.declared.place.Place.{Place}
use Rattle.dia_lines.specs.declared.place.Place.TheVariants.{Ended}
use Rattle.dia_lines.specs.declared.position.Position.{Position}
use Rattle.dia_lines.specs.Delays.{delay_of}
use Rattle.dia_lines.specs.FirstLine.{cut_line}
use Rattle.dia_lines.specs.Held.{IsClock, cpu_of, IsKept, IsHeld}
use Rattle.dia_lines.specs.Limits.{lies_within, option_lies_within, clock_fits, delay_fits, numbers_fit}
use Rattle.dia_lines.specs.Lines.{Content, expression_of, lacks_header, token_fault, place_after, statements, Reads, of_the_diagram, of_the_trace, of_the_script, an_empty_row, trace_ends, script_begins, a_row, no_step, script_ends, a_step}
use Rattle.dia_lines.specs.Statements.{Statement, Clock, every, on, IsStatement, a_blank_line, in_version_1, in_version_2, a_policy, an_until, an_input, an_event, a_task, a_state, a_sense, a_read, a_let_line, a_next_line, an_out, a_trace, a_script, an_end}
use Rattle.dia_lines.specs.Text.{lines_of}
use Rattle.dia_lines.proofs.TextLaws.{lines_of-nil, lines_of-cut_line, cut_line-shorter, cut_line-within}
use Rattle.dia_read.specs.declared.document.Doc.{Doc}
use Rattle.dia_read.specs.declared.draft.Draft.{Draft}
use Rattle.dia_read.specs.Documents.{Run, no_line, a_line, Spells}
use Rattle.dia_read.specs.Drafts.{empty_draft, finished}
use Rattle.dia_read.specs.Printable.{IsPrintable, HasItemLines}
use Rattle.dia_read.proofs.DocumentLaws.{one-document}
use Rattle.dia_read.proofs.Ending.{ended}
use Rattle.dia_read.proofs.Following.{position_at, after-there}
use Rattle.dia_read.proofs.Paired.{paired-end}
use Rattle.dia_read.proofs.Printing.{fault-free, prints-end}
use Rattle.dia_read.proofs.Reaching.{Reached, reached-start, reached-next}

-- ---- what is held of a line

-- a number within limits is held as a natural one
natural : (z : ℤ) (least greatest : ℕ) → lies_within z least greatest ≡ true → (n : ℕ) × (z ≡ pos n)
natural (pos n) least greatest h = (n, refl)
natural (negsuc n) least greatest h = absurd cc

natural-option : (o : Option ℤ) (least greatest : ℕ) → option_lies_within o least greatest ≡ true → (p : Option ℕ) × (o ≡ option_map pos p)
natural-option None least greatest h = (None, refl)
natural-option (Some z) least greatest h = let n = natural z least greatest h in (Some n.0, ap (λ (v : ℤ). Some v) n.1)

held-clock : (c : Clock) → clock_fits c ≡ true → (r : RawClock) × IsClock c r
held-clock (every p o) h =
    let each = and_parts (lies_within p 1 MAX_TIME) (lies_within o 0 MAX_TIME) h in
    let period = natural p 1 MAX_TIME each.0 in
    let offset = natural o 0 MAX_TIME each.1 in
    (Every period.0 offset.0, (period.1, offset.1))
held-clock (on n) h = (On n, refl)

held-cpu : (o : Option ℤ) → option_lies_within o 0 MAX_CPU ≡ true → (n : ℕ) × (cpu_of o ≡ pos n)
held-cpu None h = (0, refl)
held-cpu (Some z) h = natural z 0 MAX_CPU h

held-delay : (o : Option ℤ) → delay_fits o ≡ true → (n : ℕ) × (delay_of o ≡ pos n)
held-delay None h = (0, refl)
held-delay (Some z) h = natural z 1 max_delay h

-- the expression of a tree that isn't too large
held-tree : (ts : List Token) (x : Tree (List ℕ)) → SpellsTree Whole ts x → nat_lt MAX_NODES (node_count ts) ≡ false → (e : Expr (List ℕ)) × IsExprOf e x
held-tree ts x spelled few =
    let size = one-node-a-token Whole ts x spelled in
    let nodes = length-nodes_of 0 x in
    let count : node_count ts ≤ MAX_NODES = grind (arith, nat_tests) in
    (record { nodes = nodes_of 0 x; tree = (x, refl); few = omega (arith, size, nodes, count) }, refl)

held-form : (ts : List Token) (s : Statement) → IsStatement ts s → numbers_fit s ≡ true → nat_lt MAX_NODES (node_count (expression_of ts)) ≡ false → (l : Line) × IsKept s l
held-form ts s a_blank_line f few = (line.Nothing, tt)
held-form ts s in_version_1 f few = (line.Header 1, refl)
held-form ts s in_version_2 f few = (line.Header 2, refl)
held-form ts s (a_policy p) f few = (line.Policy p, refl)
held-form ts s (an_until end) f few = let n = natural end 0 MAX_TIME f in (line.Until n.0, n.1)
held-form ts s (an_input name first) f few = (line.Decl (Input name first), (refl, refl))
held-form ts s (an_event name) f few = (line.Decl (Event name), refl)
held-form ts s (a_task h cs ws ps ds us c w p d u) f few =
    let all = and_parts (clock_fits h.clock && option_lies_within h.prio 0 MAX_PRIO && option_lies_within h.deadline 1 MAX_TIME && lies_within h.cost 1 MAX_TIME) (option_lies_within h.cpu 0 MAX_CPU) f in
    let one = and_parts (clock_fits h.clock && option_lies_within h.prio 0 MAX_PRIO && option_lies_within h.deadline 1 MAX_TIME) (lies_within h.cost 1 MAX_TIME) all.0 in
    let two = and_parts (clock_fits h.clock && option_lies_within h.prio 0 MAX_PRIO) (option_lies_within h.deadline 1 MAX_TIME) one.0 in
    let three = and_parts (clock_fits h.clock) (option_lies_within h.prio 0 MAX_PRIO) two.0 in
    let clock = held-clock h.clock three.0 in
    let prio = natural-option h.prio 0 MAX_PRIO three.1 in
    let deadline = natural-option h.deadline 1 MAX_TIME two.1 in
    let cost = natural h.cost 1 MAX_TIME one.1 in
    let cpu = held-cpu h.cpu all.1 in (
      line.Task (record { name = h.name; clock = clock.0; when = h.when; prio = prio.0; deadline = deadline.0; cost = cost.0; cpu = cpu.0 }),
      (refl, clock.1, refl, prio.1, deadline.1, cost.1, cpu.1),
    )
held-form ts s (a_state name first) f few = (line.Part (part.State name first), (refl, refl))
held-form ts s (a_sense name from) f few = (line.Part (part.Sense name from), (refl, refl))
held-form ts s (a_read name writer port pre ats delay at d a) f few =
    let each = and_parts (delay_fits delay) (lies_within at 0 MAX_TIME) f in
    let before = held-delay delay each.0 in
    let time = natural at 0 MAX_TIME each.1 in
    (line.Part (part.Read name before.0 writer port time.0), (refl, before.1, refl, refl, time.1))
held-form ts s (a_let_line name us x d) f few = let e = held-tree us x d few in (line.Part (part.Let name e.0), (refl, e.1))
held-form ts s (a_next_line name us x d) f few = let e = held-tree us x d few in (line.Part (part.Next name e.0), (refl, e.1))
held-form ts s (an_out name first us x d) f few = let e = held-tree us x d few in (line.Part (part.Out name first e.0), (refl, refl, e.1))
held-form ts s a_trace f few = (line.Trace, tt)
held-form ts s a_script f few = (line.Script, tt)
held-form ts s an_end f few = (line.Done, tt)

few-nodes : (place : Place) (ts : List Token) → token_fault place ts ≡ None → nat_lt MAX_NODES (node_count (expression_of ts)) ≡ false
few-nodes place ts free =
    let header = test-none (lacks_header place ts) MissingHeader _ free in
    (test-none (nat_lt MAX_NODES (node_count (expression_of ts))) (LimitHit Nodes) _ header.1).0

-- of each line that was read something is held
held-line : (before : List Content) (bytes : List ℕ) (x : Content) → Reads before bytes x → (l : Line) × IsHeld x l
held-line before bytes x (of_the_diagram b s e i) =
    held-form i.tokens s i.stands.form (fault-free (statements before) s i.within).0 (few-nodes (place_after before) i.tokens i.faultless)
held-line before bytes x (of_the_trace b s e (an_empty_row c i)) = (line.Nothing, tt)
held-line before bytes x (of_the_trace b s e (trace_ends c i)) = (line.Done, tt)
held-line before bytes x (of_the_trace b s e (script_begins c i)) = (line.Script, tt)
held-line before bytes x (of_the_trace b s e (a_row c i j)) = (line.Row, tt)
held-line before bytes x (of_the_script b s e (no_step c i)) = (line.Nothing, tt)
held-line before bytes x (of_the_script b s e (script_ends c i)) = (line.Done, tt)
held-line before bytes x (of_the_script b s e (a_step c u ts i n m k)) = (line.Step u, refl)

-- ---- the whole text

-- a reader's draft after all lines
record ReadToEnd (bytes : List ℕ) (said : List Content) : Type 0 where
  number : ℕ
  position : Position
  draft : Draft
  reached : Reached bytes [] number position draft
  same : reached.before ≡ said

no-lines : (rest : List ℕ) → lines_of rest ≡ [] → rest ≡ []
no-lines [] none = refl
no-lines (b ∷ bs) none = let some = lines_of-cut_line (b ∷ bs) (omega arith) in absurd cc

some-bytes : (rest text : List ℕ) (texts : List (List ℕ)) → lines_of rest ≡ text ∷ texts → 0 < length rest
some-bytes [] text texts some = let none = lines_of-nil in absurd cc
some-bytes (b ∷ bs) text texts some = omega arith

read-to-end : (bytes rest : List ℕ) (number : ℕ) (position : Position) (draft : Draft) (reached : Reached bytes rest number position draft) (before said : List Content) (texts : List (List ℕ))
    → reached.before ≡ before → lines_of rest ≡ texts → Run before texts said → ReadToEnd bytes said
read-to-end bytes rest number position draft reached before said texts same are (no_line b) =
    end rest (no-lines rest are) reached same
  where
    end : (rest : List ℕ) → rest ≡ [] → (r : Reached bytes rest number position draft) → r.before ≡ before → ReadToEnd bytes before
    end [] is r same = record { number = number; position = position; draft = draft; reached = r; same = same }
    end (b ∷ bs) is r same = absurd cc
read-to-end bytes rest number position draft reached before said texts same are (a_line b after text later x reads run) =
    let some = some-bytes rest text later are in
    let cut = cut_line rest in
    let split = lines_of-cut_line rest some in
    let head : cut.0 ≡ text = cc in
    let tail : lines_of cut.1 ≡ later = cc in
    let held = held-line before text x reads in
    let said_here : Reads reached.before cut.0 x = rw (same, head) reads in
    let next = reached-next bytes rest number position draft reached cut.0 cut.1 split (cut_line-shorter rest some) (cut_line-within rest some) held.0 (position_at (x ∷ reached.before))
    (x, said_here, held.1, after-there (x ∷ reached.before)) in
    read-to-end bytes cut.1 _ _ _ next.0 (x ∷ before) said later (next.1 ∙ ap (λ (xs : List Content). x ∷ xs) same) tail run

-- the document is that of the draft
record IsDraftOf (doc : Doc) (bytes : List ℕ) : Type 0 where
  number : ℕ
  position : Position
  draft : Draft
  reached : Reached bytes [] number position draft
  is : doc ≡ finished draft

drafted-document : (bytes : List ℕ) (doc : Doc) → Spells bytes doc → IsDraftOf doc bytes
unfolding reached-start
drafted-document bytes doc s =
    let start = reached-start bytes (position_at []) (after-there []) in
    let e = read-to-end bytes bytes 0 (position_at []) empty_draft start [] s.said (lines_of bytes) refl refl s.run in
    let here : e.position.place ≡ Ended = e.reached.after.place ∙ ap place_after e.same ∙ s.ended in
    record {
      number = e.number;
      position = e.position;
      draft = e.draft;
      reached = e.reached;
      is = one-document bytes doc (finished e.draft) s (ended bytes e.number e.position e.draft e.reached here);
    }

pub printable-document : (bytes : List ℕ) (doc : Doc) → Spells bytes doc → IsPrintable doc.body
printable-document bytes doc s =
    let d = drafted-document bytes doc s in
    subst (λ (e : Doc). IsPrintable e.body) (sym d.is) (prints-end (statements d.reached.before) d.draft d.reached.printing)

pub item-lines : (bytes : List ℕ) (doc : Doc) → Spells bytes doc → HasItemLines doc
item-lines bytes doc s = let d = drafted-document bytes doc s in subst HasItemLines (sym d.is) (paired-end d.draft d.reached.paired)
