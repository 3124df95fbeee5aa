-- A draft has a line's number for each of its items.
use Rattle.std.proofs.Common.{◌≡◌, ℕ, Bool, true, false, cond, List, [], ◌∷◌, ◌++◌, length, reverse, sum_by, count_by, Option, Some, None, if◌then◌else◌, refl, sym, ap, ◌∙◌, subst, arith, length-append, inl, inr}
use Rattle.std.specs.Prelude.{◌==◌}
use Rattle.std.specs.List.{list_any, list_all}
use Rattle.std.specs.Option.{option_to_list, IfSome}
use Rattle.std.proofs.lemmas.Bool.{cases_Bool, and_parts}
use Rattle.std.proofs.lemmas.Bool.Decides.{nat_tests}
use Rattle.std.proofs.lemmas.List.Sorted.{IsPermutation-reverse, list_any-IsPermutation}
use Rattle.std.proofs.lemmas.List.Sums.{sum_by-append, sum_by-cons, sum_by_push}
use Rattle.dia_lines.specs.declared.item.Line.{Line}
use Rattle.dia_lines.specs.declared.item.Line.TheVariants as line
use Rattle.dia_lines.specs.declared.item.Part.{Part}
use Rattle.dia_lines.specs.declared.place.Place.{Place}
use Rattle.dia_lines.specs.declared.place.Place.TheVariants.{Header, Policy, Until, Declarations, Body, Trace, Script, Ended}
use Rattle.dia_lines.specs.Statements.{Statement, nothing, trace, script, done}
use Rattle.dia_lines.specs.Places.{leads}
use Rattle.dia_lines.specs.Sections.{is_trace_byte}
use Rattle.dia_lines.specs.Lines.{Content, says, place_after, Reads, of_the_diagram, of_the_trace, of_the_script, an_empty_row, trace_ends, script_begins, a_row, no_step, script_ends, a_step}
use Rattle.dia_read.specs.declared.document.RawTask.{RawTask}
use Rattle.dia_read.specs.declared.draft.Draft.{Draft}
use Rattle.dia_read.specs.Documents.{Run, no_line, a_line, is_statement_of, is_trace, is_script}
use Rattle.dia_read.specs.Drafts.{empty_draft, drafted, finished, with_part}
use Rattle.dia_read.specs.Printable.{line_count, HasItemLines}
use Rattle.dia_read.proofs.Holding.{all_tasks}

abbrev pub feeds : List ℕ → ℕ
feeds text = count_by (λ b. b == 10) text

abbrev pub part_count : List RawTask → ℕ
part_count tasks = sum_by (λ t. length t.parts) tasks

pub record Paired (d : Draft) : Type 0 where
  pub decls : length d.lines.decls ≡ length d.decls
  pub tasks : length d.lines.tasks ≡ length (all_tasks d.tasks)
  pub parts : length d.lines.parts ≡ part_count (all_tasks d.tasks)
  pub trace : length d.lines.trace ≡ feeds d.trace.text
  pub script : length d.lines.script ≡ feeds d.script.text
  pub no_trace : d.trace.begun ≡ false → d.trace.text ≡ []
  pub no_script : d.script.begun ≡ false → d.script.text ≡ []

-- a line of a body comes after a task, and a kept line without line feeds after the line that begins its section
abbrev pub PairsWith : Draft → List ℕ → Line → Type 0
PairsWith d text (line.Part p) = (t : RawTask) × (d.tasks.latest ≡ Some t)
PairsWith d text line.Row = (feeds text ≡ 0) × (d.trace.begun ≡ true)
PairsWith d text (line.Step kept) = (feeds text ≡ 0) × (d.script.begun ≡ true)
PairsWith d text _ = Unit {0}

both-more : {A : Type 0} (ns : List ℕ) (n : ℕ) (xs : List A) (x : A) → length ns ≡ length xs → length (ns ++ n ∷ []) ≡ length (xs ++ x ∷ [])
both-more ns n xs x e = omega (arith, length-append ns (n ∷ []), length-append xs (x ∷ []))

fed : (ns : List ℕ) (n : ℕ) (text more : List ℕ) → length ns ≡ feeds text → feeds more ≡ 0 → length (ns ++ n ∷ []) ≡ feeds (text ++ more ++ 10 ∷ [])
fed ns n text more e none =
    let is_feed : ℕ → ℕ = λ b. cond (b == 10) 1 0 in
    omega (arith, length-append ns (n ∷ []), sum_by_push is_feed (text ++ more) 10, sum_by-append is_feed text more)

tasks-stay : (ts : List RawTask) (o : Option RawTask) (p : Part) → length (ts ++ option_to_list (elim o [ None ↦ None | Some t ↦ Some (with_part p t) ])) ≡ length (ts ++ option_to_list o)
tasks-stay ts None p = refl
tasks-stay ts (Some t) p = omega (arith, length-append ts (t ∷ []), length-append ts (with_part p t ∷ []))

part-more : (ns : List ℕ) (n : ℕ) (ts : List RawTask) (o : Option RawTask) (p : Part) (t : RawTask) → o ≡ Some t → length ns ≡ part_count (ts ++ option_to_list o)
    → length (ns ++ n ∷ []) ≡ part_count (ts ++ option_to_list (elim o [ None ↦ None | Some t ↦ Some (with_part p t) ]))
part-more ns n ts None p u is e = absurd (cc)
part-more ns n ts (Some t) p u is e =
    let size = λ (t : RawTask). length t.parts in
    omega (arith, length-append ns (n ∷ []), sum_by_push size ts t, sum_by_push size ts (with_part p t), length-append t.parts (p ∷ []))

pub paired-start : Paired empty_draft
paired-start = record { decls = refl; tasks = refl; parts = refl; trace = refl; script = refl; no_trace = λ _. refl; no_script = λ _. refl }

pub paired-more : (d : Draft) (number : ℕ) (text : List ℕ) (l : Line) → Paired d → PairsWith d text l → Paired (drafted d number text l)
paired-more d n text line.Nothing b w = b
paired-more d n text (line.Header v) b w = record { decls = b.decls; tasks = b.tasks; parts = b.parts; trace = b.trace; script = b.script; no_trace = b.no_trace; no_script = b.no_script }
paired-more d n text (line.Policy p) b w = record { decls = b.decls; tasks = b.tasks; parts = b.parts; trace = b.trace; script = b.script; no_trace = b.no_trace; no_script = b.no_script }
paired-more d n text (line.Until e) b w = record { decls = b.decls; tasks = b.tasks; parts = b.parts; trace = b.trace; script = b.script; no_trace = b.no_trace; no_script = b.no_script }
paired-more d n text (line.Decl e) b w = record { decls = both-more d.lines.decls n d.decls e b.decls; tasks = b.tasks; parts = b.parts; trace = b.trace; script = b.script; no_trace = b.no_trace; no_script = b.no_script }
paired-more d n text (line.Task t) b w = record { decls = b.decls; tasks = both-more d.lines.tasks n (all_tasks d.tasks) _ b.tasks; parts = b.parts ∙ sym (sum_by_push (λ (t : RawTask). length t.parts) (all_tasks d.tasks) _ ∙ omega arith); trace = b.trace; script = b.script; no_trace = b.no_trace; no_script = b.no_script }
paired-more d n text (line.Part p) b w = record { decls = b.decls; tasks = b.tasks ∙ sym (tasks-stay d.tasks.earlier d.tasks.latest p); parts = part-more d.lines.parts n d.tasks.earlier d.tasks.latest p w.0 w.1 b.parts; trace = b.trace; script = b.script; no_trace = b.no_trace; no_script = b.no_script }
paired-more d n text line.Trace b w = record { decls = b.decls; tasks = b.tasks; parts = b.parts; trace = b.trace; script = b.script; no_trace = λ e. absurd (cc); no_script = b.no_script }
paired-more d n text line.Script b w = record { decls = b.decls; tasks = b.tasks; parts = b.parts; trace = b.trace; script = b.script; no_trace = b.no_trace; no_script = λ e. absurd (cc) }
paired-more d n text line.Done b w = record { decls = b.decls; tasks = b.tasks; parts = b.parts; trace = b.trace; script = b.script; no_trace = b.no_trace; no_script = b.no_script }
paired-more d n text line.Row b w = record { decls = b.decls; tasks = b.tasks; parts = b.parts; trace = fed d.lines.trace n d.trace.text text b.trace w.0; script = b.script; no_trace = λ e. absurd (cc (e, w.1)); no_script = b.no_script }
paired-more d n text (line.Step kept) b w = record { decls = b.decls; tasks = b.tasks; parts = b.parts; trace = b.trace; script = fed d.lines.script n d.script.text text b.script w.0; no_trace = b.no_trace; no_script = λ e. absurd (cc (e, w.1)) }

section-lines : (begun : Bool) (text : List ℕ) (n : ℕ) → n ≡ feeds text → (begun ≡ false → text ≡ []) → n ≡ line_count (if begun then Some text else None)
section-lines true text n e none = e
section-lines false text n e none = e ∙ ap feeds (none refl)

pub paired-end : (d : Draft) → Paired d → HasItemLines (finished d)
paired-end d b = record {
  decls = b.decls;
  tasks = b.tasks;
  parts = b.parts;
  trace = section-lines d.trace.begun d.trace.text (length d.lines.trace) b.trace b.no_trace;
  script = section-lines d.script.begun d.script.text (length d.lines.script) b.script b.no_script;
}

-- ---- what a kept line needs

no-feed : (b : ℕ) → is_trace_byte b ≡ true → (b == 10) ≡ false
no-feed b h =
    elim (cases_Bool (b == 10)) [
      | inl y ↦
          let is : b ≡ 10 = grind (arith, nat_tests) in
          absurd (cc (subst (λ (k : ℕ). is_trace_byte k ≡ true) is h))
      | inr n ↦ n
    ]

pub row-has-no-feed : (text : List ℕ) → list_all is_trace_byte text ≡ true → feeds text ≡ 0
row-has-no-feed [] h = refl
row-has-no-feed (b ∷ bs) h =
    let both = and_parts (is_trace_byte b) (list_all is_trace_byte bs) h in
    sum_by-cons (λ (k : ℕ). cond (k == 10) 1 0) b bs ∙ rw (no-feed b both.0) (omega (arith, row-has-no-feed bs both.1))

-- at the place of a section the line that begins it was said
abbrev pub Begun : Place → List Content → Type 0
Begun Trace said = list_any (is_statement_of is_trace) said ≡ true
Begun Script said = list_any (is_statement_of is_script) said ≡ true
Begun _ said = Unit {0}

begun-at : (p : Place) (s : Statement) (before : List Content) → Begun p before → IfSome (leads p s) (λ q. Begun q (says s ∷ before))
begun-at Trace nothing before b = b
begun-at Script nothing before b = b
begun-at Declarations trace before b = refl
begun-at Declarations script before b = refl
begun-at Body trace before b = refl
begun-at Body script before b = refl
begun-at Trace script before b = refl
begun-at Header nothing before b = tt
begun-at Policy nothing before b = tt
begun-at Until nothing before b = tt
begun-at Ended nothing before b = tt
begun-at p s before b = tt

pub begun-more : (before : List Content) (line : List ℕ) (x : Content) → Begun (place_after before) before → Reads before line x → Begun (place_after (x ∷ before)) (x ∷ before)
begun-more before line x b r = go x r
  where
    stated : (s : Statement) (q : Place) → leads (place_after before) s ≡ Some q → Begun (place_after (says s ∷ before)) (says s ∷ before)
    stated s q e = rw e (subst (λ r. IfSome r (λ place. Begun place (says s ∷ before))) e (begun-at (place_after before) s before b))

    go : (x : Content) → Reads before line x → Begun (place_after (x ∷ before)) (x ∷ before)
    go x (of_the_diagram t s e says_so) = stated s says_so.stands.next says_so.stands.stands
    go x (of_the_trace t s here (an_empty_row u e)) = stated nothing Trace (rw here refl)
    go x (of_the_trace t s here (trace_ends u e)) = stated done Ended (rw here refl)
    go x (of_the_trace t s here (script_begins u e)) = stated script Script (rw here refl)
    go x (of_the_trace t s here (a_row u e f)) = rw here (subst (λ p. Begun p before) here b)
    go x (of_the_script t s here (no_step u e)) = stated nothing Script (rw here refl)
    go x (of_the_script t s here (script_ends u e)) = stated done Ended (rw here refl)
    go x (of_the_script t s here (a_step u v ts e n m h)) = rw here (subst (λ p. Begun p before) here b)

begun-run : (before after : List Content) (lines : List (List ℕ)) → Run before lines after → Begun (place_after before) before → Begun (place_after after) after
begun-run before after lines (no_line c) b = b
begun-run before after lines (a_line c a line ls said r run) b = begun-run (said ∷ c) a ls run (begun-more c line said b r)

pub trace-begun : (before after : List Content) (lines : List (List ℕ)) → Run before lines after → Begun (place_after before) before → place_after after ≡ Trace → list_any (is_statement_of is_trace) (reverse after) ≡ true
trace-begun before after lines run b here =
    sym (list_any-IsPermutation (is_statement_of is_trace) after (reverse after) (IsPermutation-reverse after)) ∙ subst (λ p. Begun p after) here (begun-run before after lines run b)

pub script-begun : (before after : List Content) (lines : List (List ℕ)) → Run before lines after → Begun (place_after before) before → place_after after ≡ Script → list_any (is_statement_of is_script) (reverse after) ≡ true
script-begun before after lines run b here =
    sym (list_any-IsPermutation (is_statement_of is_script) after (reverse after) (IsPermutation-reverse after)) ∙ subst (λ p. Begun p after) here (begun-run before after lines run b)
