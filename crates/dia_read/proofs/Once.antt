-- Some lines come once: the place that the lines have led to says how many there are.
use Rattle.std.proofs.Common.{◌≡◌, ℕ, ◌+◌, ◌≤◌, Bool, List, [], ◌∷◌, ◌++◌, length, filter, reverse, Some, refl, ap, ◌∙◌, subst, arith, length-append}
use Rattle.std.specs.Option.{IfSome}
use Rattle.dia_lines.specs.declared.place.Place.{Place}
use Rattle.dia_lines.specs.declared.place.Place.TheVariants.{Header, Policy, Until, Declarations, Body, Trace, Script, Ended}
use Rattle.dia_lines.specs.Statements.{Statement, nothing, header, policy, until, input, event, task, state, sense, read, a_let, a_next, out, trace, script, done}
use Rattle.dia_lines.specs.Places.{leads}
use Rattle.dia_lines.specs.Limits.{is_task}
use Rattle.dia_lines.specs.Lines.{Content, says, row, step, statements, place_after, Reads, of_the_diagram, of_the_trace, of_the_script, an_empty_row, trace_ends, script_begins, a_row, no_step, script_ends, a_step}
use Rattle.dia_read.specs.Documents.{versions, policies, ends, lines_from, lines_with, is_statement_of, is_until, is_done, is_trace, Run, no_line, a_line}
use Rattle.dia_read.proofs.OneMore.{reverse-more, versions-more, policies-more, ends-more, lines-more, filter-more}

-- how many headers, policies, ends of time, ends and at most how many traces come before a place
abbrev pub headers_before : Place → ℕ
headers_before Header = 0
headers_before _ = 1

abbrev pub policies_before : Place → ℕ
policies_before Header = 0
policies_before Policy = 0
policies_before _ = 1

abbrev pub ends_before : Place → ℕ
ends_before Header = 0
ends_before Policy = 0
ends_before Until = 0
ends_before _ = 1

abbrev pub dones_before : Place → ℕ
dones_before Ended = 1
dones_before _ = 0

abbrev pub traces_before : Place → ℕ
traces_before Trace = 1
traces_before Script = 1
traces_before Ended = 1
traces_before _ = 0

-- a body has a task line before it
abbrev pub tasks_before : Place → ℕ
tasks_before Body = 1
tasks_before _ = 0

pub record Once (said : List Content) (place : Place) : Type 0 where
  pub header : length (versions (statements said)) ≡ headers_before place
  pub policy : length (policies (statements said)) ≡ policies_before place
  pub until : length (ends (statements said)) ≡ ends_before place
  pub until_line : length (lines_with (is_statement_of is_until) said) ≡ ends_before place
  pub done_line : length (lines_with (is_statement_of is_done) said) ≡ dones_before place
  pub trace_line : length (lines_with (is_statement_of is_trace) said) ≤ traces_before place
  pub task_line : tasks_before place ≤ length (filter is_task (statements said))

-- one more line, of a kind that leads from the one place to the other
one_more : (said : List Content) (x : Content) (p q : Place) → Once said p
    → headers_before q ≡ headers_before p + length (versions (statements (x ∷ [])))
    → policies_before q ≡ policies_before p + length (policies (statements (x ∷ [])))
    → ends_before q ≡ ends_before p + length (ends (statements (x ∷ [])))
    → ((n : ℕ) → ends_before q ≡ ends_before p + length (lines_from n (is_statement_of is_until) (x ∷ [])))
    → ((n : ℕ) → dones_before q ≡ dones_before p + length (lines_from n (is_statement_of is_done) (x ∷ [])))
    → ((n : ℕ) → traces_before p + length (lines_from n (is_statement_of is_trace) (x ∷ [])) ≤ traces_before q)
    → tasks_before q ≤ tasks_before p + length (filter is_task (statements (x ∷ [])))
    → Once (said ++ x ∷ []) q
one_more said x p q o zero one two three four five six =
    let n = length said + 1 in
    record {
      header = ap length (versions-more said x) ∙ length-append (versions (statements said)) (versions (statements (x ∷ []))) ∙ omega (arith, o.header, zero);
      policy = ap length (policies-more said x) ∙ length-append (policies (statements said)) (policies (statements (x ∷ []))) ∙ omega (arith, o.policy, one);
      until = ap length (ends-more said x) ∙ length-append (ends (statements said)) (ends (statements (x ∷ []))) ∙ omega (arith, o.until, two);
      until_line = ap length (lines-more (is_statement_of is_until) said x) ∙ length-append (lines_with (is_statement_of is_until) said) (lines_from n (is_statement_of is_until) (x ∷ [])) ∙ omega (arith, o.until_line, three n);
      done_line = ap length (lines-more (is_statement_of is_done) said x) ∙ length-append (lines_with (is_statement_of is_done) said) (lines_from n (is_statement_of is_done) (x ∷ [])) ∙ omega (arith, o.done_line, four n);
      trace_line =
          let size : length (lines_with (is_statement_of is_trace) (said ++ x ∷ [])) ≡ length (lines_with (is_statement_of is_trace) said) + length (lines_from n (is_statement_of is_trace) (x ∷ [])) =
          ap length (lines-more (is_statement_of is_trace) said x) ∙ length-append (lines_with (is_statement_of is_trace) said) (lines_from n (is_statement_of is_trace) (x ∷ [])) in
          omega (arith, size, o.trace_line, five n);
      task_line =
          let size : length (filter is_task (statements (said ++ x ∷ []))) ≡ length (filter is_task (statements said)) + length (filter is_task (statements (x ∷ []))) =
          ap length (filter-more is_task said x) ∙ length-append (filter is_task (statements said)) (filter is_task (statements (x ∷ []))) in
          omega (arith, size, o.task_line, six);
    }

-- if a line may stand there, one more such line keeps it
once-at : (said : List Content) (p : Place) (s : Statement) → Once said p → IfSome (leads p s) (λ q. Once (said ++ says s ∷ []) q)
once-at said Header (header v) o = one_more said (says (header v)) Header Policy o refl refl refl (λ n. refl) (λ n. refl) (λ n. omega arith) (omega arith)
once-at said Policy (policy x) o = one_more said (says (policy x)) Policy Until o refl refl refl (λ n. refl) (λ n. refl) (λ n. omega arith) (omega arith)
once-at said Until (until x) o = one_more said (says (until x)) Until Declarations o refl refl refl (λ n. refl) (λ n. refl) (λ n. omega arith) (omega arith)
once-at said Declarations (input n v) o = one_more said (says (input n v)) Declarations Declarations o refl refl refl (λ n. refl) (λ n. refl) (λ n. omega arith) (omega arith)
once-at said Declarations (event n) o = one_more said (says (event n)) Declarations Declarations o refl refl refl (λ n. refl) (λ n. refl) (λ n. omega arith) (omega arith)
once-at said Declarations (task x) o = one_more said (says (task x)) Declarations Body o refl refl refl (λ n. refl) (λ n. refl) (λ n. omega arith) (omega arith)
once-at said Declarations trace o = one_more said (says trace) Declarations Trace o refl refl refl (λ n. refl) (λ n. refl) (λ n. omega arith) (omega arith)
once-at said Declarations script o = one_more said (says script) Declarations Script o refl refl refl (λ n. refl) (λ n. refl) (λ n. omega arith) (omega arith)
once-at said Declarations done o = one_more said (says done) Declarations Ended o refl refl refl (λ n. refl) (λ n. refl) (λ n. omega arith) (omega arith)
once-at said Body (state n v) o = one_more said (says (state n v)) Body Body o refl refl refl (λ n. refl) (λ n. refl) (λ n. omega arith) (omega arith)
once-at said Body (sense n v) o = one_more said (says (sense n v)) Body Body o refl refl refl (λ n. refl) (λ n. refl) (λ n. omega arith) (omega arith)
once-at said Body (read n d w x a) o = one_more said (says (read n d w x a)) Body Body o refl refl refl (λ n. refl) (λ n. refl) (λ n. omega arith) (omega arith)
once-at said Body (a_let n v) o = one_more said (says (a_let n v)) Body Body o refl refl refl (λ n. refl) (λ n. refl) (λ n. omega arith) (omega arith)
once-at said Body (a_next n v) o = one_more said (says (a_next n v)) Body Body o refl refl refl (λ n. refl) (λ n. refl) (λ n. omega arith) (omega arith)
once-at said Body (out n v x) o = one_more said (says (out n v x)) Body Body o refl refl refl (λ n. refl) (λ n. refl) (λ n. omega arith) (omega arith)
once-at said Body (task x) o = one_more said (says (task x)) Body Body o refl refl refl (λ n. refl) (λ n. refl) (λ n. omega arith) (omega arith)
once-at said Body trace o = one_more said (says trace) Body Trace o refl refl refl (λ n. refl) (λ n. refl) (λ n. omega arith) (omega arith)
once-at said Body script o = one_more said (says script) Body Script o refl refl refl (λ n. refl) (λ n. refl) (λ n. omega arith) (omega arith)
once-at said Body done o = one_more said (says done) Body Ended o refl refl refl (λ n. refl) (λ n. refl) (λ n. omega arith) (omega arith)
once-at said Trace script o = one_more said (says script) Trace Script o refl refl refl (λ n. refl) (λ n. refl) (λ n. omega arith) (omega arith)
once-at said Trace done o = one_more said (says done) Trace Ended o refl refl refl (λ n. refl) (λ n. refl) (λ n. omega arith) (omega arith)
once-at said Script done o = one_more said (says done) Script Ended o refl refl refl (λ n. refl) (λ n. refl) (λ n. omega arith) (omega arith)
once-at said Header nothing o = one_more said (says nothing) Header Header o refl refl refl (λ n. refl) (λ n. refl) (λ n. omega arith) (omega arith)
once-at said Policy nothing o = one_more said (says nothing) Policy Policy o refl refl refl (λ n. refl) (λ n. refl) (λ n. omega arith) (omega arith)
once-at said Until nothing o = one_more said (says nothing) Until Until o refl refl refl (λ n. refl) (λ n. refl) (λ n. omega arith) (omega arith)
once-at said Declarations nothing o = one_more said (says nothing) Declarations Declarations o refl refl refl (λ n. refl) (λ n. refl) (λ n. omega arith) (omega arith)
once-at said Body nothing o = one_more said (says nothing) Body Body o refl refl refl (λ n. refl) (λ n. refl) (λ n. omega arith) (omega arith)
once-at said Trace nothing o = one_more said (says nothing) Trace Trace o refl refl refl (λ n. refl) (λ n. refl) (λ n. omega arith) (omega arith)
once-at said Script nothing o = one_more said (says nothing) Script Script o refl refl refl (λ n. refl) (λ n. refl) (λ n. omega arith) (omega arith)
once-at said Ended nothing o = one_more said (says nothing) Ended Ended o refl refl refl (λ n. refl) (λ n. refl) (λ n. omega arith) (omega arith)
once-at said p s o = tt

once-led : (said : List Content) (p q : Place) (s : Statement) → Once said p → leads p s ≡ Some q → Once (said ++ says s ∷ []) q
once-led said p q s o e = subst (λ r. IfSome r (λ place. Once (said ++ says s ∷ []) place)) e (once-at said p s o)

-- a row or a step
once-kept : (said : List Content) (x : Content) (p : Place) → statements (x ∷ []) ≡ [] → ((n : ℕ) (kind : Statement → Bool) → lines_from n (is_statement_of kind) (x ∷ []) ≡ []) → Once said p → Once (said ++ x ∷ []) p
once-kept said x p e l o =
    one_more said x p p o (rw e (omega arith)) (rw e (omega arith)) (rw e (omega arith)) (λ n. rw (l n is_until) (omega arith)) (λ n. rw (l n is_done) (omega arith)) (λ n. rw (l n is_trace) (omega arith)) (rw e (omega arith))

pub once-more : (before : List Content) (line : List ℕ) (x : Content) → Once (reverse before) (place_after before) → Reads before line x → Once (reverse (x ∷ before)) (place_after (x ∷ before))
once-more before line x o r = rw (reverse-more x before) (go x r)
  where
    stated : (s : Statement) (q : Place) → leads (place_after before) s ≡ Some q → Once (reverse before ++ says s ∷ []) (place_after (says s ∷ before))
    stated s q e = rw e (once-led (reverse before) (place_after before) q s o e)

    go : (x : Content) → Reads before line x → Once (reverse before ++ x ∷ []) (place_after (x ∷ before))
    go x (of_the_diagram t s e says_so) = stated s says_so.stands.next says_so.stands.stands
    go x (of_the_trace t s here (an_empty_row u e)) = stated nothing Trace (rw here refl)
    go x (of_the_trace t s here (trace_ends u e)) = stated done Ended (rw here refl)
    go x (of_the_trace t s here (script_begins u e)) = stated script Script (rw here refl)
    go x (of_the_trace t s here (a_row u e f)) = once-kept (reverse before) (row u) (place_after before) refl (λ n kind. refl) o
    go x (of_the_script t s here (no_step u e)) = stated nothing Script (rw here refl)
    go x (of_the_script t s here (script_ends u e)) = stated done Ended (rw here refl)
    go x (of_the_script t s here (a_step u v ts e n m h)) = once-kept (reverse before) (step v) (place_after before) refl (λ n kind. refl) o

pub once-run : (before after : List Content) (lines : List (List ℕ)) → Run before lines after → Once (reverse before) (place_after before) → Once (reverse after) (place_after after)
once-run before after lines (no_line b) o = o
once-run before after lines (a_line b a line ls said r run) o = once-run (said ∷ b) a ls run (once-more b line said o r)

pub once-start : Once [] Header
once-start = record { header = refl; policy = refl; until = refl; until_line = refl; done_line = refl; trace_line = omega arith; task_line = omega arith }
