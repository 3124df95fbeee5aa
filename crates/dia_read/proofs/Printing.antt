-- A draft holds what can be printed.
use Rattle.std.proofs.Common.{◌≡◌, ℕ, ℤ, pos, ◌+◌, ◌≤◌, Bool, true, false, cond, All, List, [], ◌∷◌, ◌++◌, length, filter, Option, Some, None, refl, sym, ap, ◌∙◌, subst, append_assoc, arith, length-append}
use Rattle.std.specs.Prelude.{nat_le, ◌&&◌, count_by, sum_by}
use Rattle.std.specs.Option.{IfSome, is_none, option_to_list, option_map}
use Rattle.std.proofs.lemmas.Bool.{and_parts}
use Rattle.std.proofs.lemmas.Bool.Decides.{nat_tests}
use Rattle.std.proofs.lemmas.List.Elements.{All-push, All-append}
use Rattle.std.proofs.lemmas.List.Sums.{sum_by-append}
use Rattle.dbp_plan.proofs.FirstFaults.{test-none}
use Rattle.dbp_plan.specs.declared.limits.TheConstants.{MAX_TASKS, MAX_INPUTS, MAX_EVENTS, MAX_READS, MAX_READ_LINES, MAX_OUTS, MAX_BODY, MAX_TIME, MAX_PRIO, MAX_CPU}
use Rattle.dbp_plan.specs.declared.expr.Expr.{Expr}
use Rattle.dbp_plan.specs.Expr.{IsExprOf}
use Rattle.dbp_plan.specs.Tree.{Tree}
use Rattle.dia_tokens.specs.Printable.{IsPrintableName}
use Rattle.dia_tokens.proofs.SpellingLaws.{printable-tokens, spells-again, spelled-again}
use Rattle.dia_lines.specs.declared.fault.ReadCode.TheVariants.{LimitHit}
use Rattle.dia_lines.specs.declared.fault.Limit.{Limit}
use Rattle.dia_lines.specs.declared.fault.Limit.TheVariants as limit
use Rattle.dia_lines.specs.declared.item.Decl.{Decl}
use Rattle.dia_lines.specs.declared.item.Decl.TheVariants.{Input, Event}
use Rattle.dia_lines.specs.declared.item.Line.{Line}
use Rattle.dia_lines.specs.declared.item.Line.TheVariants as line
use Rattle.dia_lines.specs.declared.item.Part.{Part}
use Rattle.dia_lines.specs.declared.item.Part.TheVariants as part
use Rattle.dia_lines.specs.declared.item.RawClock.{RawClock}
use Rattle.dia_lines.specs.declared.item.RawClock.TheVariants.{Every, On}
use Rattle.dia_lines.specs.declared.item.TaskLine.{TaskLine}
use Rattle.dia_lines.specs.Statements.{Statement, Clock, every, on, nothing, header, policy, until, input, event, task, state, sense, read, a_let, a_next, out, trace, script, done}
use Rattle.dia_lines.specs.Places.{is_body, is_of_version}
use Rattle.dia_lines.specs.Limits.{lies_within, option_lies_within, delay_fits, clock_fits, numbers_fit, is_input, is_event, is_task, is_read, is_out, of_this_task, passed_count}
use Rattle.dia_lines.specs.Lines.{Content, says, row, step, statements, version_after, limit_fault, SaysInTrace, an_empty_row, trace_ends, script_begins, a_row, SaysInScript, no_step, script_ends, a_step, Reads, of_the_diagram, of_the_trace, of_the_script}
use Rattle.dia_lines.specs.Held.{IsDecl, IsClock, cpu_of, IsTaskLine, IsPart, IsKept, IsHeld}
use Rattle.dia_exprs.specs.Printable.{IsPrintableTree}
use Rattle.dia_exprs.proofs.PrintableTrees.{printable-nodes}
use Rattle.dia_lines.proofs.RangeLaws.{within}
use Rattle.dia_lines.proofs.DelayLaws.{short-delay}
use Rattle.dia_lines.proofs.PrintableStatements as lines
use Rattle.dia_lines.proofs.PrintableStatements.{IsPrintableStatement, printable-statement}
use Rattle.dia_read.specs.declared.document.RawTask.{RawTask}
use Rattle.dia_read.specs.declared.draft.Draft.{Draft}
use Rattle.dia_read.specs.declared.draft.Section.{Section}
use Rattle.dia_read.specs.Documents.{kept_text}
use Rattle.dia_read.specs.Drafts.{empty_draft, task_of, with_part, drafted, section_text, finished}
use Rattle.dia_read.specs.Printable.{IsPrintableExpr, IsPrintableDecl, IsPrintableClock, IsPrintablePart, is_input_decl, is_event_decl, is_read_part, is_out_part, IsPrintableTask, IsPlainTask, ended_lines, KeepsItself, IsPrintable}
use Rattle.dia_read.proofs.Holding.{all_tasks}
use Rattle.dia_read.proofs.KeptLines.{kept-part, no-row, no-step}

printable-expr : (x : Tree (List ℕ)) (e : Expr (List ℕ)) → IsPrintableTree x → IsExprOf e x → IsPrintableExpr e
printable-expr x e f is = rw is (printable-nodes 0 x f)

-- ---- counts

pub count-more : {A : Type 0} (p : A → Bool) (xs : List A) (x : A) → count_by p (xs ++ x ∷ []) ≡ count_by p xs + count_by p (x ∷ [])
count-more p xs x = sum_by-append (λ y. cond (p y) 1 0) xs (x ∷ [])

-- a count that isn't full has room for one more
below : (count most : ℕ) → nat_le most count ≡ false → count + 1 ≤ most
below count most e = grind (arith, nat_tests)

-- ---- what a line promises

-- the numbers and the counts of a statement of the version after those before it, and its names
pub record IsSound (version : ℕ) (before : List Statement) (s : Statement) : Type 0 where
  pub free : IsPrintableStatement s
  pub numbers : numbers_fit s ≡ true
  pub counts : passed_count before s ≡ None
  pub known : is_of_version version s ≡ true

decl-prints : (s : Statement) (d : Decl) → IsDecl s d → IsPrintableStatement s → IsPrintableDecl d
decl-prints (input n v) (Input m w) (a, b) f = (rw (← a) f.0, rw (← b) f.1)
decl-prints (event n) (Event m) a f = rw (← a) f
decl-prints (input n v) (Event m) a f = absurd a
decl-prints (event n) (Input m w) a f = absurd a
decl-prints s d a f = absurd a

part-prints : (s : Statement) (p : Part) → IsPart s p → IsPrintableStatement s → numbers_fit s ≡ true → IsPrintablePart p
part-prints (state n v) (part.State m w) (a, b) f h = (rw (← a) f.0, rw (← b) f.1)
part-prints (sense n v) (part.Sense m w) (a, b) f h = rw (← a, ← b) f
part-prints (read n d w p at) (part.Read m k t q i) (a, b, c, e, g) f h =
    let each = and_parts (delay_fits d) (lies_within at 0 MAX_TIME) h in
    (rw (← a) f.0, short-delay k d b each.0, rw (← c) f.1, rw (← e) f.2, (within i 0 MAX_TIME at g each.1).1)
part-prints (a_let n x) (part.Let m e) (a, b) f h = (rw (← a) f.0, printable-expr x e f.1 b)
part-prints (a_next n x) (part.Next m e) (a, b) f h = (rw (← a) f.0, printable-expr x e f.1 b)
part-prints (out n v x) (part.Out m w e) (a, b, c) f h = (rw (← a) f.0, rw (← b) f.1, printable-expr x e f.2 c)
part-prints (state n v) p a f h = absurd a
part-prints (sense n v) p a f h = absurd a
part-prints (read n d w p at) q a f h = absurd a
part-prints (a_let n x) p a f h = absurd a
part-prints (a_next n x) p a f h = absurd a
part-prints (out n v x) p a f h = absurd a
part-prints s p a f h = absurd a

option-within : (o : Option ℕ) (z : Option ℤ) (least greatest : ℕ) → z ≡ option_map pos o → option_lies_within z least greatest ≡ true → IfSome o (λ n. (least ≤ n) × (n ≤ greatest))
option-within None z least greatest e h = tt
option-within (Some n) z least greatest e h = within n least greatest (pos n) refl (subst (λ o. option_lies_within o least greatest ≡ true) e h)

clock-prints : (k : Clock) (c : RawClock) → IsClock k c → lines.IsPrintableClock k → clock_fits k ≡ true → IsPrintableClock c
clock-prints (every p o) (Every r s) (a, b) f h =
    let each = and_parts (lies_within p 1 MAX_TIME) (lies_within o 0 MAX_TIME) h in
    let period = within r 1 MAX_TIME p a each.0 in
    (period.0, period.1, (within s 0 MAX_TIME o b each.1).1)
clock-prints (on e) (On m) a f h = rw (← a) f
clock-prints (every p o) (On m) a f h = absurd a
clock-prints (on e) (Every r s) a f h = absurd a

no-name : (when : Option (List ℕ)) → is_none when ≡ true → when ≡ None
no-name None e = refl
no-name (Some n) e = absurd cc

no-cpu : (cpu : Option ℤ) (n : ℕ) → cpu_of cpu ≡ pos n → is_none cpu ≡ true → n ≡ 0
no-cpu None n is e = let same : 0 ≡ n = cc in sym same
no-cpu (Some z) n is e = absurd cc

task-plain : (s : Statement) (t : TaskLine) (version : ℕ) → IsTaskLine s t → is_of_version version s ≡ true → version ≡ 1 → IsPlainTask (task_of t)
task-plain (task s) t version (a, b, w, c, e, g, u) v one =
    let none = and_parts (is_none s.when) (is_none s.cpu) (subst (λ (n : ℕ). is_of_version n (task s) ≡ true) one v) in
    (sym w ∙ no-name s.when none.0, no-cpu s.cpu t.cpu u none.1)
task-plain s t version a v one = absurd a

when-prints : (when : Option (List ℕ)) (name : Option (List ℕ)) → when ≡ name → IfSome when IsPrintableName → IfSome name IsPrintableName
when-prints when name is f = subst (λ o. IfSome o IsPrintableName) is f

cpu-prints : (cpu : Option ℤ) (n : ℕ) → cpu_of cpu ≡ pos n → option_lies_within cpu 0 MAX_CPU ≡ true → n ≤ MAX_CPU
cpu-prints None n is h = let same : 0 ≡ n = cc in omega arith
cpu-prints (Some z) n is h = (within n 0 MAX_CPU z is h).1

task-prints : (s : Statement) (t : TaskLine) → IsTaskLine s t → IsPrintableStatement s → numbers_fit s ≡ true → IsPrintableTask (task_of t)
task-prints (task s) t (a, b, w, c, e, g, u) f h =
    let all = and_parts (clock_fits s.clock && option_lies_within s.prio 0 MAX_PRIO && option_lies_within s.deadline 1 MAX_TIME && lies_within s.cost 1 MAX_TIME) (option_lies_within s.cpu 0 MAX_CPU) h in
    let one = and_parts (clock_fits s.clock && option_lies_within s.prio 0 MAX_PRIO && option_lies_within s.deadline 1 MAX_TIME) (lies_within s.cost 1 MAX_TIME) all.0 in
    let two = and_parts (clock_fits s.clock && option_lies_within s.prio 0 MAX_PRIO) (option_lies_within s.deadline 1 MAX_TIME) one.0 in
    let three = and_parts (clock_fits s.clock) (option_lies_within s.prio 0 MAX_PRIO) two.0 in
    record {
      line = record {
        named = rw (← a) f.0;
        clock = clock-prints s.clock t.clock b f.1 three.0;
        when = when-prints s.when t.when w f.2;
        prio = upper t.prio MAX_PRIO (option-within t.prio s.prio 0 MAX_PRIO c three.1);
        deadline = option-within t.deadline s.deadline 1 MAX_TIME e two.1;
        cost = within t.cost 1 MAX_TIME s.cost g one.1;
        cpu = cpu-prints s.cpu t.cpu u all.1;
      };
      parts = λ j x l. absurd (omega arith);
      body = omega arith;
      reads = omega arith;
      outs = omega arith;
    }
  where
    upper : (o : Option ℕ) (most : ℕ) → IfSome o (λ v. (0 ≤ v) × (v ≤ most)) → IfSome o (λ v. v ≤ most)
    upper None most h = tt
    upper (Some v) most h = h.1
task-prints s t a f h = absurd a

-- ---- a draft

abbrev pub reads_of : RawTask → ℕ
reads_of t = count_by is_read_part t.parts

-- the latest task can be printed, and its lines are those of the statements after the line that begins it
pub record IsLatest (ss : List Statement) (t : RawTask) : Type 0 where
  pub prints : IsPrintableTask t
  pub body : length t.parts ≡ length (filter is_body (of_this_task ss))
  pub reads : reads_of t ≡ length (filter is_read (of_this_task ss))
  pub outs : count_by is_out_part t.parts ≡ length (filter is_out (of_this_task ss))

-- after the statements, of which the latest is the first, the draft can be printed
pub record Prints (ss : List Statement) (d : Draft) : Type 0 where
  pub until : d.until ≤ MAX_TIME
  pub decls : All IsPrintableDecl d.decls
  pub inputs : count_by is_input_decl d.decls ≡ length (filter is_input ss)
  pub events : count_by is_event_decl d.decls ≡ length (filter is_event ss)
  pub few_inputs : length (filter is_input ss) ≤ MAX_INPUTS
  pub few_events : length (filter is_event ss) ≤ MAX_EVENTS
  pub version : (1 ≤ d.version) × (d.version ≤ 2)
  pub plain : d.version ≡ 1 → All IsPlainTask d.tasks.earlier × IfSome d.tasks.latest IsPlainTask
  pub earlier : All IsPrintableTask d.tasks.earlier
  pub latest : IfSome d.tasks.latest (IsLatest ss)
  pub tasks : length (all_tasks d.tasks) ≡ length (filter is_task ss)
  pub few_tasks : length (filter is_task ss) ≤ MAX_TASKS
  pub links : sum_by reads_of (all_tasks d.tasks) ≡ length (filter is_read ss)
  pub few_links : length (filter is_read ss) ≤ MAX_READ_LINES

-- the counts that a statement may not pass
record HasCounts (before : List Statement) (s : Statement) : Type 0 where
  inputs : is_input s ≡ true → length (filter is_input before) + 1 ≤ MAX_INPUTS
  events : is_event s ≡ true → length (filter is_event before) + 1 ≤ MAX_EVENTS
  tasks : is_task s ≡ true → length (filter is_task before) + 1 ≤ MAX_TASKS
  body : is_body s ≡ true → length (filter is_body (of_this_task before)) + 1 ≤ MAX_BODY
  reads : is_read s ≡ true → length (filter is_read (of_this_task before)) + 1 ≤ MAX_READS
  links : is_read s ≡ true → length (filter is_read before) + 1 ≤ MAX_READ_LINES
  outs : is_out s ≡ true → length (filter is_out (of_this_task before)) + 1 ≤ MAX_OUTS

room : (a : Bool) (count most : ℕ) → (a && nat_le most count) ≡ false → a ≡ true → count + 1 ≤ most
room a count most e h = below count most (rw h at e)

counts-of : (before : List Statement) (s : Statement) → passed_count before s ≡ None → HasCounts before s
counts-of before s e =
    let one = test-none _ limit.Inputs _ e in
    let two = test-none _ limit.Events _ one.1 in
    let three = test-none _ limit.Tasks _ two.1 in
    let four = test-none _ limit.Body _ three.1 in
    let five = test-none _ limit.Reads _ four.1 in
    let six = test-none _ limit.Links _ five.1 in
    let seven = test-none _ limit.Outs _ six.1 in
    record {
      inputs = room (is_input s) _ MAX_INPUTS one.0;
      events = room (is_event s) _ MAX_EVENTS two.0;
      tasks = room (is_task s) _ MAX_TASKS three.0;
      body = room (is_body s) _ MAX_BODY four.0;
      reads = room (is_read s) _ MAX_READS five.0;
      links = room (is_read s) _ MAX_READ_LINES six.0;
      outs = room (is_out s) _ MAX_OUTS seven.0;
    }

kept-decl : (s : Statement) (x : Decl) → IsKept s (line.Decl x) → IsDecl s x
kept-decl nothing x k = k
kept-decl s x k = k

kept-task : (s : Statement) (t : TaskLine) → IsKept s (line.Task t) → IsTaskLine s t
kept-task nothing t k = k
kept-task s t k = k

-- ---- one more statement

latest-kept : (o : Option RawTask) (ss ts : List Statement) → filter is_body (of_this_task ts) ≡ filter is_body (of_this_task ss) → filter is_read (of_this_task ts) ≡ filter is_read (of_this_task ss)
    → filter is_out (of_this_task ts) ≡ filter is_out (of_this_task ss) → IfSome o (IsLatest ss) → IfSome o (IsLatest ts)
latest-kept None ss ts b r u h = tt
latest-kept (Some t) ss ts b r u h = record { prints = h.prints; body = rw b h.body; reads = rw r h.reads; outs = rw u h.outs }

-- a statement that is counted nowhere
prints-kept : (ss ts : List Statement) (d e : Draft) → filter is_input ts ≡ filter is_input ss → filter is_event ts ≡ filter is_event ss → filter is_task ts ≡ filter is_task ss → filter is_read ts ≡ filter is_read ss
    → filter is_body (of_this_task ts) ≡ filter is_body (of_this_task ss) → filter is_read (of_this_task ts) ≡ filter is_read (of_this_task ss) → filter is_out (of_this_task ts) ≡ filter is_out (of_this_task ss)
    → (1 ≤ e.version) × (e.version ≤ 2) → (e.version ≡ 1 → d.version ≡ 1) → e.until ≤ MAX_TIME → e.decls ≡ d.decls → e.tasks ≡ d.tasks → Prints ss d → Prints ts e
prints-kept ss ts d e i v t r b c u version first end decls tasks p = record {
  version = version;
  plain = λ one. rw tasks (p.plain (first one));
  until = end;
  decls = rw decls p.decls;
  inputs = rw (decls, i) p.inputs;
  events = rw (decls, v) p.events;
  few_inputs = rw i p.few_inputs;
  few_events = rw v p.few_events;
  earlier = rw tasks p.earlier;
  latest = rw tasks (latest-kept d.tasks.latest ss ts b c u p.latest);
  tasks = rw (tasks, t) p.tasks;
  few_tasks = rw t p.few_tasks;
  links = rw (tasks, r) p.links;
  few_links = rw r p.few_links;
}

decl-more : (ss : List Statement) (s : Statement) (x : Decl) (d : Draft) (n : ℕ) → Prints ss d → IsDecl s x → IsPrintableStatement s → HasCounts ss s → Prints (s ∷ ss) (drafted d n [] (line.Decl x))
decl-more ss (input m v) (Input k w) d n p i f c = record {
  version = p.version;
  plain = p.plain;
  until = p.until;
  decls = All-push IsPrintableDecl d.decls (Input k w) p.decls (decl-prints (input m v) (Input k w) i f);
  inputs = omega (arith, count-more is_input_decl d.decls (Input k w), p.inputs);
  events = omega (arith, count-more is_event_decl d.decls (Input k w), p.events);
  few_inputs = omega (arith, c.inputs refl);
  few_events = p.few_events;
  earlier = p.earlier;
  latest = latest-kept d.tasks.latest ss (input m v ∷ ss) refl refl refl p.latest;
  tasks = p.tasks;
  few_tasks = p.few_tasks;
  links = p.links;
  few_links = p.few_links;
}
decl-more ss (event m) (Event k) d n p i f c = record {
  version = p.version;
  plain = p.plain;
  until = p.until;
  decls = All-push IsPrintableDecl d.decls (Event k) p.decls (decl-prints (event m) (Event k) i f);
  inputs = omega (arith, count-more is_input_decl d.decls (Event k), p.inputs);
  events = omega (arith, count-more is_event_decl d.decls (Event k), p.events);
  few_inputs = p.few_inputs;
  few_events = omega (arith, c.events refl);
  earlier = p.earlier;
  latest = latest-kept d.tasks.latest ss (event m ∷ ss) refl refl refl p.latest;
  tasks = p.tasks;
  few_tasks = p.few_tasks;
  links = p.links;
  few_links = p.few_links;
}
decl-more ss (input m v) (Event k) d n p i f c = absurd i
decl-more ss (event m) (Input k w) d n p i f c = absurd i
decl-more ss s x d n p i f c = absurd i

each-optional : {A : Type 0} (P : A → Type 0) (o : Option A) → IfSome o P → All P (option_to_list o)
each-optional P None h = λ k x l. absurd (omega arith)
each-optional P (Some t) h = All-push P [] t (λ k x l. absurd (omega arith)) h

all-latest : (o : Option RawTask) (ss : List Statement) → IfSome o (IsLatest ss) → All IsPrintableTask (option_to_list o)
all-latest None ss h = λ k x l. absurd (omega arith)
all-latest (Some t) ss h = All-push IsPrintableTask [] t (λ k x l. absurd (omega arith)) h.prints

task-line-more : (ss : List Statement) (s : Statement) (t : TaskLine) (d : Draft) (n : ℕ) → Prints ss d → IsTaskLine s t → IsPrintableStatement s → numbers_fit s ≡ true → is_of_version d.version s ≡ true → HasCounts ss s → Prints (s ∷ ss) (drafted d n [] (line.Task t))
task-line-more ss (task x) t d n p i f h v c = record {
  version = p.version;
  plain = λ one. let before = p.plain one in (All-append IsPlainTask d.tasks.earlier (option_to_list d.tasks.latest) before.0 (each-optional IsPlainTask d.tasks.latest before.1), task-plain (task x) t d.version i v one);
  until = p.until;
  decls = p.decls;
  inputs = p.inputs;
  events = p.events;
  few_inputs = p.few_inputs;
  few_events = p.few_events;
  earlier = All-append IsPrintableTask d.tasks.earlier (option_to_list d.tasks.latest) p.earlier (all-latest d.tasks.latest ss p.latest);
  latest = record { prints = task-prints (task x) t i f h; body = refl; reads = refl; outs = refl };
  tasks = omega (arith, length-append (all_tasks d.tasks) (task_of t ∷ []), p.tasks);
  few_tasks = omega (arith, c.tasks refl);
  links = sum_by-append reads_of (all_tasks d.tasks) (task_of t ∷ []) ∙ omega (arith, p.links);
  few_links = p.few_links;
}
task-line-more ss s t d n p i f h v c = absurd i

-- ---- one more line of a body

-- a line of its body leaves a task without `when` and processor as it is
part-plain : (o : Option RawTask) (p : Part) → IfSome o IsPlainTask → IfSome (elim o [ None ↦ None | Some t ↦ Some (with_part p t) ]) IsPlainTask
part-plain None p h = tt
part-plain (Some t) p h = h

record IsPartKind (s : Statement) (p : Part) : Type 0 where
  body : is_body s ≡ true
  no_task : is_task s ≡ false
  no_input : is_input s ≡ false
  no_event : is_event s ≡ false
  reads : is_read_part p ≡ is_read s
  outs : is_out_part p ≡ is_out s

part-kind : (s : Statement) (p : Part) → IsPart s p → IsPartKind s p
part-kind (state n v) (part.State m w) i = record { body = refl; no_task = refl; no_input = refl; no_event = refl; reads = refl; outs = refl }
part-kind (sense n v) (part.Sense m w) i = record { body = refl; no_task = refl; no_input = refl; no_event = refl; reads = refl; outs = refl }
part-kind (read n d w o a) (part.Read m k t q b) i = record { body = refl; no_task = refl; no_input = refl; no_event = refl; reads = refl; outs = refl }
part-kind (a_let n x) (part.Let m e) i = record { body = refl; no_task = refl; no_input = refl; no_event = refl; reads = refl; outs = refl }
part-kind (a_next n x) (part.Next m e) i = record { body = refl; no_task = refl; no_input = refl; no_event = refl; reads = refl; outs = refl }
part-kind (out n v x) (part.Out m w e) i = record { body = refl; no_task = refl; no_input = refl; no_event = refl; reads = refl; outs = refl }
part-kind s p i = absurd i

counted : (kind : Statement → Bool) (s : Statement) (ss : List Statement) → length (filter kind (s ∷ ss)) ≡ length (filter kind ss) + cond (kind s) 1 0
counted kind s ss = go (kind s)
  where
    go : (b : Bool) → length (cond b (s ∷ filter kind ss) (filter kind ss)) ≡ length (filter kind ss) + cond b 1 0
    go true = omega arith
    go false = omega arith

still-few : (b : Bool) (count most : ℕ) → count ≤ most → (b ≡ true → count + 1 ≤ most) → count + cond b 1 0 ≤ most
still-few true count most h k = k refl
still-few false count most h k = omega arith

this-task : (s : Statement) (ss : List Statement) → is_task s ≡ false → of_this_task (s ∷ ss) ≡ s ∷ of_this_task ss
this-task s ss e = rw e refl

part-line-more : (ss : List Statement) (s : Statement) (x : Part) (d : Draft) (n : ℕ) (t : RawTask) → d.tasks.latest ≡ Some t → Prints ss d → IsPart s x → IsPrintableStatement s → numbers_fit s ≡ true → HasCounts ss s
    → Prints (s ∷ ss) (drafted d n [] (line.Part x))
part-line-more ss s x d n t found p i f h c =
    let k = part-kind s x i in
    let latest : IsLatest ss t = subst (λ (o : Option RawTask). IfSome o (IsLatest ss)) found p.latest in
    let here = of_this_task ss in
    let reads : reads_of (with_part x t) ≡ reads_of t + cond (is_read s) 1 0 = count-more is_read_part t.parts x ∙ rw k.reads (omega arith) in
    let outs : count_by is_out_part (with_part x t).parts ≡ count_by is_out_part t.parts + cond (is_out s) 1 0 = count-more is_out_part t.parts x ∙ rw k.outs (omega arith) in
    let one : cond {A = ℕ} (is_body s) 1 0 ≡ 1 = rw k.body refl in
    let size : length (with_part x t).parts ≡ length t.parts + 1 = length-append t.parts (x ∷ []) in
    let all : sum_by reads_of (d.tasks.earlier ++ with_part x t ∷ []) ≡ sum_by reads_of (d.tasks.earlier ++ t ∷ []) + cond (is_read s) 1 0 = omega (arith, sum_by-append reads_of d.tasks.earlier (with_part x t ∷ []), sum_by-append reads_of d.tasks.earlier (t ∷ []), reads) in
    let before : sum_by reads_of (d.tasks.earlier ++ t ∷ []) ≡ length (filter is_read ss) = subst (λ (o : Option RawTask). sum_by reads_of (d.tasks.earlier ++ option_to_list o) ≡ length (filter is_read ss)) found p.links in
    let many : length (d.tasks.earlier ++ t ∷ []) ≡ length (filter is_task ss) = subst (λ (o : Option RawTask). length (d.tasks.earlier ++ option_to_list o) ≡ length (filter is_task ss)) found p.tasks in
    let latest_reads : reads_of t ≤ MAX_READS = latest.prints.reads in
    let latest_outs : count_by is_out_part t.parts ≤ MAX_OUTS = latest.prints.outs in
    record {
      version = p.version;
      plain = λ one. let before = p.plain one in (before.0, part-plain d.tasks.latest x before.1);
      until = p.until;
      decls = p.decls;
      inputs = rw k.no_input p.inputs;
      events = rw k.no_event p.events;
      few_inputs = rw k.no_input p.few_inputs;
      few_events = rw k.no_event p.few_events;
      earlier = p.earlier;
      latest = rw found (record {
        prints = record {
          line = latest.prints.line;
          parts = All-push IsPrintablePart t.parts x latest.prints.parts (part-prints s x i f h);
          body = omega (arith, size, c.body k.body, latest.body);
          reads = rw reads (still-few (is_read s) (reads_of t) MAX_READS latest_reads (λ e. omega (arith, c.reads e, latest.reads)));
          outs = rw outs (still-few (is_out s) (count_by is_out_part t.parts) MAX_OUTS latest_outs (λ e. omega (arith, c.outs e, latest.outs)));
        };
        body = rw (this-task s ss k.no_task) (size ∙ omega (arith, counted is_body s here, latest.body, one));
        reads = rw (this-task s ss k.no_task) (reads ∙ omega (arith, counted is_read s here, latest.reads));
        outs = rw (this-task s ss k.no_task) (outs ∙ omega (arith, counted is_out s here, latest.outs));
      });
      tasks = rw (found, k.no_task) (omega (arith, many, length-append d.tasks.earlier (with_part x t ∷ []), length-append d.tasks.earlier (t ∷ [])));
      few_tasks = rw k.no_task p.few_tasks;
      links = rw found (all ∙ omega (arith, before, counted is_read s ss));
      few_links = rw (counted is_read s ss) (still-few (is_read s) (length (filter is_read ss)) MAX_READ_LINES p.few_links c.links);
    }

-- ---- one more line

ended-more : (lines : List (List ℕ)) (bytes : List ℕ) → ended_lines (lines ++ bytes ∷ []) ≡ ended_lines lines ++ bytes ++ 10 ∷ []
ended-more [] bytes = refl
ended-more (line ∷ lines) bytes = ap (λ bs. line ++ 10 ∷ bs) (ended-more lines bytes) ∙ simp append_assoc

pub keeps-more : (Says : List ℕ → Content → Type 0) (kept : List ℕ → Content) (text bytes : List ℕ) → KeepsItself Says kept text → Says bytes (kept bytes) → KeepsItself Says kept (text ++ bytes ++ 10 ∷ [])
keeps-more Says kept text bytes (lines, is, each) says_so =
    (lines ++ bytes ∷ [], rw is (sym (ended-more lines bytes)), All-push (λ line. Says line (kept line)) lines bytes each says_so)

-- what a line promises of what is kept of it
abbrev pub IsSoundLine : ℕ → List Statement → Content → Type 0
IsSoundLine version before (says s) = IsSound version before s
IsSoundLine version before (row text) = SaysInTrace text (row text)
IsSoundLine version before (step text) = SaysInScript text (step text)

-- a line of a body needs a task, and before the header no other version is named
abbrev pub Continues : Draft → Line → Type 0
Continues d (line.Part p) = (t : RawTask) × (d.tasks.latest ≡ Some t)
Continues d (line.Header version) = (d.version ≡ 1) × (1 ≤ version) × (version ≤ 2)
Continues d _ = Unit {0}

pub record PrintsAll (ss : List Statement) (d : Draft) : Type 0 where
  pub items : Prints ss d
  pub trace : KeepsItself SaysInTrace row d.trace.text
  pub script : KeepsItself SaysInScript step d.script.text

same-statement : (ss : List Statement) (s : Statement) (d e : Draft) → Prints ss d
    → filter is_input (s ∷ ss) ≡ filter is_input ss → filter is_event (s ∷ ss) ≡ filter is_event ss → filter is_task (s ∷ ss) ≡ filter is_task ss → filter is_read (s ∷ ss) ≡ filter is_read ss
    → filter is_body (of_this_task (s ∷ ss)) ≡ filter is_body (of_this_task ss) → filter is_read (of_this_task (s ∷ ss)) ≡ filter is_read (of_this_task ss) → filter is_out (of_this_task (s ∷ ss)) ≡ filter is_out (of_this_task ss)
    → e.version ≡ d.version → e.until ≤ MAX_TIME → e.decls ≡ d.decls → e.tasks ≡ d.tasks → Prints (s ∷ ss) e
same-statement ss s d e p i v t r b c u version end decls tasks = prints-kept ss (s ∷ ss) d e i v t r b c u (rw version p.version) (λ one. sym version ∙ one) end decls tasks p

prints-stated : (ss : List Statement) (s : Statement) (l : Line) (d : Draft) (n : ℕ) → Prints ss d → IsSound d.version ss s → IsKept s l → Continues d l → Prints (s ∷ ss) (drafted d n [] l)
prints-stated ss nothing line.Nothing d n p i k h = same-statement ss nothing d d p refl refl refl refl refl refl refl refl p.until refl refl
prints-stated ss (header v) (line.Header w) d n p i k h =
    prints-kept ss (header v ∷ ss) d (drafted d n [] (line.Header w)) refl refl refl refl refl refl refl (h.1, h.2) (λ _. h.0) p.until refl refl p
prints-stated ss (policy x) (line.Policy y) d n p i k h = same-statement ss (policy x) d (drafted d n [] (line.Policy y)) p refl refl refl refl refl refl refl refl p.until refl refl
prints-stated ss (until x) (line.Until y) d n p i k h = same-statement ss (until x) d (drafted d n [] (line.Until y)) p refl refl refl refl refl refl refl refl (within y 0 MAX_TIME x k i.numbers).1 refl refl
prints-stated ss trace line.Trace d n p i k h = same-statement ss trace d (drafted d n [] line.Trace) p refl refl refl refl refl refl refl refl p.until refl refl
prints-stated ss script line.Script d n p i k h = same-statement ss script d (drafted d n [] line.Script) p refl refl refl refl refl refl refl refl p.until refl refl
prints-stated ss done line.Done d n p i k h = same-statement ss done d (drafted d n [] line.Done) p refl refl refl refl refl refl refl refl p.until refl refl
prints-stated ss s (line.Decl x) d n p i k h = decl-more ss s x d n p (kept-decl s x k) i.free (counts-of ss s i.counts)
prints-stated ss s (line.Task t) d n p i k h = task-line-more ss s t d n p (kept-task s t k) i.free i.numbers i.known (counts-of ss s i.counts)
prints-stated ss s (line.Part x) d n p i k h = part-line-more ss s x d n h.0 h.1 p (kept-part s x k) i.free i.numbers (counts-of ss s i.counts)
prints-stated ss s l d n p i k h = absurd k

-- a section's line leaves the items
prints-same : {ss : List Statement} {d e : Draft} → Prints ss d → e.version ≡ d.version → e.until ≡ d.until → e.decls ≡ d.decls → e.tasks ≡ d.tasks → Prints ss e
prints-same {ss} {d} {e} p version end decls tasks =
    prints-kept ss ss d e refl refl refl refl refl refl refl (rw version p.version) (λ one. sym version ∙ one) (rw end p.until) decls tasks p

-- a statement keeps nothing in a section
sections-stay : (s : Statement) (l : Line) (d : Draft) (n : ℕ) → IsKept s l → ((drafted d n [] l).trace.text ≡ d.trace.text) × ((drafted d n [] l).script.text ≡ d.script.text)
sections-stay s line.Nothing d n k = (refl, refl)
sections-stay s (line.Header v) d n k = (refl, refl)
sections-stay s (line.Policy x) d n k = (refl, refl)
sections-stay s (line.Until x) d n k = (refl, refl)
sections-stay s (line.Decl x) d n k = (refl, refl)
sections-stay s (line.Task x) d n k = (refl, refl)
sections-stay s (line.Part x) d n k = (refl, refl)
sections-stay s line.Trace d n k = (refl, refl)
sections-stay s line.Script d n k = (refl, refl)
sections-stay s line.Done d n k = (refl, refl)
sections-stay s line.Row d n k = absurd (no-row s k)
sections-stay s (line.Step kept) d n k = absurd (no-step s kept k)

pub prints-more : (before : List Content) (x : Content) (l : Line) (d : Draft) (n : ℕ) → PrintsAll (statements before) d → IsSoundLine d.version (statements before) x → IsHeld x l → Continues d l
    → PrintsAll (statements (x ∷ before)) (drafted d n (kept_text x) l)
prints-more before (says s) l d n p i k h = record { items = prints-stated (statements before) s l d n p.items i k h; trace = rw (sections-stay s l d n k).0 p.trace; script = rw (sections-stay s l d n k).1 p.script }
prints-more before (row t) line.Row d n p i k h =
    record { items = prints-same p.items refl refl refl refl; trace = keeps-more SaysInTrace row d.trace.text t p.trace i; script = p.script }
prints-more before (step t) (line.Step kept) d n p i k h =
    record { items = prints-same p.items refl refl refl refl; trace = p.trace; script = keeps-more SaysInScript step d.script.text t p.script i }
prints-more before x l d n p i k h = absurd k

section-prints : (Says : List ℕ → Content → Type 0) (kept : List ℕ → Content) (s : Section) → KeepsItself Says kept s.text → IfSome (section_text s) (KeepsItself Says kept)
section-prints Says kept s h = go s.begun
  where
    go : (b : Bool) → IfSome (cond b (Some s.text) None) (KeepsItself Says kept)
    go true = h
    go false = tt

pub prints-end : (ss : List Statement) (d : Draft) → PrintsAll ss d → IsPrintable (finished d).body
prints-end ss d p =
    let few_inputs = p.items.few_inputs in
    let few_events = p.items.few_events in
    let few_tasks = p.items.few_tasks in
    let few_links = p.items.few_links in
    record {
      version = p.items.version;
      plain = λ one. let each = p.items.plain one in All-append IsPlainTask d.tasks.earlier (option_to_list d.tasks.latest) each.0 (each-optional IsPlainTask d.tasks.latest each.1);
      until = p.items.until;
      decls = p.items.decls;
      inputs = rw p.items.inputs few_inputs;
      events = rw p.items.events few_events;
      tasks = All-append IsPrintableTask d.tasks.earlier (option_to_list d.tasks.latest) p.items.earlier (all-latest d.tasks.latest ss p.items.latest);
      few = rw p.items.tasks few_tasks;
      links = rw p.items.links few_links;
      trace = section-prints SaysInTrace row d.trace p.trace;
      script = section-prints SaysInScript step d.script p.script;
    }

pub prints-start : PrintsAll [] empty_draft
prints-start = record {
  items = record {
    version = (omega arith, omega arith);
    plain = λ _. (λ k x l. absurd (omega arith), tt);
    until = omega arith;
    decls = λ k x l. absurd (omega arith);
    inputs = refl;
    events = refl;
    few_inputs = omega arith;
    few_events = omega arith;
    earlier = λ k x l. absurd (omega arith);
    latest = tt;
    tasks = refl;
    few_tasks = omega arith;
    links = refl;
    few_links = omega arith;
  };
  trace = ([], refl, λ k x l. absurd (omega arith));
  script = ([], refl, λ k x l. absurd (omega arith));
}

-- ---- what lines that were read promise

pub fault-free : (ss : List Statement) (s : Statement) → limit_fault ss s ≡ None → (numbers_fit s ≡ true) × (passed_count ss s ≡ None)
fault-free ss s e = go (numbers_fit s) (passed_count ss s) refl refl e
  where
    go : (b : Bool) (o : Option Limit) → numbers_fit s ≡ b → passed_count ss s ≡ o → cond b (option_map LimitHit o) (Some (LimitHit limit.Number)) ≡ None → (numbers_fit s ≡ true) × (passed_count ss s ≡ None)
    go true None n c e = (n, c)
    go true (Some l) n c e = absurd cc
    go false o n c e = absurd cc

pub sound-line : (before : List Content) (bytes : List ℕ) (x : Content) → Reads before bytes x → IsSoundLine (version_after before) (statements before) x
sound-line before bytes x (of_the_diagram b s e i) =
    let free = fault-free (statements before) s i.within in
    record { free = printable-statement i.tokens s i.stands.form (printable-tokens b i.tokens i.spelled); numbers = free.0; counts = free.1; known = i.stands.known }
sound-line before bytes x (of_the_trace b s e (an_empty_row c i)) = record { free = tt; numbers = refl; counts = refl; known = refl }
sound-line before bytes x (of_the_trace b s e (trace_ends c i)) = record { free = tt; numbers = refl; counts = refl; known = refl }
sound-line before bytes x (of_the_trace b s e (script_begins c i)) = record { free = tt; numbers = refl; counts = refl; known = refl }
sound-line before bytes x (of_the_trace b s e (a_row c i j)) = a_row c i j
sound-line before bytes x (of_the_script b s e (no_step c i)) = record { free = tt; numbers = refl; counts = refl; known = refl }
sound-line before bytes x (of_the_script b s e (script_ends c i)) = record { free = tt; numbers = refl; counts = refl; known = refl }
sound-line before bytes x (of_the_script b s e (a_step c u ts i n m k)) = a_step u u ts (spells-again c u ts i k) n m (spelled-again c u k)
