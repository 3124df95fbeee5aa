-- A draft holds what the lines so far say together.
use Rattle.std.proofs.Common.{◌≡◌, ℕ, pos, ◌+◌, ◌≤◌, Bool, true, false, List, [], ◌∷◌, ◌++◌, length, filter, reverse, Option, Some, refl, sym, ap, ◌∙◌, subst, append_assoc, arith}
use Rattle.std.specs.Prelude.{◌||◌}
use Rattle.std.specs.List.{list_any}
use Rattle.std.specs.Option.{option_to_list}
use Rattle.std.proofs.lemmas.List.{append-nil}
use Rattle.std.proofs.lemmas.List.Folds.{list_any-append}
use Rattle.std.proofs.Math.Bool.{or-false, or-true}
use Rattle.dbp_plan.specs.declared.diagram.Policy.TheVariants.{Fp}
use Rattle.dia_lines.specs.declared.item.Decl.TheVariants.{Input, Event}
use Rattle.dia_lines.specs.declared.item.Line.{Line}
use Rattle.dia_lines.specs.declared.item.Line.TheVariants as line
use Rattle.dia_lines.specs.declared.item.Part.{Part}
use Rattle.dia_lines.specs.declared.item.Part.TheVariants as part
use Rattle.dia_lines.specs.declared.item.TaskLine.{TaskLine}
use Rattle.dia_lines.specs.Statements.{Statement, nothing, header, policy, until, input, event, task, state, sense, read, a_let, a_next, out, trace, script, done}
use Rattle.dia_lines.specs.Places.{is_body, is_declaration}
use Rattle.dia_lines.specs.Limits.{is_task}
use Rattle.dia_lines.specs.Lines.{Content, says, row, step, version_after, statements}
use Rattle.dia_lines.specs.Held.{IsDecl, IsTaskLine, IsPart, IsHeld}
use Rattle.dia_read.specs.declared.document.RawTask.{RawTask}
use Rattle.dia_read.specs.declared.draft.Draft.{Draft}
use Rattle.dia_read.specs.declared.draft.Section.{Section}
use Rattle.dia_read.specs.declared.draft.Tasks.{Tasks}
use Rattle.dia_read.specs.Documents.{versions, policies, ends, Fit, none, AreTasks, no_task, is_of_task, is_trace, is_script, is_until, is_done, is_statement_of, is_row, is_step, kept_text, lines_from, lines_with, kept}
use Rattle.dia_read.specs.Drafts.{empty_draft, task_of, added, with_part, drafted}
use Rattle.dia_read.proofs.OneMore.{reverse-more, versions-more, policies-more, ends-more, filter-more, lines-more, kept-more}
use Rattle.dia_read.proofs.Fitting.{fit-more, task-more, part-more}

-- the last of the items, or else this
abbrev pub last_or : {A : Type 0} → List A → A → A
last_or [] d = d
last_or (x ∷ xs) d = last_or xs x

last_or-append : {A : Type 0} (xs ys : List A) (d : A) → last_or (xs ++ ys) d ≡ last_or ys (last_or xs d)
last_or-append [] ys d = refl
last_or-append (x ∷ xs) ys d = last_or-append xs ys x

-- the version after lines is the last that they name
pub version-said : (before : List Content) → version_after before ≡ last_or (versions (statements (reverse before))) 1
version-said [] = refl
version-said (x ∷ before) =
    let split = ap (λ (said : List Content). last_or (versions (statements said)) 1) (reverse-more x before) ∙ ap (λ vs. last_or vs 1) (versions-more (reverse before) x)
    ∙ last_or-append (versions (statements (reverse before))) (versions (statements (x ∷ []))) 1 in
    one-more x (version-said before) ∙ sym split
  where
    one-more : (x : Content) → version_after before ≡ last_or (versions (statements (reverse before))) 1
        → version_after (x ∷ before) ≡ last_or (versions (statements (x ∷ []))) (last_or (versions (statements (reverse before))) 1)
    one-more (says (header v)) e = refl
    one-more (says s) e = e
    one-more (row t) e = e
    one-more (step t) e = e

abbrev pub all_tasks : Tasks → List RawTask
all_tasks t = t.earlier ++ option_to_list t.latest

-- ---- the first lines and the last one

pub record HoldsEnds (said : List Content) (d : Draft) : Type 0 where
  pub version : last_or (versions (statements said)) 1 ≡ d.version
  pub policy : last_or (policies (statements said)) Fp ≡ d.policy
  pub until : last_or (ends (statements said)) (pos 0) ≡ pos d.until
  pub until_at : last_or (lines_with (is_statement_of is_until) said) 0 ≡ d.lines.until_at
  pub done_at : last_or (lines_with (is_statement_of is_done) said) 0 ≡ d.lines.done_at
  pub trace_at : last_or (lines_with (is_statement_of is_trace) said) 0 ≡ d.lines.trace_at

ends-with : (said : List Content) (x : Content) (d e : Draft) → HoldsEnds said d
    → last_or (versions (statements (x ∷ []))) d.version ≡ e.version
    → last_or (policies (statements (x ∷ []))) d.policy ≡ e.policy → last_or (ends (statements (x ∷ []))) (pos d.until) ≡ pos e.until
    → last_or (lines_from (length said + 1) (is_statement_of is_until) (x ∷ [])) d.lines.until_at ≡ e.lines.until_at
    → last_or (lines_from (length said + 1) (is_statement_of is_done) (x ∷ [])) d.lines.done_at ≡ e.lines.done_at
    → last_or (lines_from (length said + 1) (is_statement_of is_trace) (x ∷ [])) d.lines.trace_at ≡ e.lines.trace_at
    → HoldsEnds (said ++ x ∷ []) e
ends-with said x d e h zero one two three four five =
    let lines = λ (kind : Content → Bool). ap (λ ns. last_or ns 0) (lines-more kind said x) ∙ last_or-append (lines_with kind said) (lines_from (length said + 1) kind (x ∷ [])) 0 in
    record {
      version = ap (λ vs. last_or vs 1) (versions-more said x) ∙ last_or-append (versions (statements said)) (versions (statements (x ∷ []))) 1 ∙ ap (last_or (versions (statements (x ∷ [])))) h.version ∙ zero;
      policy = ap (λ ps. last_or ps Fp) (policies-more said x) ∙ last_or-append (policies (statements said)) (policies (statements (x ∷ []))) Fp ∙ ap (last_or (policies (statements (x ∷ [])))) h.policy ∙ one;
      until = ap (λ es. last_or es (pos 0)) (ends-more said x) ∙ last_or-append (ends (statements said)) (ends (statements (x ∷ []))) (pos 0) ∙ ap (last_or (ends (statements (x ∷ [])))) h.until ∙ two;
      until_at = lines (is_statement_of is_until) ∙ ap (last_or (lines_from (length said + 1) (is_statement_of is_until) (x ∷ []))) h.until_at ∙ three;
      done_at = lines (is_statement_of is_done) ∙ ap (last_or (lines_from (length said + 1) (is_statement_of is_done) (x ∷ []))) h.done_at ∙ four;
      trace_at = lines (is_statement_of is_trace) ∙ ap (last_or (lines_from (length said + 1) (is_statement_of is_trace) (x ∷ []))) h.trace_at ∙ five;
    }

-- ---- sections

pub record HoldsSections (said : List Content) (d : Draft) : Type 0 where
  pub trace_begun : list_any (is_statement_of is_trace) said ≡ d.trace.begun
  pub trace_text : kept is_row said ≡ d.trace.text
  pub script_begun : list_any (is_statement_of is_script) said ≡ d.script.begun
  pub script_text : kept is_step said ≡ d.script.text
  pub row_lines : lines_with is_row said ≡ d.lines.trace
  pub step_lines : lines_with is_step said ≡ d.lines.script

sections-with : (said : List Content) (x : Content) (d e : Draft) → HoldsSections said d
    → (d.trace.begun || list_any (is_statement_of is_trace) (x ∷ [])) ≡ e.trace.begun
    → d.trace.text ++ kept is_row (x ∷ []) ≡ e.trace.text
    → (d.script.begun || list_any (is_statement_of is_script) (x ∷ [])) ≡ e.script.begun
    → d.script.text ++ kept is_step (x ∷ []) ≡ e.script.text
    → d.lines.trace ++ lines_from (length said + 1) is_row (x ∷ []) ≡ e.lines.trace
    → d.lines.script ++ lines_from (length said + 1) is_step (x ∷ []) ≡ e.lines.script
    → HoldsSections (said ++ x ∷ []) e
sections-with said x d e h one two three four five six = record {
  trace_begun = list_any-append (is_statement_of is_trace) said (x ∷ []) ∙ ap (λ b. b || list_any (is_statement_of is_trace) (x ∷ [])) h.trace_begun ∙ one;
  trace_text = kept-more is_row said x ∙ ap (λ bs. bs ++ kept is_row (x ∷ [])) h.trace_text ∙ two;
  script_begun = list_any-append (is_statement_of is_script) said (x ∷ []) ∙ ap (λ b. b || list_any (is_statement_of is_script) (x ∷ [])) h.script_begun ∙ three;
  script_text = kept-more is_step said x ∙ ap (λ bs. bs ++ kept is_step (x ∷ [])) h.script_text ∙ four;
  row_lines = lines-more is_row said x ∙ ap (λ ns. ns ++ lines_from (length said + 1) is_row (x ∷ [])) h.row_lines ∙ five;
  step_lines = lines-more is_step said x ∙ ap (λ ns. ns ++ lines_from (length said + 1) is_step (x ∷ [])) h.step_lines ∙ six;
}

-- ---- declarations and tasks

pub record HoldsItems (said : List Content) (d : Draft) : Type 0 where
  pub decls : Fit IsDecl (filter is_declaration (statements said)) d.decls
  pub tasks : AreTasks (filter is_of_task (statements said)) (all_tasks d.tasks)
  pub latest : 1 ≤ length (filter is_task (statements said)) → (t : RawTask) × (d.tasks.latest ≡ Some t)
  pub decl_lines : lines_with (is_statement_of is_declaration) said ≡ d.lines.decls
  pub task_lines : lines_with (is_statement_of is_task) said ≡ d.lines.tasks
  pub part_lines : lines_with (is_statement_of is_body) said ≡ d.lines.parts

items-with : (said : List Content) (x : Content) (d e : Draft) → HoldsItems said d
    → Fit IsDecl (filter is_declaration (statements said) ++ filter is_declaration (statements (x ∷ []))) e.decls
    → AreTasks (filter is_of_task (statements said) ++ filter is_of_task (statements (x ∷ []))) (all_tasks e.tasks)
    → (1 ≤ length (filter is_task (statements (said ++ x ∷ []))) → (t : RawTask) × (e.tasks.latest ≡ Some t))
    → d.lines.decls ++ lines_from (length said + 1) (is_statement_of is_declaration) (x ∷ []) ≡ e.lines.decls
    → d.lines.tasks ++ lines_from (length said + 1) (is_statement_of is_task) (x ∷ []) ≡ e.lines.tasks
    → d.lines.parts ++ lines_from (length said + 1) (is_statement_of is_body) (x ∷ []) ≡ e.lines.parts
    → HoldsItems (said ++ x ∷ []) e
items-with said x d e h one two three four five six = record {
  decls = rw (filter-more is_declaration said x) one;
  tasks = rw (filter-more is_of_task said x) two;
  latest = three;
  decl_lines = lines-more (is_statement_of is_declaration) said x ∙ ap (λ ns. ns ++ lines_from (length said + 1) (is_statement_of is_declaration) (x ∷ [])) h.decl_lines ∙ four;
  task_lines = lines-more (is_statement_of is_task) said x ∙ ap (λ ns. ns ++ lines_from (length said + 1) (is_statement_of is_task) (x ∷ [])) h.task_lines ∙ five;
  part_lines = lines-more (is_statement_of is_body) said x ∙ ap (λ ns. ns ++ lines_from (length said + 1) (is_statement_of is_body) (x ∷ [])) h.part_lines ∙ six;
}

-- ---- one more line

-- a line that is of no section: the draft's sections stay
sections-same : (said : List Content) (x : Content) (d e : Draft) → HoldsSections said d
    → is_statement_of is_trace x ≡ false → is_row x ≡ false → is_statement_of is_script x ≡ false → is_step x ≡ false
    → d.trace ≡ e.trace → d.script ≡ e.script → d.lines.trace ≡ e.lines.trace → d.lines.script ≡ e.lines.script → HoldsSections (said ++ x ∷ []) e
sections-same said x d e h t r s p one two three four =
    sections-with said x d e h
    (rw t (or-false d.trace.begun ∙ ap (λ (z : Section). z.begun) one))
    (rw r (append-nil d.trace.text ∙ ap (λ (z : Section). z.text) one))
    (rw s (or-false d.script.begun ∙ ap (λ (z : Section). z.begun) two))
    (rw p (append-nil d.script.text ∙ ap (λ (z : Section). z.text) two))
    (rw r (append-nil d.lines.trace ∙ three))
    (rw p (append-nil d.lines.script ∙ four))

-- a line that is no declaration and of no task
items-same : (said : List Content) (x : Content) (d e : Draft) → HoldsItems said d
    → filter is_declaration (statements (x ∷ [])) ≡ [] → filter is_of_task (statements (x ∷ [])) ≡ [] → filter is_task (statements (x ∷ [])) ≡ []
    → is_statement_of is_declaration x ≡ false → is_statement_of is_task x ≡ false → is_statement_of is_body x ≡ false
    → d.decls ≡ e.decls → d.tasks ≡ e.tasks → d.lines.decls ≡ e.lines.decls → d.lines.tasks ≡ e.lines.tasks → d.lines.parts ≡ e.lines.parts → HoldsItems (said ++ x ∷ []) e
items-same said x d e h a b c i t p one two three four five =
    items-with said x d e h
    (rw (a, append-nil (filter is_declaration (statements said))) (subst (Fit IsDecl (filter is_declaration (statements said))) one h.decls))
    (rw (b, append-nil (filter is_of_task (statements said))) (subst (λ z. AreTasks (filter is_of_task (statements said)) (all_tasks z)) two h.tasks))
    (λ some. subst (λ (z : Tasks). (t : RawTask) × (z.latest ≡ Some t)) two (h.latest (let size = ap length (filter-more is_task said x) ∙ ap length (ap (λ zs. filter is_task (statements said) ++ zs) c ∙ append-nil (filter is_task (statements said))) in omega arith)))
    (rw i (append-nil d.lines.decls ∙ three))
    (rw t (append-nil d.lines.tasks ∙ four))
    (rw p (append-nil d.lines.parts ∙ five))

pub record Holds (said : List Content) (d : Draft) : Type 0 where
  pub ends : HoldsEnds said d
  pub sections : HoldsSections said d
  pub items : HoldsItems said d

-- a line of a body needs a task before it
abbrev pub HasItsTask : List Content → Line → Type 0
HasItsTask said (line.Part p) = 1 ≤ length (filter is_task (statements said))
HasItsTask said _ = Unit {0}

-- a line of a body, and no other
record IsBodyKind (s : Statement) : Type 0 where
  body : is_body s ≡ true
  no_task : is_task s ≡ false
  no_declaration : is_declaration s ≡ false
  no_version : versions (s ∷ []) ≡ []
  no_policy : policies (s ∷ []) ≡ []
  no_end : ends (s ∷ []) ≡ []
  no_until : is_until s ≡ false
  no_done : is_done s ≡ false
  no_trace : is_trace s ≡ false
  no_script : is_script s ≡ false

body-kind : (s : Statement) (p : Part) → IsPart s p → IsBodyKind s
body-kind (state n v) (part.State m w) i = record { body = refl; no_task = refl; no_declaration = refl; no_version = refl; no_policy = refl; no_end = refl; no_until = refl; no_done = refl; no_trace = refl; no_script = refl }
body-kind (sense n v) (part.Sense m w) i = record { body = refl; no_task = refl; no_declaration = refl; no_version = refl; no_policy = refl; no_end = refl; no_until = refl; no_done = refl; no_trace = refl; no_script = refl }
body-kind (read n d w p a) (part.Read m e x q b) i = record { body = refl; no_task = refl; no_declaration = refl; no_version = refl; no_policy = refl; no_end = refl; no_until = refl; no_done = refl; no_trace = refl; no_script = refl }
body-kind (a_let n v) (part.Let m w) i = record { body = refl; no_task = refl; no_declaration = refl; no_version = refl; no_policy = refl; no_end = refl; no_until = refl; no_done = refl; no_trace = refl; no_script = refl }
body-kind (a_next n v) (part.Next m w) i = record { body = refl; no_task = refl; no_declaration = refl; no_version = refl; no_policy = refl; no_end = refl; no_until = refl; no_done = refl; no_trace = refl; no_script = refl }
body-kind (out n v x) (part.Out m w y) i = record { body = refl; no_task = refl; no_declaration = refl; no_version = refl; no_policy = refl; no_end = refl; no_until = refl; no_done = refl; no_trace = refl; no_script = refl }
body-kind s p i = absurd i

module _ (said : List Content) (d : Draft) (h : Holds said d) where
  abbrev n : ℕ
  n = length said + 1

  -- a line of which nothing is held
  same : (x : Content) (e : Draft) → HoldsEnds (said ++ x ∷ []) e
      → filter is_declaration (statements (x ∷ [])) ≡ [] → filter is_of_task (statements (x ∷ [])) ≡ [] → filter is_task (statements (x ∷ [])) ≡ []
      → is_statement_of is_declaration x ≡ false → is_statement_of is_task x ≡ false → is_statement_of is_body x ≡ false
      → HoldsSections (said ++ x ∷ []) e
      → d.decls ≡ e.decls → d.tasks ≡ e.tasks → d.lines.decls ≡ e.lines.decls → d.lines.tasks ≡ e.lines.tasks → d.lines.parts ≡ e.lines.parts → Holds (said ++ x ∷ []) e
  same x e ends a b c i t p sections one two three four five =
      record { ends = ends; sections = sections; items = items-same said x d e h.items a b c i t p one two three four five }

  plain : (x : Content) (e : Draft) → HoldsEnds (said ++ x ∷ []) e
      → filter is_declaration (statements (x ∷ [])) ≡ [] → filter is_of_task (statements (x ∷ [])) ≡ [] → filter is_task (statements (x ∷ [])) ≡ []
      → is_statement_of is_declaration x ≡ false → is_statement_of is_task x ≡ false → is_statement_of is_body x ≡ false
      → is_statement_of is_trace x ≡ false → is_row x ≡ false → is_statement_of is_script x ≡ false → is_step x ≡ false
      → d.trace ≡ e.trace → d.script ≡ e.script → d.lines.trace ≡ e.lines.trace → d.lines.script ≡ e.lines.script
      → d.decls ≡ e.decls → d.tasks ≡ e.tasks → d.lines.decls ≡ e.lines.decls → d.lines.tasks ≡ e.lines.tasks → d.lines.parts ≡ e.lines.parts → Holds (said ++ x ∷ []) e
  plain x e ends a b c i t p u r v s six seven eight nine one two three four five =
      same x e ends a b c i t p (sections-same said x d e h.sections u r v s six seven eight nine) one two three four five

  decl-more : (x : Content) (s : Statement) (e : _) → x ≡ says s → IsDecl s e → Holds (said ++ x ∷ []) (drafted d n [] (line.Decl e))
  decl-more x (input m v) (Input k w) is i = rw is (record {
    ends = ends-with said (says (input m v)) d (drafted d n [] (line.Decl (Input k w))) h.ends refl refl refl refl refl refl;
    sections = sections-same said (says (input m v)) d (drafted d n [] (line.Decl (Input k w))) h.sections refl refl refl refl refl refl refl refl;
    items = items-with said (says (input m v)) d (drafted d n [] (line.Decl (Input k w))) h.items
        (fit-more IsDecl (filter is_declaration (statements said)) d.decls (input m v) (Input k w) h.items.decls i)
        (rw append-nil h.items.tasks)
        (λ some. h.items.latest (let size = ap length (filter-more is_task said (says (input m v)) ∙ append-nil (filter is_task (statements said))) in omega arith))
        refl (append-nil d.lines.tasks) (append-nil d.lines.parts);
  })
  decl-more x (event m) (Event k) is i = rw is (record {
    ends = ends-with said (says (event m)) d (drafted d n [] (line.Decl (Event k))) h.ends refl refl refl refl refl refl;
    sections = sections-same said (says (event m)) d (drafted d n [] (line.Decl (Event k))) h.sections refl refl refl refl refl refl refl refl;
    items = items-with said (says (event m)) d (drafted d n [] (line.Decl (Event k))) h.items
        (fit-more IsDecl (filter is_declaration (statements said)) d.decls (event m) (Event k) h.items.decls i)
        (rw append-nil h.items.tasks)
        (λ some. h.items.latest (let size = ap length (filter-more is_task said (says (event m)) ∙ append-nil (filter is_task (statements said))) in omega arith))
        refl (append-nil d.lines.tasks) (append-nil d.lines.parts);
  })
  decl-more x s e is i = absurd i

  task-line-more : (s : Statement) (t : TaskLine) → IsTaskLine s t → Holds (said ++ says s ∷ []) (drafted d n [] (line.Task t))
  task-line-more (task x) t i =
      let e = drafted d n [] (line.Task t) in
      let after : all_tasks d.tasks ++ task_of t ∷ [] ≡ all_tasks e.tasks = refl in
      record {
        ends = ends-with said (says (task x)) d e h.ends refl refl refl refl refl refl;
        sections = sections-same said (says (task x)) d e h.sections refl refl refl refl refl refl refl refl;
        items = items-with said (says (task x)) d e h.items
            (rw append-nil h.items.decls)
            (task-more (filter is_of_task (statements said)) (all_tasks d.tasks) (task x) (task_of t) h.items.tasks i refl)
            (λ some. (task_of t, refl))
            (append-nil d.lines.decls) refl (append-nil d.lines.parts);
      }
  task-line-more s t i = absurd i

  part-line-more : (s : Statement) (p : Part) → IsPart s p → 1 ≤ length (filter is_task (statements said)) → Holds (said ++ says s ∷ []) (drafted d n [] (line.Part p))
  part-line-more s p i some =
      let e = drafted d n [] (line.Part p) in
      let k = body-kind s p i in
      let found = h.items.latest some in
      let before : AreTasks (filter is_of_task (statements said)) (d.tasks.earlier ++ found.0 ∷ []) =
      subst (λ (l : Option RawTask). AreTasks (filter is_of_task (statements said)) (d.tasks.earlier ++ option_to_list l)) found.1 h.items.tasks in
      let after : AreTasks (filter is_of_task (statements said) ++ s ∷ []) (all_tasks (added d.tasks p)) =
      rw found.1 (part-more (filter is_of_task (statements said)) (d.tasks.earlier ++ found.0 ∷ []) d.tasks.earlier found.0 s p refl before i) in
      record {
        ends = ends-with said (says s) d e h.ends (rw k.no_version refl) (rw k.no_policy refl) (rw k.no_end refl) (rw k.no_until refl) (rw k.no_done refl) (rw k.no_trace refl);
        sections = sections-same said (says s) d e h.sections k.no_trace refl k.no_script refl refl refl refl refl;
        items = items-with said (says s) d e h.items
            (rw (k.no_declaration, append-nil (filter is_declaration (statements said))) h.items.decls)
            (rw (k.no_task, k.body) after)
            (λ _. (with_part p found.0, rw found.1 refl))
            (rw k.no_declaration (append-nil d.lines.decls)) (rw k.no_task (append-nil d.lines.tasks)) (rw k.body refl);
      }

  pub holds-more : (x : Content) (l : Line) → IsHeld x l → HasItsTask said l → Holds (said ++ x ∷ []) (drafted d (length said + 1) (kept_text x) l)
  holds-more (says nothing) line.Nothing i b =
      plain (says nothing) d (ends-with said (says nothing) d d h.ends refl refl refl refl refl refl) refl refl refl refl refl refl refl refl refl refl refl refl refl refl refl refl refl refl refl
  holds-more (says (header v)) (line.Header w) i b =
      let e = drafted d n [] (line.Header w) in
      plain (says (header v)) e (ends-with said (says (header v)) d e h.ends i refl refl refl refl refl) refl refl refl refl refl refl refl refl refl refl refl refl refl refl refl refl refl refl refl
  holds-more (says (policy p)) (line.Policy q) i b =
      let e = drafted d n [] (line.Policy q) in
      plain (says (policy p)) e (ends-with said (says (policy p)) d e h.ends refl i refl refl refl refl) refl refl refl refl refl refl refl refl refl refl refl refl refl refl refl refl refl refl refl
  holds-more (says (until p)) (line.Until q) i b =
      let e = drafted d n [] (line.Until q) in
      plain (says (until p)) e (ends-with said (says (until p)) d e h.ends refl refl i refl refl refl) refl refl refl refl refl refl refl refl refl refl refl refl refl refl refl refl refl refl refl
  holds-more (says done) line.Done i b =
      let e = drafted d n [] line.Done in
      plain (says done) e (ends-with said (says done) d e h.ends refl refl refl refl refl refl) refl refl refl refl refl refl refl refl refl refl refl refl refl refl refl refl refl refl refl
  holds-more (says trace) line.Trace i b =
      let e = drafted d n [] line.Trace in
      same (says trace) e (ends-with said (says trace) d e h.ends refl refl refl refl refl refl) refl refl refl refl refl refl
      (sections-with said (says trace) d e h.sections (or-true d.trace.begun) (append-nil d.trace.text) (or-false d.script.begun) (append-nil d.script.text) (append-nil d.lines.trace) (append-nil d.lines.script))
      refl refl refl refl refl
  holds-more (says script) line.Script i b =
      let e = drafted d n [] line.Script in
      same (says script) e (ends-with said (says script) d e h.ends refl refl refl refl refl refl) refl refl refl refl refl refl
      (sections-with said (says script) d e h.sections (or-false d.trace.begun) (append-nil d.trace.text) (or-true d.script.begun) (append-nil d.script.text) (append-nil d.lines.trace) (append-nil d.lines.script))
      refl refl refl refl refl
  holds-more (row t) line.Row i b =
      let e = drafted d n t line.Row in
      same (row t) e (ends-with said (row t) d e h.ends refl refl refl refl refl refl) refl refl refl refl refl refl
      (sections-with said (row t) d e h.sections (or-false d.trace.begun) (sym (append_assoc d.trace.text t (10 ∷ []))) (or-false d.script.begun) (append-nil d.script.text) refl (append-nil d.lines.script))
      refl refl refl refl refl
  holds-more (step t) (line.Step kept) i b =
      let e = drafted d n t (line.Step kept) in
      same (step t) e (ends-with said (step t) d e h.ends refl refl refl refl refl refl) refl refl refl refl refl refl
      (sections-with said (step t) d e h.sections (or-false d.trace.begun) (append-nil d.trace.text) (or-false d.script.begun) (sym (append_assoc d.script.text t (10 ∷ []))) (append-nil d.lines.trace) refl)
      refl refl refl refl refl
  holds-more (says s) (line.Decl e) i b = decl-more (says s) s e refl i
  holds-more (says s) (line.Task t) i b = task-line-more s t i
  holds-more (says s) (line.Part p) i b = part-line-more s p i b
  holds-more x l i b = absurd i

pub holds-start : Holds [] empty_draft
holds-start = record {
  ends = record { version = refl; policy = refl; until = refl; until_at = refl; done_at = refl; trace_at = refl };
  sections = record { trace_begun = refl; trace_text = refl; script_begun = refl; script_text = refl; row_lines = refl; step_lines = refl };
  items = record { decls = none; tasks = no_task; latest = λ some. absurd (omega arith); decl_lines = refl; task_lines = refl; part_lines = refl };
}
