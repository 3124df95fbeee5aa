-- There is room in a draft for one more line.
use Rattle.std.proofs.Common.{ℕ, ◌+◌, ◌*◌, ◌<◌, ◌≤◌, List, [], ◌∷◌, ◌++◌, length, Option, Some, None, arith, length-append}
use Rattle.std.specs.Option.{option_to_list, IfSome}
use Rattle.dbp_plan.specs.declared.limits.TheConstants.{MAX_TEXT}
use Rattle.dia_lines.specs.declared.item.Line.{Line}
use Rattle.dia_lines.specs.declared.item.Line.TheVariants as line
use Rattle.dia_read.specs.declared.document.RawTask.{RawTask}
use Rattle.dia_read.specs.declared.draft.Draft.{Draft}
use Rattle.dia_read.specs.declared.draft.Tasks.{Tasks}
use Rattle.dia_read.specs.Drafts.{empty_draft, begun, with_part, drafted, HasRoom}

pub record Bounded (d : Draft) (lines bytes : ℕ) : Type 0 where
  pub decls : length d.decls ≤ lines
  pub tasks : length d.tasks.earlier + length (option_to_list d.tasks.latest) ≤ lines
  pub parts : IfSome d.tasks.latest (λ task. length task.parts ≤ lines)
  pub trace : length d.trace.text ≤ bytes
  pub script : length d.script.text ≤ bytes
  pub decl_lines : length d.lines.decls ≤ lines
  pub task_lines : length d.lines.tasks ≤ lines
  pub part_lines : length d.lines.parts ≤ lines
  pub row_lines : length d.lines.trace ≤ lines
  pub step_lines : length d.lines.script ≤ lines

-- what is kept of a line fits
abbrev pub KeptFits : Line → List ℕ → ℕ → Type 0
KeptFits line.Row text more = length text + 1 ≤ more
KeptFits (line.Step kept) text more = length text + 1 ≤ more
KeptFits _ text more = Unit {0}

more : {A : Type 0} (xs : List A) (x : A) (n : ℕ) → length xs ≤ n → length (xs ++ x ∷ []) ≤ n + 1
more xs x n h = omega (arith, length-append xs (x ∷ []))

wider : (o : Option RawTask) (n : ℕ) → IfSome o (λ task. length task.parts ≤ n) → IfSome o (λ task. length task.parts ≤ n + 1)
wider None n h = tt
wider (Some t) n h = omega arith

-- the draft's lists and texts, except for those that are given anew
still : (d : Draft) (lines bytes more : ℕ) → Bounded d lines bytes → Bounded d (lines + 1) (bytes + more)
still d lines bytes more b = record {
  decls = omega (arith, b.decls);
  tasks = omega (arith, b.tasks);
  parts = wider d.tasks.latest lines b.parts;
  trace = omega (arith, b.trace);
  script = omega (arith, b.script);
  decl_lines = omega (arith, b.decl_lines);
  task_lines = omega (arith, b.task_lines);
  part_lines = omega (arith, b.part_lines);
  row_lines = omega (arith, b.row_lines);
  step_lines = omega (arith, b.step_lines);
}

begun-fits : (t : Tasks) (x : _) (n : ℕ) → length t.earlier + length (option_to_list t.latest) ≤ n → length (begun t x).earlier + length (option_to_list (begun t x).latest) ≤ n + 1
begun-fits t x n h = omega (arith, length-append t.earlier (option_to_list t.latest))

added-fits : (o : Option RawTask) (p : _) (n m : ℕ) → m + length (option_to_list o) ≤ n → m + length (option_to_list (elim o [ None ↦ None | Some task ↦ Some (with_part p task) ])) ≤ n + 1
added-fits None p n m h = omega arith
added-fits (Some t) p n m h = omega arith

parts-fit : (o : Option RawTask) (p : _) (n : ℕ) → IfSome o (λ task. length task.parts ≤ n) → IfSome (elim o [ None ↦ None | Some task ↦ Some (with_part p task) ]) (λ task. length task.parts ≤ n + 1)
parts-fit None p n h = tt
parts-fit (Some t) p n h = more t.parts p n h

text-fits : (text line : List ℕ) (bytes more : ℕ) → length text ≤ bytes → length line + 1 ≤ more → length (text ++ line ++ 10 ∷ []) ≤ bytes + more
text-fits text line bytes more h k = omega (arith, length-append (text ++ line) (10 ∷ []), length-append text line)

pub bounded-more : (d : Draft) (number lines bytes add : ℕ) (text : List ℕ) (l : Line) → Bounded d lines bytes → KeptFits l text add → Bounded (drafted d number text l) (lines + 1) (bytes + add)
bounded-more d k n m a text line.Nothing b f = still d n m a b
bounded-more d k n m a text (line.Header v) b f = let s = still d n m a b in record { decls = s.decls; tasks = s.tasks; parts = s.parts; trace = s.trace; script = s.script; decl_lines = s.decl_lines; task_lines = s.task_lines; part_lines = s.part_lines; row_lines = s.row_lines; step_lines = s.step_lines }
bounded-more d k n m a text (line.Policy p) b f = let s = still d n m a b in record { decls = s.decls; tasks = s.tasks; parts = s.parts; trace = s.trace; script = s.script; decl_lines = s.decl_lines; task_lines = s.task_lines; part_lines = s.part_lines; row_lines = s.row_lines; step_lines = s.step_lines }
bounded-more d k n m a text (line.Until p) b f = let s = still d n m a b in record { decls = s.decls; tasks = s.tasks; parts = s.parts; trace = s.trace; script = s.script; decl_lines = s.decl_lines; task_lines = s.task_lines; part_lines = s.part_lines; row_lines = s.row_lines; step_lines = s.step_lines }
bounded-more d k n m a text (line.Decl e) b f = let s = still d n m a b in record { decls = more d.decls e n b.decls; tasks = s.tasks; parts = s.parts; trace = s.trace; script = s.script; decl_lines = more d.lines.decls k n b.decl_lines; task_lines = s.task_lines; part_lines = s.part_lines; row_lines = s.row_lines; step_lines = s.step_lines }
bounded-more d k n m a text (line.Task t) b f = let s = still d n m a b in record { decls = s.decls; tasks = begun-fits d.tasks t n b.tasks; parts = omega arith; trace = s.trace; script = s.script; decl_lines = s.decl_lines; task_lines = more d.lines.tasks k n b.task_lines; part_lines = s.part_lines; row_lines = s.row_lines; step_lines = s.step_lines }
bounded-more d k n m a text (line.Part p) b f = let s = still d n m a b in record { decls = s.decls; tasks = added-fits d.tasks.latest p n (length d.tasks.earlier) b.tasks; parts = parts-fit d.tasks.latest p n b.parts; trace = s.trace; script = s.script; decl_lines = s.decl_lines; task_lines = s.task_lines; part_lines = more d.lines.parts k n b.part_lines; row_lines = s.row_lines; step_lines = s.step_lines }
bounded-more d k n m a text line.Trace b f = let s = still d n m a b in record { decls = s.decls; tasks = s.tasks; parts = s.parts; trace = s.trace; script = s.script; decl_lines = s.decl_lines; task_lines = s.task_lines; part_lines = s.part_lines; row_lines = s.row_lines; step_lines = s.step_lines }
bounded-more d k n m a text line.Script b f = let s = still d n m a b in record { decls = s.decls; tasks = s.tasks; parts = s.parts; trace = s.trace; script = s.script; decl_lines = s.decl_lines; task_lines = s.task_lines; part_lines = s.part_lines; row_lines = s.row_lines; step_lines = s.step_lines }
bounded-more d k n m a text line.Done b f = let s = still d n m a b in record { decls = s.decls; tasks = s.tasks; parts = s.parts; trace = s.trace; script = s.script; decl_lines = s.decl_lines; task_lines = s.task_lines; part_lines = s.part_lines; row_lines = s.row_lines; step_lines = s.step_lines }
bounded-more d k n m a text line.Row b f = let s = still d n m a b in record { decls = s.decls; tasks = s.tasks; parts = s.parts; trace = text-fits d.trace.text text m a b.trace f; script = s.script; decl_lines = s.decl_lines; task_lines = s.task_lines; part_lines = s.part_lines; row_lines = more d.lines.trace k n b.row_lines; step_lines = s.step_lines }
bounded-more d k n m a text (line.Step kept) b f = let s = still d n m a b in record { decls = s.decls; tasks = s.tasks; parts = s.parts; trace = s.trace; script = text-fits d.script.text text m a b.script f; decl_lines = s.decl_lines; task_lines = s.task_lines; part_lines = s.part_lines; row_lines = s.row_lines; step_lines = more d.lines.script k n b.step_lines }

pub bounded-start : Bounded empty_draft 0 0
bounded-start = record { decls = omega arith; tasks = omega arith; parts = tt; trace = omega arith; script = omega arith; decl_lines = omega arith; task_lines = omega arith; part_lines = omega arith; row_lines = omega arith; step_lines = omega arith }

below : (o : Option RawTask) (n number : ℕ) → IfSome o (λ task. length task.parts ≤ n) → n < number → IfSome o (λ task. length task.parts < number)
below None n number h l = tt
below (Some t) n number h l = omega arith

-- if so many bytes were read, there is room for a line of the bytes that are left
pub has-room : (d : Draft) (lines number bytes line : ℕ) → Bounded d lines (2 * bytes) → lines < number → bytes + line ≤ MAX_TEXT → HasRoom d number line
has-room d lines number bytes line b l w = record {
  decls = omega (arith, b.decls);
  tasks = omega (arith, b.tasks);
  parts = below d.tasks.latest lines number b.parts l;
  trace = omega (arith, b.trace);
  script = omega (arith, b.script);
  decl_lines = omega (arith, b.decl_lines);
  task_lines = omega (arith, b.task_lines);
  part_lines = omega (arith, b.part_lines);
  row_lines = omega (arith, b.row_lines);
  step_lines = omega (arith, b.step_lines);
}
