-- What lines add to a draft.
use Rattle.std.specs.Prelude.{ℕ, ◌+◌, ◌*◌, ◌<◌, ◌^◌, true, false, List, [], ◌∷◌, ◌++◌, length, Option, Some, None, if◌then◌else◌}
use Rattle.std.specs.Option.{option_to_list, IfSome}
use Rattle.dbp_plan.specs.declared.diagram.Policy.TheVariants.{Fp}
use Rattle.dia_lines.specs.declared.item.Line.{Line}
use Rattle.dia_lines.specs.declared.item.Line.TheVariants as line
use Rattle.dia_lines.specs.declared.item.Part.{Part}
use Rattle.dia_lines.specs.declared.item.TaskLine.{TaskLine}
use Rattle.dia_read.specs.declared.document.Doc.{Doc}
use Rattle.dia_read.specs.declared.document.RawTask.{RawTask}
use Rattle.dia_read.specs.declared.draft.Draft.{Draft}
use Rattle.dia_read.specs.declared.draft.Section.{Section}
use Rattle.dia_read.specs.declared.draft.Tasks.{Tasks}

-- the task that a line begins, without a body yet
abbrev pub task_of : TaskLine → RawTask
task_of t = record { name = t.name; clock = t.clock; when = t.when; prio = t.prio; deadline = t.deadline; cost = t.cost; cpu = t.cpu; parts = [] }

abbrev pub begun : Tasks → TaskLine → Tasks
begun t line = record { earlier = t.earlier ++ option_to_list t.latest; latest = Some (task_of line) }

abbrev pub with_part : Part → RawTask → RawTask
with_part part task = record task { parts = task.parts ++ part ∷ [] }

abbrev pub added : Tasks → Part → Tasks
added t part = record t { latest = elim t.latest [ None ↦ None | Some task ↦ Some (with_part part task) ] }

-- one more line, ended by a line feed
abbrev pub kept_line : Section → List ℕ → Section
kept_line s text = record s { text = s.text ++ text ++ 10 ∷ [] }

-- the draft with one more line, which has the number, and of which this text is kept
abbrev pub drafted : Draft → ℕ → List ℕ → Line → Draft
drafted d number text line.Nothing = d
drafted d number text (line.Header version) = record d { version = version }
drafted d number text (line.Policy p) = record d { policy = p }
drafted d number text (line.Until end) = record d { until = end; lines = record d.lines { until_at = number } }
drafted d number text (line.Decl decl) = record d { decls = d.decls ++ decl ∷ []; lines = record d.lines { decls = d.lines.decls ++ number ∷ [] } }
drafted d number text (line.Task t) = record d { tasks = begun d.tasks t; lines = record d.lines { tasks = d.lines.tasks ++ number ∷ [] } }
drafted d number text (line.Part p) = record d { tasks = added d.tasks p; lines = record d.lines { parts = d.lines.parts ++ number ∷ [] } }
drafted d number text line.Trace = record d { trace = record d.trace { begun = true }; lines = record d.lines { trace_at = number } }
drafted d number text line.Script = record d { script = record d.script { begun = true } }
drafted d number text line.Done = record d { lines = record d.lines { done_at = number } }
drafted d number text line.Row = record d { trace = kept_line d.trace text; lines = record d.lines { trace = d.lines.trace ++ number ∷ [] } }
drafted d number text (line.Step kept) = record d { script = kept_line d.script text; lines = record d.lines { script = d.lines.script ++ number ∷ [] } }

-- what is kept of a line of these bytes: a row as it is, a step's text, of other lines nothing
abbrev pub text_of_line : List ℕ → Line → List ℕ
text_of_line bytes line.Row = bytes
text_of_line bytes (line.Step text) = text
text_of_line bytes _ = []

-- there is room for the line with the number, of so many bytes
pub record HasRoom (d : Draft) (number bytes : ℕ) : Type 0 where
  pub decls : length d.decls < number
  pub tasks : length d.tasks.earlier + length (option_to_list d.tasks.latest) < number
  pub parts : IfSome d.tasks.latest (λ task. length task.parts < number)
  pub trace : length d.trace.text + 2 * bytes + 1 < 2 ^ 32
  pub script : length d.script.text + 2 * bytes + 1 < 2 ^ 32
  pub decl_lines : length d.lines.decls < number
  pub task_lines : length d.lines.tasks < number
  pub part_lines : length d.lines.parts < number
  pub row_lines : length d.lines.trace < number
  pub step_lines : length d.lines.script < number

abbrev pub empty_section : Section
empty_section = record { begun = false; text = [] }

-- before the first line
abbrev pub empty_draft : Draft
empty_draft = record {
  version = 1;
  policy = Fp;
  until = 0;
  decls = [];
  tasks = record { earlier = []; latest = None };
  trace = empty_section;
  script = empty_section;
  lines = record { until_at = 0; done_at = 0; trace_at = 0; decls = []; tasks = []; parts = []; trace = []; script = [] };
}

-- the section's text, if it is there
abbrev pub section_text : Section → Option (List ℕ)
section_text s = if s.begun then Some s.text else None

-- the document that the draft has come to
abbrev pub finished : Draft → Doc
finished d = record {
  body = record {
    version = d.version;
    policy = d.policy;
    until = d.until;
    decls = d.decls;
    tasks = d.tasks.earlier ++ option_to_list d.tasks.latest;
    trace = section_text d.trace;
    script = section_text d.script;
  };
  lines = d.lines;
}
