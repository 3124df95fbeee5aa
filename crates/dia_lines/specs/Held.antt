-- What is kept of a line.
use Rattle.std.specs.Prelude.{◌≡◌, ℤ, pos, Option, Some, None}
use Rattle.std.specs.Option.{option_map}
use Rattle.dbp_plan.specs.Expr.{IsExprOf}
use Rattle.dia_lines.specs.declared.item.Decl.{Decl}
use Rattle.dia_lines.specs.declared.item.Decl.TheVariants.{Input, Event}
use Rattle.dia_lines.specs.declared.item.RawClock.{RawClock}
use Rattle.dia_lines.specs.declared.item.RawClock.TheVariants.{Every, On}
use Rattle.dia_lines.specs.declared.item.TaskLine.{TaskLine}
use Rattle.dia_lines.specs.declared.item.Part.{Part}
use Rattle.dia_lines.specs.declared.item.Part.TheVariants as part
use Rattle.dia_lines.specs.declared.item.Line.{Line}
use Rattle.dia_lines.specs.declared.item.Line.TheVariants as line
use Rattle.dia_lines.specs.Delays.{delay_of}
use Rattle.dia_lines.specs.Statements.{Statement, Clock, every, on, nothing, header, policy, until, input, event, task, state, sense, read, a_let, a_next, out, trace, script, done}
use Rattle.dia_lines.specs.Lines.{Content, says, row, step}

-- the declaration that a line is
abbrev pub IsDecl : Statement → Decl → Type 0
IsDecl (input name first) (Input n v) = (name ≡ n) × (first ≡ v)
IsDecl (event name) (Event n) = name ≡ n
IsDecl _ _ = ⊥

-- the clock that a line gives
abbrev pub IsClock : Clock → RawClock → Type 0
IsClock (every period offset) (Every p o) = (period ≡ pos p) × (offset ≡ pos o)
IsClock (on name) (On event_name) = name ≡ event_name
IsClock _ _ = ⊥

-- the processor as a number: without `cpu` it is 0
abbrev pub cpu_of : Option ℤ → ℤ
cpu_of None = pos 0
cpu_of (Some value) = value

-- the task that a line begins
abbrev pub IsTaskLine : Statement → TaskLine → Type 0
IsTaskLine (task h) t =
    (h.name ≡ t.name) × IsClock h.clock t.clock × (h.when ≡ t.when) × (h.prio ≡ option_map pos t.prio) × (h.deadline ≡ option_map pos t.deadline)
    × (h.cost ≡ pos t.cost) × (cpu_of h.cpu ≡ pos t.cpu)
IsTaskLine _ t = ⊥

-- the line of a body that a line is
abbrev pub IsPart : Statement → Part → Type 0
IsPart (state name first) (part.State n v) = (name ≡ n) × (first ≡ v)
IsPart (sense name from) (part.Sense n i) = (name ≡ n) × (from ≡ i)
IsPart (read name delay writer port at) (part.Read n d w p a) = (name ≡ n) × (delay_of delay ≡ pos d) × (writer ≡ w) × (port ≡ p) × (at ≡ pos a)
IsPart (a_let name x) (part.Let n e) = (name ≡ n) × IsExprOf e x
IsPart (a_next name x) (part.Next n e) = (name ≡ n) × IsExprOf e x
IsPart (out name first x) (part.Out n v e) = (name ≡ n) × (first ≡ v) × IsExprOf e x
IsPart _ _ = ⊥

-- what is kept of a line of the diagram
abbrev pub IsKept : Statement → Line → Type 0
IsKept nothing line.Nothing = Unit {0}
IsKept (header version) (line.Header v) = version ≡ v
IsKept (policy p) (line.Policy q) = p ≡ q
IsKept (until end) (line.Until e) = end ≡ pos e
IsKept s (line.Decl d) = IsDecl s d
IsKept s (line.Task t) = IsTaskLine s t
IsKept s (line.Part p) = IsPart s p
IsKept trace line.Trace = Unit {0}
IsKept script line.Script = Unit {0}
IsKept done line.Done = Unit {0}
IsKept _ _ = ⊥

-- what is kept of a line: of a row no more than that it is one, of a step its text
abbrev pub IsHeld : Content → Line → Type 0
IsHeld (says s) l = IsKept s l
IsHeld (row text) line.Row = Unit {0}
IsHeld (step text) (line.Step kept) = text ≡ kept
IsHeld _ _ = ⊥
