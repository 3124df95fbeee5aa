-- The place and the version after a line.
use Rattle.std.specs.Prelude.{ℕ}
use Rattle.dia_lines.specs.declared.item.Line.{Line}
use Rattle.dia_lines.specs.declared.item.Line.TheVariants as line
use Rattle.dia_lines.specs.declared.place.Place.{Place}
use Rattle.dia_lines.specs.declared.trace.TraceLine.{TraceLine}
use Rattle.dia_lines.specs.declared.trace.TraceLine.TheVariants as trace_line
use Rattle.dia_lines.specs.declared.place.Place.TheVariants.{Policy, Until, Declarations, Body, Trace, Script, Ended}

-- the place after a line that may stand at the place
abbrev pub place_after_line : Place → Line → Place
place_after_line place (line.Header version) = Policy
place_after_line place (line.Policy p) = Until
place_after_line place (line.Until end) = Declarations
place_after_line place (line.Decl d) = Declarations
place_after_line place (line.Task t) = Body
place_after_line place (line.Part p) = Body
place_after_line place line.Trace = Trace
place_after_line place line.Script = Script
place_after_line place line.Done = Ended
place_after_line place _ = place

-- what is kept of a line of the trace section
abbrev pub kept_in_trace : TraceLine → Line
kept_in_trace trace_line.Blank = line.Nothing
kept_in_trace trace_line.Row = line.Row
kept_in_trace trace_line.Script = line.Script
kept_in_trace trace_line.Done = line.Done

-- the version after a line: the header names it
abbrev pub version_after_line : ℕ → Line → ℕ
version_after_line before (line.Header version) = version
version_after_line before _ = before
