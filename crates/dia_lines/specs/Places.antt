-- How far the lines before a line have come, and what it may say there, in documents of a version.
use Rattle.std.specs.Prelude.{ℕ, ℤ, pos, ◌==◌, ◌&&◌, ◌||◌, Bool, true, false, Option, Some, None, if◌then◌else◌}
use Rattle.std.specs.Option.{is_none}
use Rattle.std.specs.Ordering.{int_eq}
use Rattle.dia_lines.specs.declared.place.Place.{Place}
use Rattle.dia_lines.specs.declared.place.Place.TheVariants.{Header, Policy, Until, Declarations, Body, Trace, Script, Ended}
use Rattle.dia_lines.specs.Statements.{Statement, nothing, header, policy, until, input, event, task, state, sense, read, a_let, a_next, out, trace, script, done}

-- the line belongs to a task's body
abbrev pub is_body : Statement → Bool
is_body (state n v) = true
is_body (sense n i) = true
is_body (read n d w p a) = true
is_body (a_let n x) = true
is_body (a_next n x) = true
is_body (out n v x) = true
is_body _ = false

-- the line declares an input or an event
abbrev pub is_declaration : Statement → Bool
is_declaration (input n v) = true
is_declaration (event n) = true
is_declaration _ = false

-- where a line leads that may follow the declarations and likewise a task: a task, a section, the end
abbrev pub after_declarations : Statement → Option Place
after_declarations (task t) = Some Body
after_declarations trace = Some Trace
after_declarations script = Some Script
after_declarations done = Some Ended
after_declarations _ = None

-- where a line leads from a place, if it may stand there
abbrev pub leads : Place → Statement → Option Place
leads place nothing = Some place
leads Header (header version) = Some Policy
leads Policy (policy p) = Some Until
leads Until (until n) = Some Declarations
leads Declarations s = if is_declaration s then Some Declarations else after_declarations s
leads Body s = if is_body s then Some Body else after_declarations s
leads Trace script = Some Script
leads Trace done = Some Ended
leads Script done = Some Ended
leads _ _ = None

-- the version of the language that has the number
abbrev pub version_of : ℤ → Option ℕ
version_of value = if int_eq value (pos 1) then Some 1 else if int_eq value (pos 2) then Some 2 else None

-- whether documents of the version have such a line: those of version 1 have no `when` and no `cpu`
abbrev pub is_of_version : ℕ → Statement → Bool
is_of_version version (task t) = version == 2 || is_none t.when && is_none t.cpu
is_of_version version s = true
