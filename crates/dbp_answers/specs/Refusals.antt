-- The line that says why a text is refused, or why its script can't be replayed.
use Rattle.std.specs.Prelude.{ℕ, List, [], ◌∷◌, ◌++◌, codes}
use Rattle.std.specs.Fmt.{decimal}
use Rattle.dbp_rules.specs.declared.step.Broken.{Broken}
use Rattle.dbp_rules.specs.declared.step.Broken.TheVariants.{Place, LastNotEnded, SlotRange, SlotKept, SlotClaimed, TaskPlace, HigherUnfinished}
use Rattle.dbp_replay.specs.Codes.{script_name, script_number}
use Rattle.dia_check.specs.Codes.{check_name, check_number}
use Rattle.dia_lines.specs.Codes.{code_name, code_number, limit_after}
use Rattle.trace_io.specs.declared.code.Code.{Code}
use Rattle.trace_io.specs.declared.code.Code.TheVariants.{Reading, Checking, Tracing}
use Rattle.trace_io.specs.Traces.{trace_code_name, trace_code_number}
use Rattle.dbp_answers.specs.CommandCodes.{command_name, command_number, words_after}
use Rattle.dbp_answers.specs.declared.refusal.Refusal.{Refusal}
use Rattle.dbp_answers.specs.declared.refusal.Refusal.TheVariants.{Document, Script, Illegal, OfCommand}

-- the number and the name of a code
abbrev pub numbered_name : ℕ → List ℕ → List ℕ
numbered_name number name = decimal number ++ codes " " ++ name

-- after the name of a passed limit stands its word
abbrev pub code_text : Code → List ℕ
code_text (Reading code) = numbered_name (code_number code) (code_name code) ++ limit_after code
code_text (Checking code) = numbered_name (check_number code) (check_name code)
code_text (Tracing code) = numbered_name (trace_code_number code) (trace_code_name code)

-- why a step isn't allowed
abbrev pub broken_text : Broken → List ℕ
broken_text Place = codes "not the next release step"
broken_text LastNotEnded = codes "last instance not known to have ended"
broken_text SlotRange = codes "no such slot"
broken_text SlotKept = codes "slot kept"
broken_text SlotClaimed = codes "slot claimed"
broken_text TaskPlace = codes "not the next step of the task"
broken_text HigherUnfinished = codes "higher rank unfinished"

-- `refused: line L: CODE NAME`, `illegal step K: TEXT`, or `refused: CODE NAME` and the words after it
abbrev pub refusal_text : Refusal → List ℕ
refusal_text (Document line code) = codes "refused: line " ++ decimal line ++ codes ": " ++ code_text code
refusal_text (Script line code) = codes "refused: line " ++ decimal line ++ codes ": " ++ numbered_name (script_number code) (script_name code)
refusal_text (Illegal step why) = codes "illegal step " ++ decimal step ++ codes ": " ++ broken_text why.broken
refusal_text (OfCommand code) = codes "refused: " ++ numbered_name (command_number code) (command_name code) ++ words_after code

-- ended by LF (10)
abbrev pub refusal_line : Refusal → List ℕ
refusal_line refusal = refusal_text refusal ++ 10 ∷ []
