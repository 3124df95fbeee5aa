-- The numbers and names of the codes of scripts.
use Rattle.std.specs.Prelude.{ℕ, List, ◌++◌, codes}
use Rattle.std.specs.Fmt.{decimal}
use Rattle.dbp_replay.specs.declared.fail.ScriptCode.{ScriptCode}
use Rattle.dbp_replay.specs.declared.fail.ScriptCode.TheVariants.{BadStep, StepName, NoScript}

abbrev pub script_number : ScriptCode → ℕ
script_number BadStep = 27
script_number StepName = 28
script_number NoScript = 29

abbrev pub script_name : ScriptCode → List ℕ
script_name BadStep = codes "BadStep"
script_name StepName = codes "StepName"
script_name NoScript = codes "NoScript"

-- the number and the name, joined by a space
abbrev pub code_text : ScriptCode → List ℕ
code_text code = decimal (script_number code) ++ codes " " ++ script_name code
