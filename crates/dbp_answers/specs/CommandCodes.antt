-- Why a command refuses a document that others accept.
use Rattle.std.specs.Prelude.{ℕ, List, [], ◌∷◌, ◌++◌, codes}
use Rattle.std.specs.List.{flat_map}
use Rattle.dbp_answers.specs.declared.command_code.CommandCode.{CommandCode}
use Rattle.dbp_answers.specs.declared.command_code.CommandCode.TheVariants.{Cycle, NoTask, NotFixed, NotOnEvents, NotPeriodic, SharedEvent, TooLong}

abbrev pub command_number : CommandCode → ℕ
command_number NotFixed = 31
command_number (NotPeriodic task) = 32
command_number (NotOnEvents task) = 33
command_number (SharedEvent task) = 34
command_number NoTask = 35
command_number TooLong = 36
command_number (Cycle tasks) = 37

abbrev pub command_name : CommandCode → List ℕ
command_name NotFixed = codes "NotFixed"
command_name (NotPeriodic task) = codes "NotPeriodic"
command_name (NotOnEvents task) = codes "NotOnEvents"
command_name (SharedEvent task) = codes "SharedEvent"
command_name NoTask = codes "NoTask"
command_name TooLong = codes "TooLong"
command_name (Cycle tasks) = codes "Cycle"

-- the names of the tasks that it is of
abbrev pub tasks_in : CommandCode → List (List ℕ)
tasks_in (NotPeriodic task) = task ∷ []
tasks_in (NotOnEvents task) = task ∷ []
tasks_in (SharedEvent task) = task ∷ []
tasks_in (Cycle tasks) = tasks
tasks_in _ = []

-- what stands after the name: each of these after a space
abbrev pub words_after : CommandCode → List ℕ
words_after code = flat_map (λ task. codes " " ++ task) (tasks_in code)
