-- The names that a document declares.
use Rattle.std.specs.Prelude.{ℕ, List, [], ◌∷◌, ◌++◌, map, Some, None}
use Rattle.std.specs.List.{flat_map, find}
use Rattle.std.specs.Str.{bytes_eq}
use Rattle.dia_lines.specs.declared.item.Decl.{Decl}
use Rattle.dia_lines.specs.declared.item.Decl.TheVariants.{Input, Event}
use Rattle.dia_lines.specs.declared.item.Part.{Part}
use Rattle.dia_lines.specs.declared.item.Part.TheVariants.{State, Sense, Read, Let, Next, Out}
use Rattle.dia_read.specs.declared.document.RawTask.{RawTask}

-- ---- of the document

abbrev pub input_name : Decl → List (List ℕ)
input_name (Input n first) = n ∷ []
input_name (Event n) = []

abbrev pub event_name : Decl → List (List ℕ)
event_name (Input n first) = []
event_name (Event n) = n ∷ []

abbrev pub decl_name : Decl → List ℕ
decl_name (Input n first) = n
decl_name (Event n) = n

abbrev pub task_names : List RawTask → List (List ℕ)
task_names tasks = map (λ t. t.name) tasks

-- ---- of a task

abbrev pub state_name : Part → List (List ℕ)
state_name (State n first) = n ∷ []
state_name _ = []

abbrev pub sense_name : Part → List (List ℕ)
sense_name (Sense n input) = n ∷ []
sense_name _ = []

abbrev pub read_name : Part → List (List ℕ)
read_name (Read n delay writer port at) = n ∷ []
read_name _ = []

abbrev pub let_name : Part → List (List ℕ)
let_name (Let n e) = n ∷ []
let_name _ = []

abbrev pub out_name : Part → List (List ℕ)
out_name (Out n first e) = n ∷ []
out_name _ = []

abbrev pub next_name : Part → List (List ℕ)
next_name (Next n e) = n ∷ []
next_name _ = []

-- the names that a line of a body declares in its task's space
abbrev pub declared_name : Part → List (List ℕ)
declared_name (State n first) = n ∷ []
declared_name (Sense n input) = n ∷ []
declared_name (Read n delay writer port at) = n ∷ []
declared_name (Let n e) = n ∷ []
declared_name (Next n e) = []
declared_name (Out n first e) = n ∷ []

-- the names of the task's environment: its states, senses, reads and lets
abbrev pub env_names : List Part → List (List ℕ)
env_names parts = flat_map state_name parts ++ flat_map sense_name parts ++ flat_map read_name parts ++ flat_map let_name parts

-- the outs of the first task with the name, if there is one
abbrev pub port_names : List RawTask → List ℕ → List (List ℕ)
port_names tasks writer = elim (find (λ t. bytes_eq t.name writer) tasks) [ None ↦ [] | Some t ↦ flat_map out_name t.parts ]
