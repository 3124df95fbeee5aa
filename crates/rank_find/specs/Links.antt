-- Which task writes directly to which.
use Rattle.std.specs.Prelude.{◌≡◌, ◌↔◌, ℕ, ◌==◌, ◌&&◌, if◌then◌else◌, Contains, List, [], ◌∷◌, length, slice_index_or}
use Rattle.std.specs.List.{flat_map}
use Rattle.dbp_plan.specs.declared.diagram.Diagram.{Diagram}
use Rattle.dbp_plan.specs.declared.diagram.Link.{Link}

-- a link of delay 0 goes from task i to task j
abbrev pub WritesTo : Diagram → ℕ → ℕ → Type 0
WritesTo d i j = Contains d.links (record { writer = i; reader = j; delay = 0 })

-- ---- lists of writers

-- the writer of the link, if it is a direct one to this task
abbrev pub direct_writer : ℕ → Link → List ℕ
direct_writer reader l = if l.delay == 0 && l.reader == reader then l.writer ∷ [] else []

-- the tasks that write directly to this one over these links
abbrev pub direct_writers : List Link → ℕ → List ℕ
direct_writers links reader = flat_map (direct_writer reader) links

-- task i is one of the writers of task j
abbrev pub IsWriter : List (List ℕ) → ℕ → ℕ → Type 0
IsWriter writers i j = Contains (slice_index_or writers j []) i

-- the lists have for each task those that write directly to it
pub record AreWriters (d : Diagram) (writers : List (List ℕ)) : Type 0 where
  pub size : length writers ≡ length d.tasks
  pub each : (i j : ℕ) → IsWriter writers i j ↔ WritesTo d i j
