-- What a crew keeps of each run.
use Rattle.std.specs.Prelude.{◌≡◌, ℕ, ◌<◌, List, length, map, Option, option_map}
use Rattle.std.specs.List.{range_with_len}
use Rattle.dbp_plan.specs.declared.plan.Plan.{Plan}
use Rattle.dbp_plan.specs.Occurrences.{times_of}
use Rattle.party_exec.specs.declared.crew_entry.CrewEntry.{CrewEntry}
use Rattle.party_exec.specs.declared.crew_entry.TaskEnd.{TaskEnd}

-- the task's occurrences, which have all ended
abbrev pub task_end : Plan → ℕ → TaskEnd
task_end p i = record { ended = length (times_of p.batches i); occurrences = length (times_of p.batches i) }

abbrev pub task_ends : Plan → List TaskEnd
task_ends p = map (task_end p) (range_with_len 0 (length p.diagram.tasks))

-- the entry of a run of the plan
abbrev pub entry_of : Plan → CrewEntry
entry_of p = record { plan = p; tasks = task_ends p }

-- the plan for which an entry stands ready
abbrev pub plan_ready : Option CrewEntry → Option Plan
plan_ready next = option_map (λ e. e.plan) next

-- the entry has a place for each task of its plan, and there is room for it after so many others
pub record HasRoom (e : CrewEntry) (count room : ℕ) : Type 0 where
  pub tasks : length e.tasks ≡ length e.plan.diagram.tasks
  pub entries : count < room
