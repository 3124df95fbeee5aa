-- What the crews keep.
use Rattle.std.specs.Prelude.{ℕ, List, Option}
use Rattle.dbp_plan.specs.declared.plan.Plan.{Plan}
use Rattle.party_exec.specs.Entries.{plan_ready}
use Rattle.party_exec.specs.declared.crew_entry.CrewEntry.{CrewEntry}
use Rattle.party_exec.specs.declared.thread_crew.ThreadCrew.{ThreadCrew}
use Rattle.party_exec.specs.declared.turn_crew.TurnCrew.{TurnCrew}

-- the runs of a crew of threads, and the plan for which it is prepared
abbrev pub thread_runs : {P : Type 0} → ThreadCrew P → List CrewEntry
thread_runs c = c.runs.entries.items

abbrev pub thread_ready : {P : Type 0} → ThreadCrew P → Option Plan
thread_ready c = plan_ready c.runs.next

-- it draws nothing
abbrev pub no_seed : {P : Type 0} → ThreadCrew P → ℕ
no_seed c = 0

-- those of a crew of drawn turns, and the number from which it draws
abbrev pub turn_runs : TurnCrew → List CrewEntry
turn_runs c = c.runs.entries.items

abbrev pub turn_ready : TurnCrew → Option Plan
turn_ready c = plan_ready c.runs.next

abbrev pub seed_of : TurnCrew → ℕ
seed_of c = c.seed

-- the number from which its last run drew
abbrev pub last_seed_of : TurnCrew → ℕ
last_seed_of c = c.last_seed
