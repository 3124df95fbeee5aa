-- What a contract sees of a recorder, and what it gains by a step and by a piece.
use Rattle.std.specs.Prelude.{◌≡◌, ℕ, List, [], ◌∷◌, ◌++◌, Option, Some, None, unwrap_or}
use Rattle.std.specs.Option.{option_map}
use Rattle.dbp_plan.specs.declared.diagram.Link.{Link}
use Rattle.dbp_plan.specs.declared.diagram.Task.{Task}
use Rattle.dbp_plan.specs.declared.plan.Plan.{Plan}
use Rattle.dbp_plan.specs.declared.table.Table.{Table}
use Rattle.dbp_plan.specs.Lookups.{declared_task}
use Rattle.release_list.specs.Releases.{links_into}
use Rattle.release_list.specs.declared.release.Release.{Release}
use Rattle.dbp_core.specs.Steppers as core
use Rattle.dbp_rules.specs.Lookups.{task, task_entry}
use Rattle.dbp_rules.specs.Rules.{next}
use Rattle.dbp_rules.specs.declared.parts.TaskEntry.{TaskEntry}
use Rattle.dbp_rules.specs.declared.parts.TaskPart.{TaskPart}
use Rattle.dbp_rules.specs.declared.state.State.{State}
use Rattle.dbp_rules.specs.declared.step.Count.{Count}
use Rattle.dbp_rules.specs.declared.step.Step.{Step}
use Rattle.dbp_rules.specs.declared.wiring.Wiring.{Wiring}
use Rattle.instance_steps.specs.Events.{Event}
use Rattle.instance_steps.specs.Plays.{Plays}
use Rattle.instance_steps.specs.declared.recorder.Keeping.{Keeping}
use Rattle.instance_steps.specs.declared.recorder.Keeping.TheVariants.{Steps, Nothing}
use Rattle.instance_steps.specs.declared.recorder.Recorder.{Recorder}

-- the core's plan, its count, what its steps look up, and its state
abbrev pub plan_in : Recorder → Plan
plan_in r = core.plan_in r.core

abbrev pub count_in : Recorder → Count
count_in r = core.count_in r.core

abbrev pub wiring_in : Recorder → Wiring
wiring_in r = core.wiring_in r.core

abbrev pub state_in : Recorder → State
state_in r = core.state_in r.core

-- the list of the steps so far, if it keeps one; what is in it; and the rows
abbrev pub record_in : Recorder → Option (List Step)
record_in r = r.steps

abbrev pub steps_in : Recorder → List Step
steps_in r = unwrap_or (record_in r) []

abbrev pub table_in : Recorder → Table
table_in r = r.table

-- what is kept before the first step
abbrev pub first_record : Keeping → Option (List Step)
first_record Steps = Some []
first_record Nothing = None

-- of its plan: a task, the links, and those into a task
abbrev pub declared_in : Recorder → ℕ → Task
declared_in r i = declared_task (plan_in r) i

abbrev pub links_in : Recorder → List Link
links_in r = (plan_in r).diagram.links

abbrev pub into_in : Recorder → ℕ → List ℕ
into_in r i = links_into (links_in r) i

-- of its state: a task's part and its gate; the releaser's next action in the list of all, and what it knows of the tasks
abbrev pub part_in : Recorder → ℕ → TaskPart
part_in r i = (task (state_in r) i).part

abbrev pub gate_in : Recorder → ℕ → ℕ
gate_in r i = (task (state_in r) i).words.gate

abbrev pub releases_in : Recorder → List Release
releases_in r = (wiring_in r).releases

abbrev pub action_in : Recorder → ℕ
action_in r = (state_in r).releaser.place

abbrev pub entry_in : Recorder → ℕ → TaskEntry
entry_in r i = task_entry (state_in r) i

abbrev pub entries_in : Recorder → List TaskEntry
entries_in r = (state_in r).releaser.tasks

-- one step more, by which the core has gone on; it is kept if steps are
pub record AddsStep (old new : Recorder) (e : Step) : Type 0 where
  pub plan : plan_in new ≡ plan_in old
  pub wiring : wiring_in new ≡ wiring_in old
  pub state : state_in new ≡ next (plan_in old) (wiring_in old) (state_in old) e
  pub steps : record_in new ≡ option_map (λ kept. kept ++ e ∷ []) (record_in old)

-- the steps that are added play the events, from the old state to the new one; they are kept if steps are
pub record AddsSteps (old new : Recorder) (events : List Event) : Type 0 where
  pub plan : plan_in new ≡ plan_in old
  pub wiring : wiring_in new ≡ wiring_in old
  pub added : List Step
  pub steps : record_in new ≡ option_map (λ kept. kept ++ added) (record_in old)
  pub plays : Plays (plan_in old) (wiring_in old) (state_in old) events added (state_in new)
