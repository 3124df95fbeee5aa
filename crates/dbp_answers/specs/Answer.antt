-- What is answered if no read and no write fails.
use Rattle.std.specs.Prelude.{◌≡◌, ℕ, Bool, true, false, List, None, Some}
use Rattle.dbp_rules.specs.declared.step.Count.{Count}
use Rattle.dbp_rules.specs.declared.step.Illegal.{Illegal as Broken}
use Rattle.dbp_rules.specs.declared.step.Step.{Step}
use Rattle.dbp_plan.specs.Lookups.{declared_task}
use Rattle.dbp_plan.specs.declared.plan.Plan.{Plan}
use Rattle.dbp_plan.specs.declared.table.Table.{Table}
use Rattle.dbp_load.specs.Texts.{generated_text}
use Rattle.dbp_replay.specs.Replays.{IsIllegal, IsReplay}
use Rattle.dbp_replay.specs.Scripts.{IsScript, IsScriptFault}
use Rattle.dbp_replay.specs.StepForms.{task_named}
use Rattle.dbp_replay.specs.Texts.{script_text}
use Rattle.dbp_replay.specs.declared.fail.ScriptCode.{ScriptCode}
use Rattle.dia_lines.specs.declared.fault.ReadCode.{ReadCode}
use Rattle.dia_read.specs.Canonical.{canonical_text}
use Rattle.dia_read.specs.declared.document.Body.{Body}
use Rattle.dia_read.specs.declared.document.Doc.{Doc}
use Rattle.dia_read.specs.Documents.{Spells, IsFirstFault}
use Rattle.rank_order.specs.Ends.{IsOverrun}
use Rattle.rank_order.specs.Instances.{Instance}
use Rattle.rta_check.specs.declared.bound.Bound.{Bound}
use Rattle.rta_check.specs.declared.fail.RtaFail.TheVariants as rta
use Rattle.rta_check.specs.Bounds.{AreBounds, rta_fault}
use Rattle.slot_need.specs.Bodies.{scenario_body}
use Rattle.slot_need.specs.Faults.{need_fault}
use Rattle.sync_meaning.specs.Meaning.{IsMeaning}
use Rattle.trace_io.specs.declared.code.Code.{Code}
use Rattle.trace_io.specs.declared.code.Code.TheVariants.{Reading}
use Rattle.trace_io.specs.Lines.{lines_of}
use Rattle.trace_io.specs.Texts.{Accepts, Refuses}
use Rattle.dbp_answers.specs.declared.command_code.CommandCode.{CommandCode}
use Rattle.dbp_answers.specs.declared.command_code.CommandCode.TheVariants.{NotFixed, NotPeriodic}
use Rattle.dbp_answers.specs.declared.command.Command.{Command}
use Rattle.dbp_answers.specs.declared.command.Command.TheVariants.{Gen, Soak}
use Rattle.dbp_answers.specs.declared.processors.Processors.{Processors}
use Rattle.dbp_answers.specs.declared.refusal.Refusal.{Refusal}
use Rattle.dbp_answers.specs.declared.refusal.Refusal.TheVariants.{Document, Script, Illegal, OfCommand}
use Rattle.dbp_answers.specs.declared.status.Status.{Status}
use Rattle.dbp_answers.specs.declared.status.Status.TheVariants.{Ok, Overrun, Refused}
use Rattle.dbp_answers.specs.Commands.{Output, a_replay, a_scenario, a_simulation, a_text_of_it, at_plan, at_shape, at_text, looks, needs_plan, the_response_times, the_table}
use Rattle.dbp_answers.specs.BoundLines.{bound_lines}
use Rattle.dbp_answers.specs.OverrunLines.{overrun_line}
use Rattle.dbp_answers.specs.Rankings.{IsRankedText, RankRefusal}
use Rattle.dbp_answers.specs.Refusals.{refusal_line}
use Rattle.dbp_answers.specs.ScenarioCodes.{scenario_code}
use Rattle.dbp_answers.specs.Simulations.{IsInTime, IsRecordIn, left_in}
use Rattle.dbp_answers.specs.Summaries.{IsSummary}

-- what is printed of an accepted document and its plan: the lines of the one table that meets the plan's equations (of a
-- simulation if no release overruns), the recorded steps of its simulation, the text that is made of the plan, the lines
-- of its tasks' bounds, the text of the scenario of the task of a name, or the steps of the document's script with what
-- they hear
pub data PlanText (doc : Doc) (plan : Plan) : Output → List ℕ → Type 0 where
  table_lines : (table : Table) → IsMeaning plan.diagram plan.samples plan.batches table
      → PlanText doc plan the_table (lines_of plan.diagram plan.batches table)
  simulated_lines : (processors : Processors) (table : Table) → IsInTime plan processors → IsMeaning plan.diagram plan.samples plan.batches table
      → PlanText doc plan (a_simulation processors false) (lines_of plan.diagram plan.batches table)
  recorded_steps : (processors : Processors) (steps : List Step) → IsRecordIn plan processors steps
      → PlanText doc plan (a_simulation processors true) (script_text plan.diagram steps)
  made_of_plan : (make : Plan → List ℕ) → PlanText doc plan (a_text_of_it make) (make plan)
  bounds_of_tasks : (bounds : List Bound) → rta_fault plan.diagram ≡ None → AreBounds plan.diagram bounds
      → PlanText doc plan the_response_times (bound_lines plan.diagram bounds)
  scenario_text : (name : List ℕ) (task : ℕ) → task_named plan.diagram name ≡ Some task → need_fault plan.diagram task ≡ None
      → PlanText doc plan (a_scenario name) (canonical_text (scenario_body doc.body plan.diagram task))
  heard_steps : (count : Count) (steps : List Step) (text : List ℕ) → IsScript plan.diagram doc steps → IsReplay plan count steps text
      → PlanText doc plan (a_replay count) text

-- why an accepted document is refused: a replay for the first fault of the script, and after that for the first step that
-- isn't allowed; for response times, because its tasks have none; for a scenario, because there is no such task, or it has
-- none
pub data PlanRefusal (doc : Doc) (plan : Plan) : Output → Refusal → Type 0 where
  no_script : (count : Count) (line : ℕ) (code : ScriptCode) → IsScriptFault plan.diagram doc line code
      → PlanRefusal doc plan (a_replay count) (Script line code)
  illegal : (count : Count) (steps : List Step) (step : ℕ) (why : Broken) → IsScript plan.diagram doc steps
      → IsIllegal plan count steps step why → PlanRefusal doc plan (a_replay count) (Illegal step why)
  not_fixed : rta_fault plan.diagram ≡ Some rta.NotFixed → PlanRefusal doc plan the_response_times (OfCommand NotFixed)
  not_periodic : (task : ℕ) → rta_fault plan.diagram ≡ Some (rta.NotPeriodic task)
      → PlanRefusal doc plan the_response_times (OfCommand (NotPeriodic (declared_task plan task).name))
  no_scenario : (name : List ℕ) (code : CommandCode) → scenario_code plan.diagram name ≡ Some code → PlanRefusal doc plan (a_scenario name) (OfCommand code)

-- the overrun of a simulation: the release of an instance, and its time
pub data PlanOverrun (plan : Plan) : Output → Instance → ℕ → Type 0 where
  overrun : (processors : Processors) (record_it : Bool) (x : Instance) (time : ℕ) → IsOverrun plan (left_in plan processors) time x
      → PlanOverrun plan (a_simulation processors record_it) x time

-- the text that a command makes of an input: what it prints of the document's body, the document with its tasks ranked
-- by its links, or what it prints of the plan of an accepted input; or, of no input, the generated document or its summary
pub data Makes (input : List ℕ) : Command → List ℕ → Type 0 where
  of_body : (command : Command) (make : Body → List ℕ) (doc : Doc) → looks command ≡ at_text make → Spells input doc
      → Makes input command (make doc.body)
  of_shape : (command : Command) (text : List ℕ) → looks command ≡ at_shape → IsRankedText input text → Makes input command text
  of_plan : (command : Command) (output : Output) (plan : Plan) (text : List ℕ) (accepted : Accepts input plan)
      → looks command ≡ at_plan output → PlanText accepted.doc plan output text → Makes input command text
  of_seed : (seed size : ℕ) → Makes input (Gen seed size) (generated_text seed size)
  of_generated : (seed size : ℕ) (plan : Plan) (text : List ℕ) → Accepts (generated_text seed size) plan → IsSummary plan text
      → Makes input (Soak seed size) text

-- why a command refuses an input: one that looks at the text for a fault of reading; one that looks at the shape because
-- the input can't be ranked; one that looks at the plan for the first fault of the document, and of an accepted one for
-- what is refused besides
pub data IsRefused (input : List ℕ) (command : Command) : Refusal → Type 0 where
  no_text : (make : Body → List ℕ) (line : ℕ) (code : ReadCode) → looks command ≡ at_text make → IsFirstFault input line code
      → IsRefused input command (Document line (Reading code))
  not_ranked : (refusal : Refusal) → looks command ≡ at_shape → RankRefusal input refusal → IsRefused input command refusal
  no_plan : (line : ℕ) (code : Code) → needs_plan command ≡ true → Refuses input line code
      → IsRefused input command (Document line code)
  of_plan_refused : (output : Output) (plan : Plan) (refusal : Refusal) (accepted : Accepts input plan)
      → looks command ≡ at_plan output → PlanRefusal accepted.doc plan output refusal → IsRefused input command refusal

-- a command meets an overrun in the plan of an accepted input: the name of the task whose release it is, the number of the
-- released instance, and the time
pub data Overruns (input : List ℕ) (command : Command) : List ℕ → ℕ → ℕ → Type 0 where
  of_plan_overrun : (output : Output) (plan : Plan) (x : Instance) (time : ℕ) → Accepts input plan → looks command ≡ at_plan output
      → PlanOverrun plan output x time → Overruns input command (declared_task plan x.task).name x.number time

-- the line that says so
pub data IsOverrunLine (input : List ℕ) (command : Command) : List ℕ → Type 0 where
  line_of : (name : List ℕ) (number time : ℕ) → Overruns input command name number time
      → IsOverrunLine input command (overrun_line name number time)

-- the status and the text that a command gives to an input
pub data Answers (input : List ℕ) (command : Command) : Status → List ℕ → Type 0 where
  made : (text : List ℕ) → Makes input command text → Answers input command Ok text
  refused : (refusal : Refusal) → IsRefused input command refusal → Answers input command Refused (refusal_line refusal)
  overran : (line : List ℕ) → IsOverrunLine input command line → Answers input command Overrun line
