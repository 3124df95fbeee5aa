-- What stops tell of an input and a command.
use Rattle.std.proofs.Common.{◌≡◌, ℕ, List, Option, Bool, true, Result, Ok, Err, refl}
use Rattle.std.specs.Prelude.{IfOk}
use Rattle.dbp_rules.specs.declared.step.Step.{Step}
use Rattle.dbp_plan.specs.declared.diagram.Diagram.{Diagram}
use Rattle.dbp_plan.specs.declared.plan.Plan.{Plan}
use Rattle.dbp_replay.specs.Replays.{IsReplayRefusal}
use Rattle.dbp_replay.specs.Scripts.{IsScript, IsScriptRefusal}
use Rattle.dbp_replay.specs.declared.fail.ReplayFail.{ReplayFail}
use Rattle.dbp_replay.specs.declared.fail.ReplayFail.TheVariants as replay
use Rattle.dbp_replay.specs.declared.fail.ScriptFail.{ScriptFail}
use Rattle.dbp_replay.specs.declared.fail.ScriptFail.TheVariants as script
use Rattle.dia_check.specs.declared.fail.CheckFail.{CheckFail}
use Rattle.dia_check.specs.declared.fail.CheckFail.TheVariants as check
use Rattle.dia_check.specs.declared.shaped.Shaped.{Shaped}
use Rattle.dia_check.specs.Checks.{IsCheckedOf, of_shape, of_ranks}
use Rattle.dia_check.specs.RankFaults.{IsRankRefusal}
use Rattle.dia_check.specs.Shapes.{IsShapeOf, IsShapeRefusal}
use Rattle.dia_read.specs.declared.document.Body.{Body}
use Rattle.dia_read.specs.declared.document.Doc.{Doc}
use Rattle.dia_read.specs.declared.fault.ReadFail.{ReadFail}
use Rattle.dia_read.specs.declared.fault.ReadFail.TheVariants as read
use Rattle.dia_read.specs.Answers.{Refuses}
use Rattle.dia_read.specs.Documents.{Spells}
use Rattle.trace_io.specs.Texts.{Accepts, of_reading, of_checking, of_the_trace}
use Rattle.trace_io.specs.Traces.{TraceFail, IsTraceRefusal}
use Rattle.trace_io.specs.Traces as trace
use Rattle.dbp_answers.specs.Answer.{Answers, illegal, no_plan, no_script, no_text, of_plan_refused}
use Rattle.dbp_answers.specs.Commands.{a_replay, at_text, count_of, looks, needs_plan}
use Rattle.dbp_answers.specs.Stops.{IsFaultOf, IsStopOf, stop_of_checking, stop_of_reading, stop_of_replay, stop_of_script, stop_of_tracing}
use Rattle.dbp_answers.specs.declared.command.Command.{Command}
use Rattle.dbp_answers.specs.declared.command.Command.TheVariants.{Replay, Run}
use Rattle.dbp_answers.specs.declared.refusal.Refusal.TheVariants.{Document, Script, Illegal, OfCommand}
use Rattle.dbp_answers.specs.declared.status.Status.{Status}
use Rattle.dbp_answers.specs.declared.stop.Stop.{Stop}
use Rattle.dbp_answers.specs.declared.stop.Stop.TheVariants.{Refused, Overrun, NoMemory}

-- ---- faults of the document

pub reading-stop : (input : List ℕ) (fail : ReadFail) → Refuses input fail → IsFaultOf input (stop_of_reading fail)
reading-stop input (read.Refused line code) fault = of_reading line code fault
reading-stop input read.NoMemory fault = tt

pub shape-stop : (input : List ℕ) (doc : Doc) (fail : CheckFail) → Spells input doc → IsShapeRefusal doc fail → IsFaultOf input (stop_of_checking fail)
shape-stop input doc (check.Refused line code) spelled fault = of_checking doc line code spelled (of_shape line code fault)
shape-stop input doc check.NoMemory spelled fault = tt

pub rank-stop : (input : List ℕ) (doc : Doc) (s : Shaped) (fail : CheckFail) → Spells input doc → IsShapeOf doc s → IsRankRefusal s fail → IsFaultOf input (stop_of_checking fail)
rank-stop input doc s (check.Refused line code) spelled shape fault = of_checking doc line code spelled (of_ranks s line code shape fault)
rank-stop input doc s check.NoMemory spelled shape fault = tt

pub trace-stop : (input : List ℕ) (doc : Doc) (d : Diagram) (fail : TraceFail) → Spells input doc → IsCheckedOf doc d → IsTraceRefusal doc d fail → IsFaultOf input (stop_of_tracing fail)
trace-stop input doc d (trace.Refused line code) spelled checked fault = of_the_trace doc d line code spelled checked fault
trace-stop input doc d trace.NoMemory spelled checked fault = tt

-- ---- why a command makes no text

-- a command that checks the whole document stops at the document's first fault
pub document-stop : (input : List ℕ) (command : Command) (stop : Stop) → needs_plan command ≡ true → IsFaultOf input stop → IsStopOf input command stop
document-stop input command (Refused (Document line code)) checks fault = no_plan line code checks fault
document-stop input command (Refused (Script line code)) checks fault = absurd fault
document-stop input command (Refused (Illegal step why)) checks fault = absurd fault
document-stop input command (Refused (OfCommand code)) checks fault = absurd fault
document-stop input command (Overrun line) checks fault = absurd fault
document-stop input command NoMemory checks fault = tt

-- one that looks at the text stops at the first fault of reading
pub text-stop : (input : List ℕ) (command : Command) (make : Body → List ℕ) (fail : ReadFail) → looks command ≡ at_text make → Refuses input fail → IsStopOf input command (stop_of_reading fail)
text-stop input command make (read.Refused line code) looked fault = no_text make line code looked fault
text-stop input command make read.NoMemory looked fault = tt

pub script-stop : (input : List ℕ) (ranked : Bool) (p : Plan) (a : Accepts input p) (fail : ScriptFail) → IsScriptRefusal p.diagram a.doc fail → IsStopOf input (Replay ranked) (stop_of_script fail)
script-stop input ranked p a (script.Refused line code) fault = of_plan_refused (a_replay (count_of ranked)) p (Script line code) a refl (no_script (count_of ranked) line code fault)
script-stop input ranked p a script.NoMemory fault = tt

pub replay-stop : (input : List ℕ) (ranked : Bool) (p : Plan) (a : Accepts input p) (es : List Step) (fail : ReplayFail) → IsScript p.diagram a.doc es → IsReplayRefusal p (count_of ranked) es fail
    → IsStopOf input (Replay ranked) (stop_of_replay fail)
replay-stop input ranked p a es (replay.Illegal step why) script broken = of_plan_refused (a_replay (count_of ranked)) p (Illegal step why) a refl (illegal (count_of ranked) es step why script broken)
replay-stop input ranked p a es replay.NoMemory script broken = tt

-- ---- the answer of a stop

-- of an input and a command that it was made for
pub stop-answered : {A E : Type 0} (text : A → List ℕ) (stop : Stop) (r : Result (Status × A) E) → IfOk r (λ told. (input : List ℕ) (command : Command) → IsStopOf input command stop → Answers input command told.0 (text told.1))
    → (input : List ℕ) (command : Command) → IsStopOf input command stop → IfOk r (λ told. Answers input command told.0 (text told.1))
stop-answered text stop (Ok told) answers input command is = answers input command is
stop-answered text stop (Err fail) answers input command is = tt

-- of all runs of an input
pub run-stop-answered : {A E : Type 0} (text : A → List ℕ) (stop : Stop) (r : Result (Status × A) E) → IfOk r (λ told. (input : List ℕ) (command : Command) → IsStopOf input command stop → Answers input command told.0 (text told.1))
    → (input : List ℕ) → ((turns : Option ℕ) → IsStopOf input (Run turns) stop) → IfOk r (λ told. (turns : Option ℕ) → Answers input (Run turns) told.0 (text told.1))
run-stop-answered text stop (Ok told) answers input is = λ turns. answers input (Run turns) (is turns)
run-stop-answered text stop (Err fail) answers input is = tt
