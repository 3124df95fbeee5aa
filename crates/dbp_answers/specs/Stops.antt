-- Why a command makes no text of an input.
use Rattle.std.specs.Prelude.{ℕ, List, Option, Some, None}
use Rattle.dbp_replay.specs.declared.fail.ReplayFail.{ReplayFail}
use Rattle.dbp_replay.specs.declared.fail.ReplayFail.TheVariants as replay
use Rattle.dbp_replay.specs.declared.fail.ScriptFail.{ScriptFail}
use Rattle.dbp_replay.specs.declared.fail.ScriptFail.TheVariants as script
use Rattle.dia_check.specs.declared.fail.CheckFail.{CheckFail}
use Rattle.dia_check.specs.declared.fail.CheckFail.TheVariants as check
use Rattle.dia_read.specs.declared.fault.ReadFail.{ReadFail}
use Rattle.dia_read.specs.declared.fault.ReadFail.TheVariants as read
use Rattle.rank_find.specs.declared.fail.RankFail.{RankFail}
use Rattle.rank_find.specs.declared.fail.RankFail.TheVariants as rank
use Rattle.trace_io.specs.declared.code.Code.TheVariants.{Reading, Checking, Tracing}
use Rattle.trace_io.specs.Traces.{TraceFail}
use Rattle.trace_io.specs.Traces as trace
use Rattle.trace_io.specs.Texts.{Refuses}
use Rattle.dbp_answers.specs.Answer.{IsOverrunLine, IsRefused}
use Rattle.dbp_answers.specs.declared.command.Command.{Command}
use Rattle.dbp_answers.specs.declared.command_code.CommandCode.{CommandCode}
use Rattle.dbp_answers.specs.declared.command_code.CommandCode.TheVariants.{Cycle}
use Rattle.dbp_answers.specs.declared.refusal.Refusal.TheVariants.{Document, Script, Illegal, OfCommand}
use Rattle.dbp_answers.specs.declared.status.Status.{Status}
use Rattle.dbp_answers.specs.declared.status.Status.TheVariants as status
use Rattle.dbp_answers.specs.declared.stop.Stop.{Stop}
use Rattle.dbp_answers.specs.declared.stop.Stop.TheVariants.{Refused, Overrun, NoMemory}

abbrev pub stop_of_reading : ReadFail → Stop
stop_of_reading (read.Refused line code) = Refused (Document line (Reading code))
stop_of_reading read.NoMemory = NoMemory

abbrev pub stop_of_checking : CheckFail → Stop
stop_of_checking (check.Refused line code) = Refused (Document line (Checking code))
stop_of_checking check.NoMemory = NoMemory

abbrev pub stop_of_tracing : TraceFail → Stop
stop_of_tracing (trace.Refused line code) = Refused (Document line (Tracing code))
stop_of_tracing trace.NoMemory = NoMemory

abbrev pub stop_of_script : ScriptFail → Stop
stop_of_script (script.Refused line code) = Refused (Script line code)
stop_of_script script.NoMemory = NoMemory

abbrev pub stop_of_replay : ReplayFail → Stop
stop_of_replay (replay.Illegal step why) = Refused (Illegal step why)
stop_of_replay replay.NoMemory = NoMemory

abbrev pub stop_of_ranking : RankFail → Stop
stop_of_ranking (rank.Cycle names) = Refused (OfCommand (Cycle names))
stop_of_ranking rank.NoMemory = NoMemory

-- without a code memory ran out
abbrev pub stop_of_code : Option CommandCode → Stop
stop_of_code (Some code) = Refused (OfCommand code)
stop_of_code None = NoMemory

-- the stop says the first fault of the text's document; out of memory says nothing
abbrev pub IsFaultOf : List ℕ → Stop → Type 0
IsFaultOf input (Refused (Document line code)) = Refuses input line code
IsFaultOf input (Refused _) = ⊥
IsFaultOf input (Overrun _) = ⊥
IsFaultOf input NoMemory = Unit {0}

-- what a stop says of the input and the command; out of memory says nothing
abbrev pub IsStopOf : List ℕ → Command → Stop → Type 0
IsStopOf input command (Refused refusal) = IsRefused input command refusal
IsStopOf input command (Overrun line) = IsOverrunLine input command line.items
IsStopOf input command NoMemory = Unit {0}

-- the status of a stop
abbrev pub status_of_stop : Stop → Status
status_of_stop (Refused refusal) = status.Refused
status_of_stop (Overrun line) = status.Overrun
status_of_stop NoMemory = status.NoMemory
