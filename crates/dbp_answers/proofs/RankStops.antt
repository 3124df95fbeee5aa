-- Why the command that ranks tasks by their links makes no text.
use Rattle.std.proofs.Common.{◌≡◌, ℕ, List, refl, ap, ◌∙◌}
use Rattle.dbp_plan.specs.declared.diagram.Diagram.{Diagram}
use Rattle.dbp_plan.specs.FirstFault.{first_fault}
use Rattle.dia_check.specs.declared.fail.CheckFail.{CheckFail}
use Rattle.dia_check.specs.declared.fail.CheckFail.TheVariants as check
use Rattle.dia_check.specs.declared.shaped.Shaped.{Shaped}
use Rattle.dia_check.specs.Checks.{IsCheckedOf, of_ranks, of_shape}
use Rattle.dia_check.specs.RankFaults.{IsRankRefusal}
use Rattle.dia_check.specs.Shapes.{IsShapeOf, IsShapeRefusal}
use Rattle.dia_read.specs.declared.document.Doc.{Doc}
use Rattle.dia_read.specs.declared.fault.ReadFail.{ReadFail}
use Rattle.dia_read.specs.declared.fault.ReadFail.TheVariants as read
use Rattle.dia_read.specs.Answers.{Refuses}
use Rattle.dia_read.specs.Documents.{Spells}
use Rattle.rank_find.specs.Bodies.{ranked_doc}
use Rattle.rank_find.specs.Finds.{IsRankFail}
use Rattle.rank_find.specs.declared.fail.RankFail.{RankFail}
use Rattle.rank_find.specs.declared.fail.RankFail.TheVariants as find
use Rattle.trace_io.specs.declared.code.Code.TheVariants.{Reading, Checking, Tracing}
use Rattle.trace_io.specs.Traces.{IsTraceRefusal, TraceFail}
use Rattle.trace_io.specs.Traces as trace
use Rattle.dbp_answers.specs.Answer.{not_ranked}
use Rattle.dbp_answers.specs.Rankings.{HasNoCheckFault, HasOrder, no_order, no_shape, no_trace, not_read}
use Rattle.dbp_answers.specs.Stops.{IsStopOf, stop_of_checking, stop_of_ranking, stop_of_reading, stop_of_tracing}
use Rattle.dbp_answers.specs.declared.command.Command.TheVariants.{Rank}
use Rattle.dbp_answers.specs.declared.command_code.CommandCode.TheVariants.{Cycle}
use Rattle.dbp_answers.specs.declared.refusal.Refusal.TheVariants.{Document, OfCommand}
use Rattle.dbp_answers.proofs.RankedTexts.{HaveOneBareDiagram, same-faults}

pub not-read-stop : (input : List ℕ) (fail : ReadFail) → Refuses input fail → IsStopOf input Rank (stop_of_reading fail)
not-read-stop input (read.Refused line code) fault = not_ranked (Document line (Reading code)) refl (not_read line code fault)
not-read-stop input read.NoMemory fault = tt

pub no-shape-stop : (input : List ℕ) (doc : Doc) (fail : CheckFail) → Spells input doc → IsShapeRefusal doc fail → IsStopOf input Rank (stop_of_checking fail)
no-shape-stop input doc (check.Refused line code) spelled fault = not_ranked (Document line (Checking code)) refl (no_shape doc line code spelled fault)
no-shape-stop input doc check.NoMemory spelled fault = tt

pub no-order-stop : (input : List ℕ) (doc : Doc) (s : Shaped) (fail : RankFail) → Spells input doc → IsShapeOf doc s → IsRankFail s.diagram fail → IsStopOf input Rank (stop_of_ranking fail)
no-order-stop input doc s (find.Cycle names) spelled shape are = not_ranked (OfCommand (Cycle names)) refl (no_order doc s names spelled shape are)
no-order-stop input doc s find.NoMemory spelled shape are = tt

-- the trace has the same first fault over the first shape
pub no-trace-stop : HaveOneBareDiagram → (input : List ℕ) (doc : Doc) (order : List ℕ) (ordered : HasOrder doc order) (d : Diagram) (fail : TraceFail) → IsCheckedOf (ranked_doc doc order) d
    → IsTraceRefusal (ranked_doc doc order) d fail → Spells input doc → IsStopOf input Rank (stop_of_tracing fail)
no-trace-stop bare input doc order ordered d (trace.Refused line code) checked fault spelled =
    let same = same-faults bare doc order ordered.shaped ordered.shape (ranked_doc doc order) refl d checked in
    not_ranked (Document line (Tracing code)) refl (no_trace doc order ordered line code spelled (ap (λ fs. first_fault fs) same ∙ fault))
no-trace-stop bare input doc order ordered d trace.NoMemory checked fault spelled = tt

-- ---- checks of a document without a fault fail only if memory runs out

pub shape-memory : (doc : Doc) (fail : CheckFail) → HasNoCheckFault doc → IsShapeRefusal doc fail → fail ≡ check.NoMemory
shape-memory doc (check.Refused line code) none fault = absurd (none line code (of_shape line code fault))
shape-memory doc check.NoMemory none fault = refl

pub rank-memory : (doc : Doc) (s : Shaped) (fail : CheckFail) → HasNoCheckFault doc → IsShapeOf doc s → IsRankRefusal s fail → fail ≡ check.NoMemory
rank-memory doc s (check.Refused line code) none shape fault = absurd (none line code (of_ranks s line code shape fault))
rank-memory doc s check.NoMemory none shape fault = refl
