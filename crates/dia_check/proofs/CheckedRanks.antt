-- A checked diagram is ranked.
use Rattle.std.proofs.Common.{sym, subst}
use Rattle.dbp_plan.specs.declared.diagram.Diagram.{Diagram}
use Rattle.dbp_plan.specs.Ranked.{IsRanked}
use Rattle.dia_read.specs.declared.document.Doc.{Doc}
use Rattle.dia_read.specs.Printable.{HasItemLines, IsPrintable}
use Rattle.dia_check.specs.Checks.{IsCheckedOf}
use Rattle.dia_check.proofs.Closedness.{closed}
use Rattle.dia_check.proofs.RankLaws.{is-ranked}
use Rattle.dia_check.proofs.ReadLines.{lines-of-shape}

pub checked-ranked : (doc : Doc) (d : Diagram) → IsPrintable doc.body → HasItemLines doc → IsCheckedOf doc d → IsRanked d
checked-ranked doc d printable items checked =
    let s = checked.shaped in
    let shape = checked.shape in
    subst IsRanked (sym checked.is)
    (is-ranked s (closed doc s.diagram printable items shape.faultless shape.diagram) (lines-of-shape doc s.diagram s.task_lines s.read_lines items shape.diagram shape.task_lines shape.read_lines) checked.ranks)
