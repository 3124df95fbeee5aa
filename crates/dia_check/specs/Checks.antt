-- What checking a document finds.
use Rattle.std.specs.Prelude.{◌≡◌, ℕ}
use Rattle.dbp_plan.specs.declared.diagram.Diagram.{Diagram}
use Rattle.dia_read.specs.declared.document.Doc.{Doc}
use Rattle.dia_check.specs.declared.fail.CheckCode.{CheckCode}
use Rattle.dia_check.specs.declared.shaped.Shaped.{Shaped}
use Rattle.dia_check.specs.Faults.{IsShapeFault}
use Rattle.dia_check.specs.RankFaults.{HasNoRankFault, IsRankFault, ranked_diagram}
use Rattle.dia_check.specs.Shapes.{IsShapeOf}

-- the document has no fault of names, shape and ranks, and this is its diagram, with ranks
pub record IsCheckedOf (doc : Doc) (d : Diagram) : Type 0 where
  pub shaped : Shaped
  pub shape : IsShapeOf doc shaped
  pub ranks : HasNoRankFault shaped
  pub is : d ≡ ranked_diagram shaped.diagram

-- the document's first fault of names and shape, or else of ranks
pub data IsCheckFault (doc : Doc) : ℕ → CheckCode → Type 0 where
  of_shape : (line : ℕ) (code : CheckCode) → IsShapeFault doc line code → IsCheckFault doc line code
  of_ranks : (s : Shaped) (line : ℕ) (code : CheckCode) → IsShapeOf doc s → IsRankFault s line code → IsCheckFault doc line code
