-- What checking a document's shape gives.
use Rattle.std.specs.Prelude.{◌≡◌, ℕ, ◌+◌, List, [], ◌∷◌, ◌++◌, length, map, drop, slice_get, Some}
use Rattle.std.specs.List.{flat_map}
use Rattle.dbp_plan.specs.declared.diagram.Task.{Task}
use Rattle.dia_lines.specs.declared.item.Part.{Part}
use Rattle.dia_read.specs.declared.document.Body.{Body}
use Rattle.dia_read.specs.declared.document.Doc.{Doc}
use Rattle.dia_read.specs.declared.document.RawTask.{RawTask}
use Rattle.dia_check.specs.declared.fail.CheckFail.{CheckFail}
use Rattle.dia_check.specs.declared.fail.CheckFail.TheVariants.{Refused, NoMemory}
use Rattle.dia_check.specs.declared.shaped.ReadLine.{ReadLine}
use Rattle.dia_check.specs.declared.shaped.Shaped.{Shaped}
use Rattle.dia_check.specs.Diagrams.{link_of, links_of, link_number, IsTaskOf, IsDiagramOf}
use Rattle.dia_check.specs.Faults.{IsWhole, HasNoShapeFault, IsShapeFault}

-- the read lines of this task's body, whose lines have these numbers: each with the number of its link
abbrev pub body_read_lines : List RawTask → ℕ → List Part → List ℕ → List ReadLine
body_read_lines tasks reader (p ∷ ps) (n ∷ ns) = map (λ l. record { line = n; link = link_number (links_of tasks) l }) (link_of tasks reader p) ++ body_read_lines tasks reader ps ns
body_read_lines tasks reader _ _ = []

-- the read lines of these tasks, the first of which has this number
abbrev pub read_lines_from : List RawTask → ℕ → List RawTask → List ℕ → List ReadLine
read_lines_from tasks number (t ∷ ts) parts = body_read_lines tasks number t.parts parts ++ read_lines_from tasks (number + 1) ts (drop (length t.parts) parts)
read_lines_from tasks number [] parts = []

abbrev pub read_lines_of : Doc → List ReadLine
read_lines_of doc = read_lines_from doc.body.tasks 0 doc.body.tasks doc.lines.parts

-- the document has no fault of names and shape, and this is what it says, still without ranks
pub record IsShapeOf (doc : Doc) (s : Shaped) : Type 0 where
  pub faultless : HasNoShapeFault doc
  pub diagram : IsDiagramOf doc.body s.diagram
  pub unranked : s.diagram.ranks ≡ []
  pub task_lines : s.task_lines ≡ doc.lines.tasks
  pub read_lines : s.read_lines ≡ read_lines_of doc

-- what a refusal says of the document; out of memory says nothing
abbrev pub IsShapeRefusal : Doc → CheckFail → Type 0
IsShapeRefusal doc (Refused line code) = IsShapeFault doc line code
IsShapeRefusal doc NoMemory = Unit {0}

-- a line for each task, and for each read in order, with its link
pub record HasLines (s : Shaped) : Type 0 where
  pub tasks : length s.task_lines ≡ length s.diagram.tasks
  pub reads : map (λ r. r.link) s.read_lines ≡ flat_map (λ t. map (λ r. r.link) t.reads) s.diagram.tasks

-- the tasks are what the body's tasks say
pub record AreTasksOf (body : Body) (tasks : List Task) : Type 0 where
  pub count : length tasks ≡ length body.tasks
  pub each : (i : ℕ) (raw : RawTask) (t : Task) → slice_get body.tasks i ≡ Some raw → slice_get tasks i ≡ Some t → IsTaskOf body i raw t

abbrev pub AreWhole : List RawTask → Type 0
AreWhole tasks = (i : ℕ) (t : RawTask) → slice_get tasks i ≡ Some t → IsWhole t
