-- The diagram of a document without faults is closed.
use Rattle.std.proofs.Common.{◌*◌, ◌≤◌, All, List, [], ◌∷◌, length, arith}
use Rattle.std.specs.Prelude.{sum_by}
use Rattle.std.proofs.lemmas.List.Elements.{All-head, All-tail}
use Rattle.std.proofs.lemmas.List.Sums.{sum_by-cons}
use Rattle.dbp_plan.specs.declared.limits.TheConstants.{MAX_BODY}
use Rattle.dbp_plan.specs.declared.diagram.Diagram.{Diagram}
use Rattle.dbp_plan.specs.Closed.{IsClosed}
use Rattle.dia_read.specs.declared.document.Body.{Body}
use Rattle.dia_read.specs.declared.document.Doc.{Doc}
use Rattle.dia_read.specs.declared.document.RawTask.{RawTask}
use Rattle.dia_read.specs.Printable.{IsPrintable, IsPrintableTask, HasItemLines}
use Rattle.dia_check.specs.Diagrams.{IsDiagramOf}
use Rattle.dia_check.specs.Faults.{HasNoShapeFault}
use Rattle.dia_check.proofs.Faultless.{faultless}
use Rattle.dia_check.proofs.ClosedTasks as tasks
use Rattle.dia_check.proofs.LinkLaws as links

pub closed : (doc : Doc) (d : Diagram) → IsPrintable doc.body → HasItemLines doc → HasNoShapeFault doc → IsDiagramOf doc.body d → IsClosed d
closed doc d printable lines none is =
    let body = doc.body in
    let fine = faultless doc lines none.lines in
    record {
      until = tasks.until body d printable fine none.whole is;
      inputs = tasks.inputs body d printable fine none.whole is;
      events = tasks.events body d printable fine none.whole is;
      tasks = tasks.tasks body d printable fine none.whole is;
      reads = links.reads body d printable fine is;
      links = links.links body d printable fine is;
      each = tasks.each body d printable fine none.whole is (links.linked body d printable fine is);
      ends = links.ends body d printable fine is;
      delays = links.delays body d printable fine is;
      one_link = links.one_link body d printable fine is;
      used = links.used body d printable fine is;
      own = links.own body d printable fine is;
      ports = links.ports body d printable fine is;
    }

-- the lines of the bodies are at most so many
few-lines : (ts : List RawTask) → All IsPrintableTask ts → sum_by (λ t. length t.parts) ts ≤ length ts * MAX_BODY
few-lines [] each = omega arith
few-lines (t ∷ ts) each = omega (arith, sum_by-cons (λ (u : RawTask). length u.parts) t ts, few-lines ts (All-tail IsPrintableTask t ts each), (All-head IsPrintableTask t ts each).body)

pub few-parts : (body : Body) → IsPrintable body → sum_by (λ t. length t.parts) body.tasks ≤ 2048
few-parts body printable = omega (arith, few-lines body.tasks printable.tasks, printable.few)
