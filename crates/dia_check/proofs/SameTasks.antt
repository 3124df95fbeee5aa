-- Documents with the same policy, declarations and tasks have the same diagram except for its end, whatever their lines.
use Rattle.std.proofs.Common.{◌≡◌, ℕ, List, [], ◌∷◌, map, take, Option, None, refl, sym, ap, ◌∙◌, subst, arith}
use Rattle.std.specs.Prelude.{slice_get}
use Rattle.std.specs.Option.{option_and_then}
use Rattle.dbp_plan.specs.declared.diagram.Diagram.{Diagram}
use Rattle.dbp_plan.specs.declared.diagram.Task.{Task}
use Rattle.dbp_plan.specs.FirstFault.{faults_after, first_fault}
use Rattle.dbp_plan.specs.Ranks.{ranks_of}
use Rattle.dbp_plan.proofs.FirstFaults.{append-none, cons-none, first-append}
use Rattle.dia_lines.specs.declared.item.Part.{Part}
use Rattle.dia_lines.specs.declared.item.Part.TheVariants.{State, Sense, Read, Let, Next, Out}
use Rattle.dia_read.specs.declared.document.Body.{Body}
use Rattle.dia_read.specs.declared.document.Doc.{Doc}
use Rattle.dia_read.specs.declared.document.RawTask.{RawTask}
use Rattle.dia_read.specs.Printable.{HasItemLines}
use Rattle.dia_check.specs.declared.shaped.ReadLine.{ReadLine}
use Rattle.dia_check.specs.declared.shaped.Shaped.{Shaped}
use Rattle.dia_check.specs.Checks.{IsCheckedOf}
use Rattle.dia_check.specs.Diagrams.{IsDiagramOf}
use Rattle.dia_check.specs.Faults.{part_fault, is_unknown}
use Rattle.dia_check.specs.RankFaults.{task_rank_fault, link_rank_fault, read_rank_fault, HasNoRankFault}
use Rattle.dia_check.specs.SameTasks.{HaveSameTasks}
use Rattle.dia_check.specs.Shapes.{IsShapeOf, HasLines, read_lines_of}
use Rattle.dia_check.proofs.Faultless.{IsFaultless, faultless, items-faultless, items-fine, no-line-fault}
use Rattle.dia_check.proofs.ReadLines.{lines-of-shape}

-- the diagram with this end
abbrev pub with_end : ℕ → Diagram → Diagram
with_end until d = record d { until = until }

module _ (a b : Body) where
  -- the second body with the policy, the declarations and the tasks of the first
  abbrev mixed : Body
  mixed = record b { policy = a.policy; decls = a.decls; tasks = a.tasks }

  unknown-same : (t : RawTask) (p : Part) → is_unknown mixed t p ≡ is_unknown a t p
  unknown-same t (State n first) = refl
  unknown-same t (Sense n input) = refl
  unknown-same t (Read n delay writer port at) = refl
  unknown-same t (Let n e) = refl
  unknown-same t (Next n e) = refl
  unknown-same t (Out n first e) = refl

  part-same : (t : RawTask) (before : List Part) (p : Part) → part_fault mixed t before p ≡ part_fault a t before p
  part-same t before p = rw (unknown-same t p) refl

  faultless-again : IsFaultless a → IsFaultless mixed
  faultless-again fine = record {
    decls = fine.decls;
    tasks = fine.tasks;
    parts = λ i j t p at at_part. part-same t (take j t.parts) p ∙ fine.parts i j t p at at_part;
  }

  diagram-again : (d : Diagram) → IsDiagramOf a d → IsDiagramOf mixed (with_end b.until d)
  diagram-again d is = record {
    policy = is.policy;
    until = refl;
    inputs = is.inputs;
    events = is.events;
    count = is.count;
    tasks = λ i raw t at there. record { is = (is.tasks i raw t at there).is; order = (is.tasks i raw t at there).order };
    links = is.links;
  }

  mixed-is : HaveSameTasks a b → mixed ≡ b
  mixed-is same = λ i. record b { policy = same.policy i; decls = same.decls i; tasks = same.tasks i }

-- no read line has a fault of ranks, whatever the numbers of the lines
links-none : {F : Type 0} (fault : ℕ → Option F) (xs ys : List ReadLine) → map (λ r. r.link) xs ≡ map (λ r. r.link) ys
    → first_fault (map (λ r. (r.line, fault r.link)) xs) ≡ None → first_fault (map (λ r. (r.line, fault r.link)) ys) ≡ None
links-none fault [] [] same none = refl
links-none fault [] (y ∷ ys) same none = absurd cc
links-none fault (x ∷ xs) [] same none = absurd cc
links-none fault (x ∷ xs) (y ∷ ys) same none =
    let first : x.link ≡ y.link = cc in
    let rest : map (λ r. r.link) xs ≡ map (λ r. r.link) ys = cc in
    let parts = cons-none x.line (fault x.link) (map (λ r. (r.line, fault r.link)) xs) none in
    let head : fault y.link ≡ None = ap fault (sym first) ∙ parts.0 in
    rw head (links-none fault xs ys rest parts.1)

module _ (doc other : Doc) where
  abbrev shaped_again : Shaped → Shaped
  shaped_again s = record { diagram = with_end other.body.until s.diagram; task_lines = other.lines.tasks; read_lines = read_lines_of other }

  shape-again : (s : Shaped) → HaveSameTasks doc.body other.body → HasItemLines doc → IsShapeOf doc s → IsShapeOf other (shaped_again s)
  shape-again s same items is =
      let body = mixed-is doc.body other.body same in
      let fine : IsFaultless other.body = subst IsFaultless body (faultless-again doc.body other.body (faultless doc items is.faultless.lines)) in
      record {
        faultless = record {
          lines = no-line-fault other fine;
          whole = λ i t at. is.faultless.whole i t (ap (λ (ts : List RawTask). slice_get ts i) same.tasks ∙ at);
        };
        diagram = subst (λ b. IsDiagramOf b (with_end other.body.until s.diagram)) body (diagram-again doc.body other.body s.diagram is.diagram);
        unranked = is.unranked;
        task_lines = refl;
        read_lines = refl;
      }

  ranks-again : (s : Shaped) → HasItemLines doc → HasItemLines other → IsShapeOf doc s → IsShapeOf other (shaped_again s) → HasNoRankFault s → HasNoRankFault (shaped_again s)
  ranks-again s items more is again none =
      let d = s.diagram in
      let ranks = ranks_of d.policy d.tasks in
      let fault = λ (before : List Task) (t : Task). task_rank_fault d.policy t in
      let both = append-none (faults_after fault [] d.tasks s.task_lines) (map (λ r. (r.line, read_rank_fault ranks d.links r)) s.read_lines) none in
      let here : HasLines s = lines-of-shape doc d s.task_lines s.read_lines items is.diagram is.task_lines is.read_lines in
      let there : HasLines (shaped_again s) = lines-of-shape other (with_end other.body.until d) other.lines.tasks (read_lines_of other) more again.diagram refl refl in
      first-append (faults_after fault [] d.tasks other.lines.tasks) (map (λ r. (r.line, read_rank_fault ranks d.links r)) (read_lines_of other))
      (items-fine fault [] d.tasks other.lines.tasks (items-faultless fault [] d.tasks s.task_lines (omega (arith, here.tasks)) both.0))
      ∙ links-none (λ k. option_and_then (link_rank_fault ranks) (slice_get d.links k)) s.read_lines (read_lines_of other) (here.reads ∙ sym there.reads) both.1

  pub shape-there : (s : Shaped) → HaveSameTasks doc.body other.body → HasItemLines doc → IsShapeOf doc s → (t : Shaped) × IsShapeOf other t × (t.diagram ≡ with_end other.body.until s.diagram)
  shape-there s same items is = (shaped_again s, shape-again s same items is, refl)

  pub checked-again : (d : Diagram) → HaveSameTasks doc.body other.body → HasItemLines doc → HasItemLines other → IsCheckedOf doc d → IsCheckedOf other (with_end other.body.until d)
  checked-again d same items more is =
      let again = shape-again is.shaped same items is.shape in
      record {
        shaped = shaped_again is.shaped;
        shape = again;
        ranks = ranks-again is.shaped items more is.shape again is.ranks;
        is = ap (with_end other.body.until) is.is;
      }

-- its end is the document's
pub checked-end : (doc : Doc) (d : Diagram) → IsCheckedOf doc d → d.until ≡ doc.body.until
checked-end doc d is = ap (λ e. e.until) is.is ∙ is.shape.diagram.until
