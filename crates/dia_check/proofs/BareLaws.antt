-- The shape of a document depends on its bare body.
use Rattle.std.proofs.Common.{◌≡◌, ℕ, ◌+◌, List, [], ◌∷◌, ◌++◌, length, map, drop, get_or, slice_get, option_map, Option, Some, refl, sym, ap, ◌∙◌, subst, inl, inr}
use Rattle.std.specs.Str.{bytes_eq}
use Rattle.std.proofs.lemmas.Bool.{cases_Bool}
use Rattle.std.proofs.lemmas.List.{length-map, map-append}
use Rattle.std.proofs.lemmas.Option.{slice_get-map}
use Rattle.dbp_plan.specs.declared.diagram.Diagram.{Diagram}
use Rattle.dbp_plan.specs.declared.diagram.Task.{Task}
use Rattle.dbp_plan.specs.BareDiagrams.{bare_task, bare_diagram}
use Rattle.dbp_plan.specs.FirstFault.{faults_after, first_fault}
use Rattle.dbp_plan.proofs.ListMaps.{from-map, same-flat_map}
use Rattle.dia_lines.specs.declared.item.Part.{Part}
use Rattle.dia_lines.specs.declared.item.Part.TheVariants as part
use Rattle.dia_read.specs.declared.document.Body.{Body}
use Rattle.dia_read.specs.declared.document.Doc.{Doc}
use Rattle.dia_read.specs.declared.document.RawTask.{RawTask}
use Rattle.dia_check.specs.declared.fail.LineFault.{LineFault}
use Rattle.dia_check.specs.declared.shaped.Shaped.{Shaped}
use Rattle.dia_check.specs.BareBodies.{bare_raw_task, bare_body, HaveSameBareBody, StandOnSameLines}
use Rattle.dia_check.specs.Diagrams.{link_of, links_used, firsts, links_of, read_of, task_of, IsTaskOf, IsDiagramOf}
use Rattle.dia_check.specs.Faults.{decl_fault, task_fault, part_fault, task_faults, line_faults, IsWhole, HasNoShapeFault}
use Rattle.dia_check.specs.Names.{task_names, port_names}
use Rattle.dia_check.specs.Shapes.{IsShapeOf}
use Rattle.dia_check.proofs.ShapeLaws.{HaveOneOrder, same-diagram}

-- ---- names, links and reads

same-names : (ts : List RawTask) → task_names (map bare_raw_task ts) ≡ task_names ts
same-names [] = refl
same-names (t ∷ ts) = ap (λ ns. t.name ∷ ns) (same-names ts)

same-ports : (ts : List RawTask) (w : List ℕ) → port_names (map bare_raw_task ts) w ≡ port_names ts w
same-ports [] w = refl
same-ports (t ∷ ts) w = elim (cases_Bool (bytes_eq t.name w)) [
  | inl is ↦ rw (is, port_names) refl
  | inr isnt ↦ rw (isnt, port_names) (same-ports ts w)
]

same-link : (ts : List RawTask) (reader : ℕ) (p : Part) → link_of (map bare_raw_task ts) reader p ≡ link_of ts reader p
same-link ts reader (part.Read n d w q a) = rw (same-names ts) refl
same-link ts reader _ = refl

same-used : (all : List RawTask) (number : ℕ) (ts : List RawTask) → links_used (map bare_raw_task all) number (map bare_raw_task ts) ≡ links_used all number ts
same-used all number [] = refl
same-used all number (t ∷ ts) =
    rw (same-flat_map (link_of (map bare_raw_task all) number) (link_of all number) t.parts (λ k d below. same-link all number (get_or t.parts k d)), same-used all (number + 1) ts) refl

same-links : (ts : List RawTask) → links_of (map bare_raw_task ts) ≡ links_of ts
same-links ts = ap firsts (same-used ts 0 ts)

same-read : (ts : List RawTask) (reader : ℕ) (p : Part) → read_of (map bare_raw_task ts) reader p ≡ read_of ts reader p
same-read ts reader (part.Read n d w q a) = rw (same-names ts, same-links ts, same-ports ts w) refl
same-read ts reader _ = refl

-- ---- the diagram

same-task : (body : Body) (number : ℕ) (raw : RawTask) (order : List ℕ) → bare_task (task_of body number raw order) ≡ task_of (bare_body body) number (bare_raw_task raw) order
same-task body number raw order =
    rw (same-flat_map (read_of (map bare_raw_task body.tasks) number) (read_of body.tasks number) raw.parts (λ k d below. same-read body.tasks number (get_or raw.parts k d))) refl

task-is : (body : Body) (number : ℕ) (raw : RawTask) (t : Task) → IsTaskOf body number raw t → IsTaskOf (bare_body body) number (bare_raw_task raw) (bare_task t)
task-is body number raw t is = record { is = ap bare_task is.is ∙ same-task body number raw t.order; order = is.order }

diagram-is : (body : Body) (d : Diagram) → IsDiagramOf body d → IsDiagramOf (bare_body body) (bare_diagram d)
diagram-is body d is = record {
  policy = refl;
  until = refl;
  inputs = is.inputs;
  events = is.events;
  count = length-map d.tasks bare_task ∙ is.count ∙ sym (length-map body.tasks bare_raw_task);
  tasks = λ i raw t at at_task.
      let r : (r : RawTask) × (slice_get body.tasks i ≡ Some r) × (bare_raw_task r ≡ raw) = from-map bare_raw_task body.tasks i raw at in
      let u : (u : Task) × (slice_get d.tasks i ≡ Some u) × (bare_task u ≡ t) = from-map bare_task d.tasks i t at_task in
      subst (λ v. IsTaskOf (bare_body body) i raw v) u.2
      (subst (λ q. IsTaskOf (bare_body body) i q (bare_task u.0)) r.2 (task-is body i r.0 u.0 (is.tasks i r.0 u.0 r.1 u.1)));
  links = is.links ∙ sym (same-links body.tasks);
}

pub same-bare-diagrams : HaveOneOrder → (a b : Doc) (s t : Shaped) → HaveSameBareBody a b → IsShapeOf a s → IsShapeOf b t → bare_diagram s.diagram ≡ bare_diagram t.diagram
same-bare-diagrams law a b s t same one other =
    let moved : IsDiagramOf (bare_body a.body) (bare_diagram t.diagram) =
    subst (λ (body : Body). IsDiagramOf body (bare_diagram t.diagram)) (sym same) (diagram-is b.body t.diagram other.diagram) in
    same-diagram law (bare_body a.body) (bare_diagram s.diagram) (bare_diagram t.diagram) (diagram-is a.body s.diagram one.diagram) moved refl

-- ---- faults

same-part-fault : (body : Body) (t : RawTask) (before : List Part) (p : Part) → part_fault (bare_body body) (bare_raw_task t) before p ≡ part_fault body t before p
same-part-fault body t before (part.Read n d w q a) = rw (same-ports body.tasks w) refl
same-part-fault body t before (part.State n v) = refl
same-part-fault body t before (part.Sense n i) = refl
same-part-fault body t before (part.Let n e) = refl
same-part-fault body t before (part.Next n e) = refl
same-part-fault body t before (part.Out n v e) = refl

same-task-fault : (body : Body) (before : List RawTask) (t : RawTask) → task_fault (bare_body body) (map bare_raw_task before) (bare_raw_task t) ≡ task_fault body before t
same-task-fault body before t = rw (same-names before) refl

same-after : {A F : Type 0} (f g : List A → A → Option F) → ((before : List A) (x : A) → f before x ≡ g before x) → (before xs : List A) (ns : List ℕ) → faults_after f before xs ns ≡ faults_after g before xs ns
same-after f g same before [] ns = refl
same-after f g same before (x ∷ xs) [] = refl
same-after f g same before (x ∷ xs) (n ∷ ns) = rw (same before x, same-after f g same (before ++ x ∷ []) xs ns) refl

same-task-faults : (body : Body) (before ts : List RawTask) (ns parts : List ℕ)
    → task_faults (bare_body body) (map bare_raw_task before) (map bare_raw_task ts) ns parts ≡ task_faults body before ts ns parts
same-task-faults body before [] ns parts = refl
same-task-faults body before (t ∷ ts) [] parts = refl
same-task-faults body before (t ∷ ts) (n ∷ ns) parts =
    let later : List ℕ = drop (length t.parts) parts in
    let rest : task_faults (bare_body body) (map bare_raw_task before ++ bare_raw_task t ∷ []) (map bare_raw_task ts) ns later ≡ task_faults body (before ++ t ∷ []) ts ns later =
    subst (λ front. task_faults (bare_body body) front (map bare_raw_task ts) ns later ≡ task_faults body (before ++ t ∷ []) ts ns later) (map-append bare_raw_task before (t ∷ []))
    (same-task-faults body (before ++ t ∷ []) ts ns later) in
    rw (same-task-fault body before t, same-after (part_fault (bare_body body) (bare_raw_task t)) (part_fault body t) (same-part-fault body t) [] t.parts parts, rest) refl

abbrev faults_of : Body → List ℕ → List ℕ → List ℕ → List (ℕ × Option LineFault)
faults_of body decls tasks parts = faults_after decl_fault [] body.decls decls ++ task_faults body [] body.tasks tasks parts

same-faults : (body : Body) (decls tasks parts : List ℕ) → faults_of (bare_body body) decls tasks parts ≡ faults_of body decls tasks parts
same-faults body decls tasks parts = ap (λ fs. faults_after decl_fault [] body.decls decls ++ fs) (same-task-faults body [] body.tasks tasks parts)

pub same-line-faults : (a b : Doc) → HaveSameBareBody a b → StandOnSameLines a b → line_faults a ≡ line_faults b
same-line-faults a b same lines =
    sym (same-faults a.body a.lines.decls a.lines.tasks a.lines.parts)
    ∙ ap (λ (body : Body). faults_of body a.lines.decls a.lines.tasks a.lines.parts) same
    ∙ rw (lines.decls, lines.tasks, lines.parts) (same-faults b.body b.lines.decls b.lines.tasks b.lines.parts)

bare-whole : (t : RawTask) → IsWhole t → IsWhole (bare_raw_task t)
bare-whole t is = record { outs = is.outs; lets = is.lets }

whole-again : (t : RawTask) → IsWhole (bare_raw_task t) → IsWhole t
whole-again t is = record { outs = is.outs; lets = is.lets }

pub same-faultless : (a b : Doc) → HaveSameBareBody a b → StandOnSameLines a b → HasNoShapeFault a → HasNoShapeFault b
same-faultless a b same lines none = record {
  lines = ap first_fault (sym (same-line-faults a b same lines)) ∙ none.lines;
  whole = λ i t at.
      let there : slice_get (map bare_raw_task a.body.tasks) i ≡ Some (bare_raw_task t) =
      ap (λ (body : Body). slice_get body.tasks i) same ∙ slice_get-map bare_raw_task b.body.tasks i ∙ ap (option_map bare_raw_task) at in
      let r : (r : RawTask) × (slice_get a.body.tasks i ≡ Some r) × (bare_raw_task r ≡ bare_raw_task t) = from-map bare_raw_task a.body.tasks i (bare_raw_task t) there in
      whole-again t (subst IsWhole r.2 (bare-whole r.0 (none.whole i r.0 r.1)));
}
