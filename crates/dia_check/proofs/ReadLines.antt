-- Going over the lines of bodies, to the read lines.
use Rattle.std.proofs.Common.{◌≡◌, ℕ, suc, ◌+◌, ◌<◌, ◌≤◌, List, [], ◌∷◌, ◌++◌, length, map, drop, get_or, slice_get, Some, refl, sym, ap, ◌∙◌, arith}
use Rattle.std.specs.Prelude.{sum_by}
use Rattle.std.specs.List.{flat_map}
use Rattle.std.proofs.lemmas.List.{append_assoc, length-drop, map-append}
use Rattle.std.proofs.lemmas.List.Sums.{sum_by-cons}
use Rattle.dbp_plan.specs.declared.diagram.Diagram.{Diagram}
use Rattle.dbp_plan.specs.declared.diagram.Task.{Task}
use Rattle.dbp_plan.proofs.ListParts.{split-at}
use Rattle.dia_lines.specs.declared.item.Part.{Part}
use Rattle.dia_lines.specs.declared.item.Part.TheVariants as part
use Rattle.dia_read.specs.declared.document.Doc.{Doc}
use Rattle.dia_read.specs.Printable.{HasItemLines}
use Rattle.dia_read.specs.declared.document.RawTask.{RawTask}
use Rattle.dia_check.specs.declared.shaped.ReadLine.{ReadLine}
use Rattle.dia_check.specs.Diagrams.{link_of, links_of, link_number, read_of, IsDiagramOf}
use Rattle.dia_check.specs.Shapes.{body_read_lines, read_lines_from, read_lines_of, HasLines}

module _ (tasks : List RawTask) (reader : ℕ) (ps : List Part) (ns : List ℕ) (k : ℕ) (p : Part) (n : ℕ) (in_ps : k < length ps) (in_ns : k < length ns) (is_p : p ≡ get_or ps k p) (is_n : n ≡ get_or ns k n) where
  from-here : body_read_lines tasks reader (drop k ps) (drop k ns)
      ≡ map (λ l. record { line = n; link = link_number (links_of tasks) l }) (link_of tasks reader p) ++ body_read_lines tasks reader (drop (k + 1) ps) (drop (k + 1) ns)
  from-here = rw (split-at ps k p in_ps is_p, split-at ns k n in_ns is_n) refl

  -- one more line of the body
  pub lines-next : (made : List ReadLine) → made ++ body_read_lines tasks reader (drop k ps) (drop k ns)
      ≡ (made ++ map (λ l. record { line = n; link = link_number (links_of tasks) l }) (link_of tasks reader p)) ++ body_read_lines tasks reader (drop (k + 1) ps) (drop (k + 1) ns)
  lines-next made =
      ap (λ ls. made ++ ls) from-here
      ∙ sym (append_assoc made (map (λ l. record { line = n; link = link_number (links_of tasks) l }) (link_of tasks reader p)) (body_read_lines tasks reader (drop (k + 1) ps) (drop (k + 1) ns)))

-- ---- each read line has the link of its read

body-links : (tasks : List RawTask) (reader : ℕ) (ps : List Part) (ns : List ℕ) → length ps ≤ length ns
    → map (λ r. r.link) (body_read_lines tasks reader ps ns) ≡ map (λ r. r.link) (flat_map (read_of tasks reader) ps)
body-links tasks reader [] ns few = refl
body-links tasks reader (p ∷ ps) [] few = absurd (omega arith)
body-links tasks reader (part.Read m d w q a ∷ ps) (n ∷ ns) few = rw (body-links tasks reader ps ns (omega arith)) refl
body-links tasks reader (part.State m v ∷ ps) (n ∷ ns) few = body-links tasks reader ps ns (omega arith)
body-links tasks reader (part.Sense m i ∷ ps) (n ∷ ns) few = body-links tasks reader ps ns (omega arith)
body-links tasks reader (part.Let m e ∷ ps) (n ∷ ns) few = body-links tasks reader ps ns (omega arith)
body-links tasks reader (part.Next m e ∷ ps) (n ∷ ns) few = body-links tasks reader ps ns (omega arith)
body-links tasks reader (part.Out m v e ∷ ps) (n ∷ ns) few = body-links tasks reader ps ns (omega arith)

links-from : (tasks : List RawTask) (number : ℕ) (raws : List RawTask) (ts : List Task) (ns : List ℕ) → length ts ≡ length raws → sum_by (λ t. length t.parts) raws ≤ length ns
    → ((i : ℕ) (raw : RawTask) (t : Task) → slice_get raws i ≡ Some raw → slice_get ts i ≡ Some t → t.reads ≡ flat_map (read_of tasks (number + i)) raw.parts)
    → map (λ r. r.link) (read_lines_from tasks number raws ns) ≡ flat_map (λ t. map (λ r. r.link) t.reads) ts
links-from tasks number [] [] ns count few reads = refl
links-from tasks number [] (t ∷ ts) ns count few reads = absurd (omega (arith, count))
links-from tasks number (raw ∷ raws) [] ns count few reads = absurd (omega (arith, count))
links-from tasks number (raw ∷ raws) (t ∷ ts) ns count few reads =
    let sum = sum_by-cons (λ (u : RawTask). length u.parts) raw raws in
    let this : length raw.parts ≤ length ns = omega (arith, sum, few) in
    let others : sum_by (λ u. length u.parts) raws ≤ length (drop (length raw.parts) ns) = omega (arith, sum, few, length-drop (length raw.parts) ns) in
    let number_is : number + 0 ≡ number = omega arith in
    let first : map (λ r. r.link) t.reads ≡ map (λ r. r.link) (flat_map (read_of tasks number) raw.parts) = ap (map (λ r. r.link)) (reads 0 raw t refl refl ∙ ap (λ (n : ℕ). flat_map (read_of tasks n) raw.parts) number_is) in
    map-append (λ r. r.link) (body_read_lines tasks number raw.parts ns) (read_lines_from tasks (number + 1) raws (drop (length raw.parts) ns))
    ∙ rw (body-links tasks number raw.parts ns this, first) (ap (λ (ls : List ℕ). map (λ r. r.link) (flat_map (read_of tasks number) raw.parts) ++ ls)
    (links-from tasks (number + 1) raws ts (drop (length raw.parts) ns) (omega (arith, count)) others (λ i other u at at_task.
    let next : number + suc i ≡ number + 1 + i = omega arith in
    reads (suc i) other u at at_task ∙ ap (λ (n : ℕ). flat_map (read_of tasks n) other.parts) next)))

pub lines-of-shape : (doc : Doc) (d : Diagram) (task_lines : List ℕ) (read_lines : List ReadLine) → HasItemLines doc → IsDiagramOf doc.body d → task_lines ≡ doc.lines.tasks → read_lines ≡ read_lines_of doc
    → HasLines (record { diagram = d; task_lines = task_lines; read_lines = read_lines })
lines-of-shape doc d task_lines read_lines lines is tasks reads = record {
  tasks = ap (λ (ns : List ℕ). length ns) tasks ∙ lines.tasks ∙ sym is.count;
  reads = ap (map (λ r. r.link)) reads ∙ links-from doc.body.tasks 0 doc.body.tasks d.tasks doc.lines.parts is.count (omega (arith, lines.parts)) (λ i raw t at at_task.
      let place : i ≡ 0 + i = omega arith in
      ap (λ u. u.reads) (is.tasks i raw t at at_task).is ∙ ap (λ (n : ℕ). flat_map (read_of doc.body.tasks n) raw.parts) place);
}
