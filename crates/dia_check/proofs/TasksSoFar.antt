-- Going over tasks in order, as they are made.
use Rattle.std.proofs.Common.{◌≡◌, ℕ, zero, suc, ◌+◌, ◌<◌, ◌≤◌, List, [], ◌∷◌, ◌++◌, length, take, drop, get_or, slice_get, Some, None, ◌⊎◌, inl, inr, refl, sym, ap, ◌∙◌, subst, arith, length-append}
use Rattle.std.specs.Prelude.{sum_by}
use Rattle.std.proofs.lemmas.Bool.{cases_order}
use Rattle.std.proofs.lemmas.List.Sums.{sum_by_push, sum_by-take-drop, sum_by-drop_more}
use Rattle.std.proofs.lemmas.List.{append-nil, append_assoc, length-drop, drop-drop, take_all}
use Rattle.std.proofs.lemmas.Option.{slice_get_read, slice_get_within, slice_get-get_or, same_Some}
use Rattle.dbp_plan.specs.declared.diagram.Link.{Link}
use Rattle.dbp_plan.specs.declared.diagram.Task.{Task}
use Rattle.dbp_plan.specs.FirstFault.{first_fault}
use Rattle.dbp_plan.proofs.ListParts.{nothing-after, split-at, take-next}
use Rattle.dia_read.specs.declared.document.Doc.{Doc}
use Rattle.dia_read.specs.declared.document.RawTask.{RawTask}
use Rattle.dia_read.specs.Printable.{HasItemLines, IsPrintable}
use Rattle.dia_check.specs.declared.fail.CheckCode.{CheckCode}
use Rattle.dia_check.specs.declared.fail.CheckFail.{CheckFail}
use Rattle.dia_check.specs.declared.fail.CheckFail.TheVariants.{Refused, NoMemory}
use Rattle.dia_check.specs.declared.reads.ReadLinks.{ReadLinks}
use Rattle.dia_check.specs.declared.shaped.ReadLine.{ReadLine}
use Rattle.dia_check.specs.Scopes.{HasLinksBefore, IsTaskRefusal}
use Rattle.dia_check.specs.Diagrams.{IsTaskOf, firsts, links_of, links_used}
use Rattle.dia_check.specs.Faults.{IsWhole, HasTaskFault, part_lines, line_faults, IsShapeFault, of_a_task}
use Rattle.dia_check.specs.Shapes.{AreTasksOf, AreWhole, IsShapeRefusal, body_read_lines, read_lines_from, read_lines_of}
use Rattle.dia_check.proofs.Closedness.{few-parts}

data Pushed {A : Type 0} (made : List A) (x : A) (i : ℕ) (y : A) : Type 0 where
  before : slice_get made i ≡ Some y → Pushed made x i y
  last : i ≡ length made → x ≡ y → Pushed made x i y

pushed : {A : Type 0} (made : List A) (x : A) (i : ℕ) (y : A) → slice_get (made ++ x ∷ []) i ≡ Some y → Pushed made x i y
pushed [] x zero y at = last refl (same_Some x y at)
pushed [] x (suc i) y at = absurd cc
pushed (z ∷ made) x zero y at = before at
pushed (z ∷ made) x (suc i) y at = elim (pushed made x i y at) [
  | before is ↦ before is
  | last is same ↦ last (ap (λ (k : ℕ). suc k) is) same
]

module _ (doc : Doc) where
  pub record TasksSoFar (k : ℕ) (made : List Task) (rest : List ℕ) : Type 0 where
    pub count : length made ≡ k
    pub each : (i : ℕ) (raw : RawTask) (t : Task) → slice_get doc.body.tasks i ≡ Some raw → slice_get made i ≡ Some t → IsTaskOf doc.body i raw t
    pub whole : (i : ℕ) (u : RawTask) → i < k → slice_get doc.body.tasks i ≡ Some u → IsWhole u
    pub rest_is : rest ≡ part_lines doc k

  pub tasks_begin : TasksSoFar 0 [] doc.lines.parts
  tasks_begin = record {
    count = refl;
    each = λ i raw t at at_made. absurd cc;
    whole = λ i u below at. absurd (omega (arith, below));
    rest_is = refl;
  }

  module _ (k : ℕ) (made : List Task) (rest : List ℕ) (from : TasksSoFar k made rest) (raw : RawTask) (below : k < length doc.body.tasks) (is : raw ≡ get_or doc.body.tasks k raw) where
    pub at-place : slice_get doc.body.tasks k ≡ Some raw
    at-place = slice_get_read doc.body.tasks (length doc.body.tasks) k raw refl below is

    pub sum-more : sum_by (λ t. length t.parts) (take (k + 1) doc.body.tasks) ≡ sum_by (λ t. length t.parts) (take k doc.body.tasks) + length raw.parts
    sum-more = ap (sum_by (λ t. length t.parts)) (take-next doc.body.tasks k raw below is) ∙ sum_by_push (λ (t : RawTask). length t.parts) (take k doc.body.tasks) raw

    pub room : IsPrintable doc.body → sum_by (λ t. length t.parts) (take k doc.body.tasks) + length raw.parts ≤ 2048
    room printable =
        let parts : RawTask → ℕ = λ t. length t.parts in
        let this : parts (get_or doc.body.tasks k raw) ≡ length raw.parts = ap parts (sym is) in
        omega (arith, few-parts doc.body printable, sum_by-take-drop parts doc.body.tasks k, sum_by-drop_more parts doc.body.tasks k raw below, this)

    pub found-next : (f g : ReadLinks) → HasLinksBefore doc k rest f → g.links ≡ firsts (links_used doc.body.tasks 0 (take (k + 1) doc.body.tasks))
        → g.lines ≡ f.lines ++ body_read_lines doc.body.tasks k raw.parts rest → (length g.links ≤ length f.links + length raw.parts) × (length g.lines ≤ length f.lines + length raw.parts)
        → HasLinksBefore doc (k + 1) (drop (length raw.parts) rest) g
    found-next f g from_f links lines few =
        let tasks = doc.body.tasks in
        let later = read_lines_from tasks (k + 1) (drop (k + 1) tasks) (drop (length raw.parts) rest) in
        record {
          links = links;
          lines =
              from_f.lines ∙ ap (λ ts. f.lines ++ read_lines_from tasks k ts rest) (split-at tasks k raw below is)
              ∙ sym (append_assoc f.lines (body_read_lines tasks k raw.parts rest) later) ∙ ap (λ ls. ls ++ later) (sym lines);
          few_links = omega (arith, few.0, from_f.few_links, sum-more);
          few_lines = omega (arith, few.1, from_f.few_lines, sum-more);
        }

    -- the body's lines are there
    pub lines-there : HasItemLines doc → length raw.parts ≤ length rest
    lines-there lines =
        let parts : RawTask → ℕ = λ t. length t.parts in
        let long : length rest ≡ length (part_lines doc k) = ap (λ (ns : List ℕ). length ns) from.rest_is in
        let after : sum_by parts (drop k doc.body.tasks) ≡ parts (get_or doc.body.tasks k raw) + sum_by parts (drop (k + 1) doc.body.tasks) = sum_by-drop_more parts doc.body.tasks k raw below in
        let this : parts (get_or doc.body.tasks k raw) ≡ length raw.parts = ap parts (sym is) in
        omega (arith, long, length-drop (sum_by parts (take k doc.body.tasks)) doc.lines.parts, sum_by-take-drop parts doc.body.tasks k, after, this, lines.parts)

    pub tasks-next : (t : Task) → IsTaskOf doc.body k raw t → IsWhole raw → TasksSoFar (k + 1) (made ++ t ∷ []) (drop (length raw.parts) rest)
    tasks-next t task whole = record {
      count = omega (arith, length-append made (t ∷ []), from.count);
      each = λ i other u at at_made. elim (pushed made t i u at_made) [
        | before at_front ↦ from.each i other u at at_front
        | last there same ↦
            let place : k ≡ i = omega (arith, there, from.count) in
            let raw_is : raw ≡ other = same_Some raw other (sym at-place ∙ ap (λ (j : ℕ). slice_get doc.body.tasks j) place ∙ at) in
            subst (λ v. IsTaskOf doc.body i other v) same (subst (λ r. IsTaskOf doc.body i r t) raw_is (subst (λ (j : ℕ). IsTaskOf doc.body j raw t) place task))
      ];
      whole = λ i u under at. elim (split i under) [
        | inl before_it ↦ from.whole i u before_it at
        | inr place ↦ subst (λ r. IsWhole r) (same_Some raw u (sym at-place ∙ ap (λ (j : ℕ). slice_get doc.body.tasks j) (sym place) ∙ at)) whole
      ];
      rest_is = ap (drop (length raw.parts)) from.rest_is ∙ drop-drop (length raw.parts) (sum_by (λ t. length t.parts) (take k doc.body.tasks)) doc.lines.parts ∙ ap (λ (n : ℕ). drop n doc.lines.parts) (sym sum-more);
    }
      where
        split : (i : ℕ) → i < k + 1 → (i < k) ⊎ (i ≡ k)
        split i under = elim (cases_order i k) [ inl same ↦ inr same | inr (inl less) ↦ inl less | inr (inr more) ↦ absurd (omega (arith, under, more)) ]

    -- the task has the first fault
    tasks-fault : HasItemLines doc → first_fault (line_faults doc) ≡ None → (line : ℕ) (code : CheckCode) → HasTaskFault raw (get_or doc.lines.tasks k 0) rest line code → IsShapeFault doc line code
    tasks-fault lines none line code fault =
        let in_lines : k < length doc.lines.tasks = omega (arith, below, lines.tasks) in
        of_a_task k (get_or doc.lines.tasks k 0) line raw code none at-place (slice_get-get_or doc.lines.tasks k 0 in_lines) from.whole
        (subst (λ ns. HasTaskFault raw (get_or doc.lines.tasks k 0) ns line code) from.rest_is fault)

    pub tasks-refused : HasItemLines doc → first_fault (line_faults doc) ≡ None → (fail : CheckFail) → IsTaskRefusal raw (get_or doc.lines.tasks k 0) rest fail → IsShapeRefusal doc fail
    tasks-refused lines none (Refused line code) fault = tasks-fault lines none line code fault
    tasks-refused lines none NoMemory fault = tt

  pub found-begins : (f : ReadLinks) → f.links ≡ [] → f.lines ≡ [] → HasLinksBefore doc 0 doc.lines.parts f
  found-begins f links lines = record {
    links = links;
    lines = ap (λ ls. ls ++ read_lines_of doc) (sym lines);
    few_links = omega (arith, ap (λ (ls : List Link). length ls) links);
    few_lines = omega (arith, ap (λ (ls : List ReadLine). length ls) lines);
  }

  pub found-all : (k : ℕ) (rest : List ℕ) (f : ReadLinks) → HasLinksBefore doc k rest f → k ≡ length doc.body.tasks → (f.links ≡ links_of doc.body.tasks) × (f.lines ≡ read_lines_of doc)
  found-all k rest f from_f end =
      let tasks = doc.body.tasks in (
        from_f.links ∙ ap (λ ts. firsts (links_used tasks 0 ts)) (take_all k tasks (omega (arith, end))),
        sym (from_f.lines ∙ ap (λ ts. f.lines ++ read_lines_from tasks k ts rest) (nothing-after tasks k (omega (arith, end))) ∙ append-nil f.lines),
      )

  pub tasks-all : (k : ℕ) (made : List Task) (rest : List ℕ) → TasksSoFar k made rest → k ≡ length doc.body.tasks → AreTasksOf doc.body made × AreWhole doc.body.tasks
  tasks-all k made rest from end = (record { count = from.count ∙ end; each = from.each }, λ i t at. from.whole i t (omega (arith, end, slice_get_within doc.body.tasks i t at)) at)
