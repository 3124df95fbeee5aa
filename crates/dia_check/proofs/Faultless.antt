-- No line of a document has a fault, item by item.
use Rattle.std.proofs.Common.{◌≡◌, ℕ, zero, suc, ◌+◌, ◌≤◌, List, [], ◌∷◌, ◌++◌, length, take, drop, slice_get, Option, Some, None, refl, sym, ◌∙◌, subst, arith}
use Rattle.std.specs.Prelude.{sum_by}
use Rattle.std.proofs.lemmas.List.{append-nil, append_assoc, length-drop}
use Rattle.std.proofs.lemmas.List.Sums.{sum_by-cons}
use Rattle.dia_lines.specs.declared.item.Decl.{Decl}
use Rattle.dia_lines.specs.declared.item.Part.{Part}
use Rattle.dia_read.specs.declared.document.Body.{Body}
use Rattle.dia_read.specs.declared.document.Doc.{Doc}
use Rattle.dia_read.specs.declared.document.RawTask.{RawTask}
use Rattle.dia_read.specs.Printable.{HasItemLines}
use Rattle.dia_check.specs.Faults.{decl_fault, task_fault, part_fault, task_faults, line_faults}
use Rattle.dbp_plan.proofs.FirstFaults.{append-none, cons-none, first-append}
use Rattle.dbp_plan.specs.FirstFault.{faults_after, first_fault}

-- no line of the body has a fault, item by item
pub record IsFaultless (body : Body) : Type 0 where
  pub decls : (i : ℕ) (d : Decl) → slice_get body.decls i ≡ Some d → decl_fault (take i body.decls) d ≡ None
  pub tasks : (i : ℕ) (t : RawTask) → slice_get body.tasks i ≡ Some t → task_fault body (take i body.tasks) t ≡ None
  pub parts : (i j : ℕ) (t : RawTask) (p : Part) → slice_get body.tasks i ≡ Some t → slice_get t.parts j ≡ Some p → part_fault body t (take j t.parts) p ≡ None

pub items-faultless : {A F : Type 0} (fault : List A → A → Option F) (before xs : List A) (ns : List ℕ) → length xs ≤ length ns → first_fault (faults_after fault before xs ns) ≡ None
    → (j : ℕ) (x : A) → slice_get xs j ≡ Some x → fault (before ++ take j xs) x ≡ None
items-faultless fault before [] ns few none j x at = absurd cc
items-faultless fault before (y ∷ xs) [] few none j x at = absurd (omega arith)
items-faultless fault before (y ∷ xs) (n ∷ ns) few none zero x at =
    let same : y ≡ x = cc in
    let here = (cons-none n (fault before y) (faults_after fault (before ++ y ∷ []) xs ns) none).0 in
    subst (λ z. fault (before ++ []) z ≡ None) same (subst (λ front. fault front y ≡ None) (sym (append-nil before)) here)
items-faultless fault before (y ∷ xs) (n ∷ ns) few none (suc j) x at =
    let rest = (cons-none n (fault before y) (faults_after fault (before ++ y ∷ []) xs ns) none).1 in
    subst (λ front. fault front x ≡ None) (append_assoc before (y ∷ []) (take j xs)) (items-faultless fault (before ++ y ∷ []) xs ns (omega arith) rest j x at)

-- the task and the lines of its body
abbrev OneFaultless : Body → List RawTask → RawTask → Type 0
OneFaultless body before t = (task_fault body before t ≡ None) × ((j : ℕ) (p : Part) → slice_get t.parts j ≡ Some p → part_fault body t (take j t.parts) p ≡ None)

enough : (t : RawTask) (ts : List RawTask) (parts : List ℕ) → sum_by (λ u. length u.parts) (t ∷ ts) ≤ length parts
    → (length t.parts ≤ length parts) × (sum_by (λ u. length u.parts) ts ≤ length (drop (length t.parts) parts))
enough t ts parts few =
    let sum = sum_by-cons (λ (u : RawTask). length u.parts) t ts in
    let whole : length t.parts + sum_by (λ u. length u.parts) ts ≤ length parts = omega (arith, sum, few) in
    (omega (arith, whole), omega (arith, whole, length-drop (length t.parts) parts))

tasks-faultless : (body : Body) (before ts : List RawTask) (ns parts : List ℕ) → length ts ≤ length ns → sum_by (λ t. length t.parts) ts ≤ length parts
    → first_fault (task_faults body before ts ns parts) ≡ None → (i : ℕ) (t : RawTask) → slice_get ts i ≡ Some t → OneFaultless body (before ++ take i ts) t
tasks-faultless body before [] ns parts few lines none i t at = absurd cc
tasks-faultless body before (u ∷ ts) [] parts few lines none i t at = absurd (omega arith)
tasks-faultless body before (u ∷ ts) (n ∷ ns) parts few lines none zero t at =
    let same : u ≡ t = cc in
    let here = cons-none n (task_fault body before u) _ none in
    let parted = append-none (faults_after (part_fault body u) [] u.parts parts) _ here.1 in
    subst (λ v. OneFaultless body (before ++ []) v) same
    (subst (λ front. OneFaultless body front u) (sym (append-nil before)) (here.0, items-faultless (part_fault body u) [] u.parts parts (enough u ts parts lines).0 parted.0))
tasks-faultless body before (u ∷ ts) (n ∷ ns) parts few lines none (suc i) t at =
    let here = cons-none n (task_fault body before u) _ none in
    let parted = append-none (faults_after (part_fault body u) [] u.parts parts) _ here.1 in
    subst (λ front. OneFaultless body front t) (append_assoc before (u ∷ []) (take i ts))
    (tasks-faultless body (before ++ u ∷ []) ts ns (drop (length u.parts) parts) (omega arith) (enough u ts parts lines).1 parted.1 i t at)

pub faultless : (doc : Doc) → HasItemLines doc → first_fault (line_faults doc) ≡ None → IsFaultless doc.body
faultless doc lines none =
    let body = doc.body in
    let both = append-none (faults_after decl_fault [] body.decls doc.lines.decls) (task_faults body [] body.tasks doc.lines.tasks doc.lines.parts) none in
    let each = tasks-faultless body [] body.tasks doc.lines.tasks doc.lines.parts (omega (arith, lines.tasks)) (omega (arith, lines.parts)) both.1 in
    record {
      decls = items-faultless decl_fault [] body.decls doc.lines.decls (omega (arith, lines.decls)) both.0;
      tasks = λ i t at. (each i t at).0;
      parts = λ i j t p at at_part. (each i t at).1 j p at_part;
    }

-- ---- and so none is found, whatever the numbers of the lines

pub items-fine : {A F : Type 0} (fault : List A → A → Option F) (before xs : List A) (ns : List ℕ) → ((j : ℕ) (x : A) → slice_get xs j ≡ Some x → fault (before ++ take j xs) x ≡ None)
    → first_fault (faults_after fault before xs ns) ≡ None
items-fine fault before [] ns each = refl
items-fine fault before (x ∷ xs) [] each = refl
items-fine fault before (x ∷ xs) (n ∷ ns) each =
    let here : fault before x ≡ None = subst (λ front. fault front x ≡ None) (append-nil before) (each 0 x refl) in
    rw here (items-fine fault (before ++ x ∷ []) xs ns (λ j y at. subst (λ front. fault front y ≡ None) (sym (append_assoc before (x ∷ []) (take j xs))) (each (suc j) y at)))

tasks-fine : (body : Body) (before ts : List RawTask) (ns parts : List ℕ) → ((i : ℕ) (t : RawTask) → slice_get ts i ≡ Some t → OneFaultless body (before ++ take i ts) t)
    → first_fault (task_faults body before ts ns parts) ≡ None
tasks-fine body before [] ns parts each = refl
tasks-fine body before (t ∷ ts) [] parts each = refl
tasks-fine body before (t ∷ ts) (n ∷ ns) parts each =
    let this : OneFaultless body before t = subst (λ front. OneFaultless body front t) (append-nil before) (each 0 t refl) in
    let later = drop (length t.parts) parts in
    let rest = tasks-fine body (before ++ t ∷ []) ts ns later (λ i u at. subst (λ front. OneFaultless body front u) (sym (append_assoc before (t ∷ []) (take i ts))) (each (suc i) u at)) in
    rw this.0 (first-append (faults_after (part_fault body t) [] t.parts parts) (task_faults body (before ++ t ∷ []) ts ns later) (items-fine (part_fault body t) [] t.parts parts this.1) ∙ rest)

pub no-line-fault : (doc : Doc) → IsFaultless doc.body → first_fault (line_faults doc) ≡ None
no-line-fault doc fine =
    let body = doc.body in
    first-append (faults_after decl_fault [] body.decls doc.lines.decls) (task_faults body [] body.tasks doc.lines.tasks doc.lines.parts) (items-fine decl_fault [] body.decls doc.lines.decls fine.decls)
    ∙ tasks-fine body [] body.tasks doc.lines.tasks doc.lines.parts (λ i t at. (fine.tasks i t at, λ j p at_part. fine.parts i j t p at at_part))
