-- A document says one diagram at most, and none if it has a fault; its first fault is one except for the names of a cycle.
use Rattle.std.proofs.Common.{◌≡◌, ℕ, suc, ◌<◌, List, [], ◌∷◌, length, slice_get, Option, Some, None, refl, sym, ap, ◌∙◌, subst, arith, inl, inr}
use Rattle.std.proofs.lemmas.Bool.{cases_order}
use Rattle.std.proofs.lemmas.Option.{none-some, same_Some}
use Rattle.dbp_plan.specs.Closed.{let_base}
use Rattle.dbp_plan.specs.declared.diagram.Diagram.{Diagram}
use Rattle.dbp_plan.specs.declared.diagram.Let.{Let}
use Rattle.dbp_plan.specs.declared.diagram.Task.{Task}
use Rattle.dbp_plan.specs.FirstFault.{first_fault}
use Rattle.dia_read.specs.declared.document.Body.{Body}
use Rattle.dia_read.specs.declared.document.Doc.{Doc}
use Rattle.dia_read.specs.declared.document.RawTask.{RawTask}
use Rattle.expr_eval.specs.LetOrders.{IsFrontOrder, IsFirstCycle}
use Rattle.dia_check.specs.declared.fail.CheckCode.{CheckCode}
use Rattle.dia_check.specs.declared.fail.CheckCode.TheVariants.{NoOut}
use Rattle.dia_check.specs.declared.fail.LineFault.{LineFault}
use Rattle.dia_check.specs.declared.shaped.Shaped.{Shaped}
use Rattle.dia_check.specs.Diagrams.{lets_of, task_of, IsTaskOf, IsDiagramOf}
use Rattle.dia_check.specs.Faults.{code_of, IsSameCode, same, cycles, line_faults, let_lines, base_of, part_lines, IsWhole, HasTaskFault, no_out, a_cycle, HasNoShapeFault, IsShapeFault, of_a_line, of_a_task}
use Rattle.dia_check.specs.Shapes.{IsShapeOf}
use Rattle.dia_check.specs.Checks.{IsCheckFault, of_shape, of_ranks}
use Rattle.dia_check.specs.RankFaults.{IsRankFault, code_of_rank}

-- ---- one diagram

-- lists of one length are the same if their items are
same-items : {A B : Type 0} (raws : List A) (xs ys : List B) → length xs ≡ length raws → length ys ≡ length raws
    → ((i : ℕ) (raw : A) (x y : B) → slice_get raws i ≡ Some raw → slice_get xs i ≡ Some x → slice_get ys i ≡ Some y → x ≡ y) → xs ≡ ys
same-items raws [] [] one other each = refl
same-items [] [] (y ∷ ys) one other each = absurd (omega (arith, other))
same-items [] (x ∷ xs) ys one other each = absurd (omega (arith, one))
same-items (raw ∷ raws) [] (y ∷ ys) one other each = absurd (omega (arith, one))
same-items (raw ∷ raws) (x ∷ xs) [] one other each = absurd (omega (arith, other))
same-items (raw ∷ raws) (x ∷ xs) (y ∷ ys) one other each =
    let rest : xs ≡ ys = same-items raws xs ys (omega (arith, one)) (omega (arith, other)) (λ i a b c at_a at_b at_c. each (suc i) a b c at_a at_b at_c) in
    let first : x ≡ y = each 0 raw x y refl refl refl in
    λ i. first i ∷ rest i

-- lets have one order from the front at most
abbrev pub HaveOneOrder : Type 0
HaveOneOrder = (base : ℕ) (lets : List Let) (one other : List ℕ) → IsFrontOrder base lets one → IsFrontOrder base lets other → one ≡ other

same-task : HaveOneOrder → (body : Body) (number : ℕ) (raw : RawTask) (t u : Task) → IsTaskOf body number raw t → IsTaskOf body number raw u → t ≡ u
same-task law body number raw t u one other =
    let first = subst (λ v. IsFrontOrder (let_base v) v.lets t.order) one.is one.order in
    let second = subst (λ v. IsFrontOrder (let_base v) v.lets u.order) other.is other.order in
    let order : t.order ≡ u.order = law (let_base (task_of body number raw t.order)) (lets_of raw) t.order u.order first second in
    one.is ∙ ap (task_of body number raw) order ∙ sym other.is

pub same-diagram : HaveOneOrder → (body : Body) (d e : Diagram) → IsDiagramOf body d → IsDiagramOf body e → d.ranks ≡ e.ranks → d ≡ e
same-diagram law body d e one other ranks =
    let policy : d.policy ≡ e.policy = one.policy ∙ sym other.policy in
    let until : d.until ≡ e.until = one.until ∙ sym other.until in
    let inputs : d.inputs ≡ e.inputs = one.inputs ∙ sym other.inputs in
    let events : d.events ≡ e.events = one.events ∙ sym other.events in
    let tasks : d.tasks ≡ e.tasks =
    same-items body.tasks d.tasks e.tasks one.count other.count (λ i raw t u at at_t at_u. same-task law body i raw t u (one.tasks i raw t at at_t) (other.tasks i raw u at at_u)) in
    let links : d.links ≡ e.links = one.links ∙ sym other.links in
    λ i. record { policy = policy i; until = until i; inputs = inputs i; events = events i; tasks = tasks i; links = links i; ranks = ranks i }

pub one-shape : HaveOneOrder → (doc : Doc) (s t : Shaped) → IsShapeOf doc s → IsShapeOf doc t → s ≡ t
one-shape law doc s t one other =
    let diagram : s.diagram ≡ t.diagram = same-diagram law doc.body s.diagram t.diagram one.diagram other.diagram (one.unranked ∙ sym other.unranked) in
    let task_lines : s.task_lines ≡ t.task_lines = one.task_lines ∙ sym other.task_lines in
    let read_lines : s.read_lines ≡ t.read_lines = one.read_lines ∙ sym other.read_lines in
    λ i. record { diagram = diagram i; task_lines = task_lines i; read_lines = read_lines i }

-- ---- one first fault

whole-or-fault : (t : RawTask) (line : ℕ) (parts : List ℕ) (at : ℕ) (code : CheckCode) → IsWhole t → HasTaskFault t line parts at code → ⊥
whole-or-fault t line parts at code whole (no_out none) = whole.outs none
whole-or-fault t line parts at code whole (a_cycle _ first cycle names some is named there) = whole.lets cycle is.is.is

pub no-fault-of-a-shape : (doc : Doc) (line : ℕ) (code : CheckCode) → HasNoShapeFault doc → IsShapeFault doc line code → ⊥
no-fault-of-a-shape doc line code faultless (of_a_line _ fault at) = none-some (line, fault) (sym faultless.lines ∙ at)
no-fault-of-a-shape doc line code faultless (of_a_task i begins _ t _ none at at_line earlier fault) = whole-or-fault t begins (part_lines doc i) line code (faultless.whole i t at) fault

-- one let at most is the first on a cycle
same-first-let : (base : ℕ) (lets : List Let) (i j : ℕ) (one other : List ℕ) → IsFirstCycle base lets i one → IsFirstCycle base lets j other → i ≡ j
same-first-let base lets i j one other first second = elim (cases_order i j) [
  | inl equal ↦ equal
  | inr (inl less) ↦ absurd (second.earliest i less (one, first.is))
  | inr (inr more) ↦ absurd (first.earliest j more (other, second.is))
]

-- the same line, and the same code except for the names of a cycle
abbrev pub AreAlike : ℕ → CheckCode → ℕ → CheckCode → Type 0
AreAlike line code other another = (line ≡ other) × IsSameCode code another

alike : (code another : CheckCode) → code ≡ another → IsSameCode code another
alike code another is = subst (IsSameCode code) is (same code)

same-task-fault : (t : RawTask) (begins : ℕ) (parts : List ℕ) (line other : ℕ) (code another : CheckCode) → HasTaskFault t begins parts line code → HasTaskFault t begins parts other another
    → AreAlike line code other another
same-task-fault t begins parts line other code another (no_out none) (no_out empty) = (refl, same NoOut)
same-task-fault t begins parts line other code another (no_out none) (a_cycle _ first cycle names some is named there) = absurd (some none)
same-task-fault t begins parts line other code another (a_cycle _ first cycle names some is named there) (no_out none) = absurd (some none)
same-task-fault t begins parts line other code another (a_cycle _ first cycle names some is named there) (a_cycle _ second cycle' names' some' is' named' there') =
    let one : first ≡ second = same-first-let (base_of t) (lets_of t) first second cycle cycle' is is' in
    (same_Some line other (sym there ∙ ap (slice_get (let_lines t.parts parts)) one ∙ there'), cycles names names')

-- one task at most is the first that isn't whole
same-first-task : (doc : Doc) (i k begins starts line other : ℕ) (t u : RawTask) (code another : CheckCode)
    → slice_get doc.body.tasks i ≡ Some t → ((j : ℕ) (v : RawTask) → j < i → slice_get doc.body.tasks j ≡ Some v → IsWhole v) → HasTaskFault t begins (part_lines doc i) line code
    → slice_get doc.body.tasks k ≡ Some u → ((j : ℕ) (v : RawTask) → j < k → slice_get doc.body.tasks j ≡ Some v → IsWhole v) → HasTaskFault u starts (part_lines doc k) other another
    → i ≡ k
same-first-task doc i k begins starts line other t u code another at_t before_t fault_t at_u before_u fault_u = elim (cases_order i k) [
  | inl equal ↦ equal
  | inr (inl less) ↦ absurd (whole-or-fault t begins (part_lines doc i) line code (before_u i t less at_t) fault_t)
  | inr (inr more) ↦ absurd (whole-or-fault u starts (part_lines doc k) other another (before_t k u more at_u) fault_u)
]

-- of one task one fault is given
told-of-one : (doc : Doc) (i k begins starts line other : ℕ) (t u : RawTask) (code another : CheckCode) → i ≡ k → slice_get doc.body.tasks i ≡ Some t → slice_get doc.lines.tasks i ≡ Some begins → HasTaskFault t begins (part_lines doc i) line code
    → slice_get doc.body.tasks k ≡ Some u → slice_get doc.lines.tasks k ≡ Some starts → HasTaskFault u starts (part_lines doc k) other another → AreAlike line code other another
told-of-one doc i k begins starts line other t u code another one at_t line_t fault_t at_u line_u fault_u =
    let task : t ≡ u = same_Some t u (sym at_t ∙ ap (slice_get doc.body.tasks) one ∙ at_u) in
    let line_of : begins ≡ starts = same_Some begins starts (sym line_t ∙ ap (slice_get doc.lines.tasks) one ∙ line_u) in
    let moved : HasTaskFault u starts (part_lines doc k) line code =
    subst (λ v. HasTaskFault v starts (part_lines doc k) line code) task (subst (λ n. HasTaskFault t n (part_lines doc k) line code) line_of (subst (λ j. HasTaskFault t begins (part_lines doc j) line code) one fault_t)) in
    same-task-fault u starts (part_lines doc k) line other code another moved fault_u

same-line : (line other : ℕ) (fault another : LineFault) (f : Option (ℕ × LineFault)) → f ≡ Some (line, fault) → f ≡ Some (other, another) → AreAlike line (code_of fault) other (code_of another)
same-line line other fault another f one two =
    let pair : (line, fault) ≡ (other, another) = same_Some (line, fault) (other, another) (sym one ∙ two) in
    (ap (λ p. p.0) pair, alike (code_of fault) (code_of another) (ap (λ p. code_of p.1) pair))

line-or-task : (line : ℕ) (fault : LineFault) (f : Option (ℕ × LineFault)) → f ≡ Some (line, fault) → f ≡ None → ⊥
line-or-task line fault f some none = none-some (line, fault) (sym none ∙ some)

pub one-shape-fault : (doc : Doc) (line other : ℕ) (code another : CheckCode) → IsShapeFault doc line code → IsShapeFault doc other another → AreAlike line code other another
one-shape-fault doc line other code another (of_a_line _ fault at) (of_a_line _ fault' at') = same-line line other fault fault' (first_fault (line_faults doc)) at at'
one-shape-fault doc line other code another (of_a_line _ fault at) (of_a_task k starts _ u _ none at_u line_u before_u fault_u) = absurd (line-or-task line fault (first_fault (line_faults doc)) at none)
one-shape-fault doc line other code another (of_a_task i begins _ t _ none at_t line_t before_t fault_t) (of_a_line _ fault at) = absurd (line-or-task other fault (first_fault (line_faults doc)) at none)
one-shape-fault doc line other code another (of_a_task i begins _ t _ none at_t line_t before_t fault_t) (of_a_task k starts _ u _ none' at_u line_u before_u fault_u) =
    let one : i ≡ k = same-first-task doc i k begins starts line other t u code another at_t before_t fault_t at_u before_u fault_u in
    told-of-one doc i k begins starts line other t u code another one at_t line_t fault_t at_u line_u fault_u

-- ---- checking as a whole

abbrev pub HaveOneShape : Type 0
HaveOneShape = (doc : Doc) (s t : Shaped) → IsShapeOf doc s → IsShapeOf doc t → s ≡ t

same-rank-fault : (s : Shaped) (line other : ℕ) (code another : CheckCode) → IsRankFault s line code → IsRankFault s other another → AreAlike line code other another
same-rank-fault s line other code another (f, at, is) (g, at_other, is_other) =
    let told : Some (line, f) ≡ Some (other, g) = sym at ∙ at_other in
    let pair : (line, f) ≡ (other, g) = same_Some (line, f) (other, g) told in
    (ap (λ p. p.0) pair, alike code another (is ∙ ap (λ p. code_of_rank p.1) pair ∙ sym is_other))

pub one-check-fault : HaveOneShape → (doc : Doc) (line other : ℕ) (code another : CheckCode) → IsCheckFault doc line code → IsCheckFault doc other another → AreAlike line code other another
one-check-fault one doc line other code another (of_shape _ _ first) (of_shape _ _ second) = one-shape-fault doc line other code another first second
one-check-fault one doc line other code another (of_shape _ _ first) (of_ranks s _ _ shape second) = absurd (no-fault-of-a-shape doc line code shape.faultless first)
one-check-fault one doc line other code another (of_ranks s _ _ shape first) (of_shape _ _ second) = absurd (no-fault-of-a-shape doc other another shape.faultless second)
one-check-fault one doc line other code another (of_ranks s _ _ shape first) (of_ranks t _ _ shape_other second) =
    same-rank-fault t line other code another (subst (λ u. IsRankFault u line code) (one doc s t shape shape_other) first) second
