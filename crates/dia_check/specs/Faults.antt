-- The first fault of a document's names and shape.
use Rattle.std.specs.Prelude.{◌≡◌, ◌≢◌, ℕ, ◌+◌, ◌<◌, sum_by, Bool, true, false, not, ◌||◌, nat_le, if◌then◌else◌, List, [], ◌∷◌, ◌++◌, length, map, take, drop, slice_get, Option, Some, None}
use Rattle.std.specs.List.{flat_map, list_any}
use Rattle.std.specs.Str.{bytes_eq}
use Rattle.dbp_plan.specs.declared.expr.Expr.{Expr}
use Rattle.dbp_plan.specs.declared.node.Node.{Node}
use Rattle.dbp_plan.specs.declared.node.Node.TheVariants.{Var}
use Rattle.dbp_plan.specs.FirstFault.{faults_after, first_fault}
use Rattle.dbp_plan.specs.NameLists.{is_among}
use Rattle.dia_lines.specs.declared.item.Decl.{Decl}
use Rattle.dia_lines.specs.declared.item.Part.{Part}
use Rattle.dia_lines.specs.declared.item.Part.TheVariants.{State, Sense, Read, Let, Next, Out}
use Rattle.dia_lines.specs.declared.item.RawClock.{RawClock}
use Rattle.dia_lines.specs.declared.item.RawClock.TheVariants.{Every, On}
use Rattle.dia_read.specs.declared.document.Body.{Body}
use Rattle.dia_read.specs.declared.document.Doc.{Doc}
use Rattle.dia_read.specs.declared.document.RawTask.{RawTask}
use Rattle.dia_read.specs.Printable.{is_out_part}
use Rattle.expr_eval.specs.LetOrders.{IsCycle, IsFirstCycle, AreNamesOf}
use Rattle.dia_check.specs.declared.fail.CheckCode.{CheckCode}
use Rattle.dia_check.specs.declared.fail.CheckCode.TheVariants as code
use Rattle.dia_check.specs.declared.fail.CheckCode.TheVariants.{LetCycle, NoOut}
use Rattle.dia_check.specs.declared.fail.CheckFail.{CheckFail}
use Rattle.dia_check.specs.declared.fail.CheckFail.TheVariants.{Refused}
use Rattle.dia_check.specs.declared.fail.LineFault.{LineFault}
use Rattle.dia_check.specs.declared.fail.LineFault.TheVariants.{Duplicate, Unknown, SelfLink, ReadPastCost}
use Rattle.dia_check.specs.Diagrams.{lets_of}
use Rattle.dia_check.specs.Names.{next_name, declared_name, input_name, event_name, decl_name, task_names, state_name, sense_name, read_name, out_name, env_names, port_names}

-- ---- tests on a line

abbrev pub is_declared_in : List Part → List ℕ → Bool
is_declared_in before n = is_among (flat_map declared_name before) n

-- an earlier line of the body declares the name too, or gives the same state a next value
abbrev pub is_repeated : List Part → Part → Bool
is_repeated before (State n first) = is_declared_in before n
is_repeated before (Sense n input) = is_declared_in before n
is_repeated before (Read n delay writer port at) = is_declared_in before n
is_repeated before (Let n e) = is_declared_in before n
is_repeated before (Next n e) = is_among (flat_map next_name before) n
is_repeated before (Out n first e) = is_declared_in before n

-- a name that isn't among these
abbrev pub is_unbound : List (List ℕ) → Node (List ℕ) → Bool
is_unbound names (Var n) = not (is_among names n)
is_unbound names _ = false

abbrev pub has_unbound : List (List ℕ) → Expr (List ℕ) → Bool
has_unbound names e = list_any (is_unbound names) e.nodes

-- the line uses a name that nothing of the kind has that stands there
abbrev pub is_unknown : Body → RawTask → Part → Bool
is_unknown body t (State n first) = false
is_unknown body t (Sense n input) = not (is_among (flat_map input_name body.decls) input)
is_unknown body t (Read n delay writer port at) = not (is_among (port_names body.tasks writer) port)
is_unknown body t (Let n e) = has_unbound (env_names t.parts) e
is_unknown body t (Next n e) = not (is_among (flat_map state_name t.parts) n) || has_unbound (env_names t.parts) e
is_unknown body t (Out n first e) = has_unbound (env_names t.parts) e

abbrev pub is_self_link : RawTask → Part → Bool
is_self_link t (Read n delay writer port at) = bytes_eq t.name writer
is_self_link t _ = false

abbrev pub is_past_cost : RawTask → Part → Bool
is_past_cost t (Read n delay writer port at) = nat_le t.cost at
is_past_cost t _ = false

abbrev pub is_unknown_clock : List Decl → RawClock → Bool
is_unknown_clock decls (Every period offset) = false
is_unknown_clock decls (On event) = not (is_among (flat_map event_name decls) event)

-- a `when` that names no input
abbrev pub is_unknown_when : List Decl → Option (List ℕ) → Bool
is_unknown_when decls None = false
is_unknown_when decls (Some input) = not (is_among (flat_map input_name decls) input)

-- ---- the first fault of a line

-- of a declaration after these
abbrev pub decl_fault : List Decl → Decl → Option LineFault
decl_fault before d = if is_among (map decl_name before) (decl_name d) then Some Duplicate else None

-- of the line that begins a task, after these tasks
abbrev pub task_fault : Body → List RawTask → RawTask → Option LineFault
task_fault body before t =
    if is_among (map decl_name body.decls ++ task_names before) t.name then Some Duplicate else
    if is_unknown_clock body.decls t.clock || is_unknown_when body.decls t.when then Some Unknown else None

-- of a line of the task's body, after these
abbrev pub part_fault : Body → RawTask → List Part → Part → Option LineFault
part_fault body t before p =
    if is_repeated before p then Some Duplicate else
    if is_unknown body t p then Some Unknown else
    if is_self_link t p then Some SelfLink else
    if is_past_cost t p then Some ReadPastCost else None

-- ---- the first of the lines with a fault

-- each task with the number of its line and its first fault, and the lines of its body after it
abbrev pub task_faults : Body → List RawTask → List RawTask → List ℕ → List ℕ → List (ℕ × Option LineFault)
task_faults body before (t ∷ ts) (n ∷ ns) parts =
    (n, task_fault body before t) ∷ (faults_after (part_fault body t) [] t.parts parts ++ task_faults body (before ++ t ∷ []) ts ns (drop (length t.parts) parts))
task_faults body before _ _ parts = []

-- the lines of declarations, tasks and bodies, if each of them has a number
abbrev pub line_faults : Doc → List (ℕ × Option LineFault)
line_faults doc = faults_after decl_fault [] doc.body.decls doc.lines.decls ++ task_faults doc.body [] doc.body.tasks doc.lines.tasks doc.lines.parts

abbrev pub code_of : LineFault → CheckCode
code_of Duplicate = code.Duplicate
code_of Unknown = code.Unknown
code_of SelfLink = code.SelfLink
code_of ReadPastCost = code.ReadPastCost

-- the refusal for a fault of the line with the number
abbrev pub line_refusal : ℕ × LineFault → CheckFail
line_refusal f = Refused f.0 (code_of f.1)

-- the same code, except for the names of a cycle
pub data IsSameCode : CheckCode → CheckCode → Type 0 where
  same : (code : CheckCode) → IsSameCode code code
  cycles : (names others : List (List ℕ)) → IsSameCode (LetCycle names) (LetCycle others)

-- ---- the first fault of a task as a whole

-- the numbers of the lines of lets
abbrev pub let_lines : List Part → List ℕ → List ℕ
let_lines (Let n e ∷ ps) (line ∷ lines) = line ∷ let_lines ps lines
let_lines (p ∷ ps) (line ∷ lines) = let_lines ps lines
let_lines _ _ = []

-- the place of a task's first let in its environment
abbrev pub base_of : RawTask → ℕ
base_of t = length (flat_map state_name t.parts) + length (flat_map sense_name t.parts) + length (flat_map read_name t.parts)

-- the task has an out, and its lets don't use each other in a cycle
pub record IsWhole (t : RawTask) : Type 0 where
  pub outs : flat_map out_name t.parts ≢ []
  pub lets : (cycle : List ℕ) → IsCycle (base_of t) (lets_of t) cycle → ⊥

-- the first fault of the task, whose first line has this number and whose body has lines with the first of these
pub data HasTaskFault (t : RawTask) (line : ℕ) (parts : List ℕ) : ℕ → CheckCode → Type 0 where
  no_out : flat_map out_name t.parts ≡ [] → HasTaskFault t line parts line NoOut
  a_cycle : (at first : ℕ) (cycle : List ℕ) (names : List (List ℕ)) → flat_map out_name t.parts ≢ [] → IsFirstCycle (base_of t) (lets_of t) first cycle
      → AreNamesOf (lets_of t) cycle names → slice_get (let_lines t.parts parts) first ≡ Some at → HasTaskFault t line parts at (LetCycle names)

-- the lines of the bodies, from the task with this number on
abbrev pub part_lines : Doc → ℕ → List ℕ
part_lines doc i = drop (sum_by (λ t. length t.parts) (take i doc.body.tasks)) doc.lines.parts

-- ---- tasks without outs

abbrev pub is_let_part : Part → Bool
is_let_part (Let n e) = true
is_let_part _ = false

abbrev pub lacks_outs : RawTask → Bool
lacks_outs t = not (list_any is_out_part t.parts)

abbrev pub has_lets : RawTask → Bool
has_lets t = list_any is_let_part t.parts

-- the line of the first of these tasks without outs, if no task before it has lets
abbrev pub outless_line : List RawTask → List ℕ → Option ℕ
outless_line (t ∷ ts) (n ∷ ns) =
    if lacks_outs t then Some n else
    if has_lets t then None else outless_line ts ns
outless_line _ _ = None

abbrev pub line_without_out : Doc → Option ℕ
line_without_out doc = outless_line doc.body.tasks doc.lines.tasks

-- ---- of a document

-- no line has a fault, and each task is whole, if there is a line of each item
pub record HasNoShapeFault (doc : Doc) : Type 0 where
  pub lines : first_fault (line_faults doc) ≡ None
  pub whole : (i : ℕ) (t : RawTask) → slice_get doc.body.tasks i ≡ Some t → IsWhole t

-- the first fault of a document's names and shape: of a line, or else of a task as a whole
pub data IsShapeFault (doc : Doc) : ℕ → CheckCode → Type 0 where
  of_a_line : (line : ℕ) (fault : LineFault) → first_fault (line_faults doc) ≡ Some (line, fault) → IsShapeFault doc line (code_of fault)
  of_a_task : (i begins line : ℕ) (t : RawTask) (fault : CheckCode) → first_fault (line_faults doc) ≡ None → slice_get doc.body.tasks i ≡ Some t
      → slice_get doc.lines.tasks i ≡ Some begins → ((k : ℕ) (u : RawTask) → k < i → slice_get doc.body.tasks k ≡ Some u → IsWhole u)
      → HasTaskFault t begins (part_lines doc i) line fault → IsShapeFault doc line fault
