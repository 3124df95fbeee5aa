-- What the names of a document mean in all of its tasks, and how one task is put together.
use Rattle.std.specs.Prelude.{◌≡◌, ℕ, ◌≤◌, true, sum_by, List, ◌++◌, length, take, drop, slice_get, slice_index, Some, None}
use Rattle.std.specs.List.{flat_map}
use Rattle.dbp_plan.specs.NameLists.{is_among}
use Rattle.dia_lines.specs.declared.item.Part.{Part}
use Rattle.dia_lines.specs.declared.item.Part.TheVariants.{Read}
use Rattle.dia_read.specs.declared.document.Body.{Body}
use Rattle.dia_read.specs.declared.document.Doc.{Doc}
use Rattle.dia_read.specs.declared.document.RawTask.{RawTask}
use Rattle.expr_eval.specs.declared.order.LetFail.{LetFail}
use Rattle.expr_eval.specs.declared.order.LetFail.TheVariants as let_fail
use Rattle.expr_eval.specs.LetOrders.{IsFrontOrder, IsCycle}
use Rattle.dia_check.specs.declared.fail.CheckCode.TheVariants.{LetCycle}
use Rattle.dia_check.specs.declared.fail.CheckFail.{CheckFail}
use Rattle.dia_check.specs.declared.fail.CheckFail.TheVariants as check_fail
use Rattle.dia_check.specs.declared.reads.ReadLinks.{ReadLinks}
use Rattle.dia_check.specs.declared.scope.Scope.{Scope}
use Rattle.dia_check.specs.declared.tasks.Sources.{Sources}
use Rattle.dia_check.specs.declared.tasks.OrderedLets.{OrderedLets}
use Rattle.dia_check.specs.declared.tasks.Work.{Work}
use Rattle.dia_check.specs.Diagrams.{firsts, links_used, lets_of, state_of, sense_of, next_of, out_of}
use Rattle.dia_check.specs.Faults.{part_fault, base_of, let_lines, HasTaskFault}
use Rattle.dia_check.specs.Names.{input_name, event_name, state_name, env_names, port_names}
use Rattle.dia_check.specs.Shapes.{read_lines_from, read_lines_of}

-- the scope has the names of the body's declarations
pub record IsScopeOf (body : Body) (s : Scope) : Type 0 where
  pub inputs : s.inputs ≡ flat_map input_name body.decls
  pub events : s.events ≡ flat_map event_name body.decls

-- no line of the task's body has a fault
abbrev pub HasFaultlessParts : Body → RawTask → Type 0
HasFaultlessParts body t = (j : ℕ) (p : Part) → slice_get t.parts j ≡ Some p → part_fault body t (take j t.parts) p ≡ None

-- a read line names an out of a task that is there
abbrev pub IsKnownRead : List RawTask → Part → Type 0
IsKnownRead tasks (Read n delay writer port at) = is_among (port_names tasks writer) port ≡ true
IsKnownRead tasks _ = Unit {0}

-- the links of the tasks before this one, and their read lines, of which this is the rest
pub record HasLinksBefore (doc : Doc) (number : ℕ) (rest : List ℕ) (f : ReadLinks) : Type 0 where
  pub links : f.links ≡ firsts (links_used doc.body.tasks 0 (take number doc.body.tasks))
  pub lines : read_lines_of doc ≡ f.lines ++ read_lines_from doc.body.tasks number (drop number doc.body.tasks) rest
  pub few_links : length f.links ≤ sum_by (λ t. length t.parts) (take number doc.body.tasks)
  pub few_lines : length f.lines ≤ sum_by (λ t. length t.parts) (take number doc.body.tasks)

-- ---- the parts of a task, as they are put together

abbrev pub HasNoCycle : RawTask → Type 0
HasNoCycle t = (cycle : List ℕ) → IsCycle (base_of t) (lets_of t) cycle → ⊥

-- its lets, in an order from the front
pub record AreOrderedLets (t : RawTask) (o : OrderedLets) : Type 0 where
  pub lets : o.lets ≡ lets_of t
  pub order : IsFrontOrder (base_of t) (lets_of t) o.order

-- what it computes
pub record IsWorkOf (t : RawTask) (w : Work) : Type 0 where
  pub lets : w.lets ≡ lets_of t
  pub order : IsFrontOrder (base_of t) (lets_of t) w.order
  pub nexts : w.nexts ≡ flat_map (next_of (flat_map state_name t.parts) (env_names t.parts)) t.parts
  pub outs : w.outs ≡ flat_map (out_of (env_names t.parts)) t.parts

-- what a task keeps and senses
pub record HasItsSources (body : Body) (parts : List Part) (g : Sources) : Type 0 where
  pub states : g.states ≡ flat_map state_of parts
  pub senses : g.senses ≡ flat_map (sense_of (flat_map input_name body.decls)) parts

-- the refusal for a failure of the task's lets; its body's lines have the first of these numbers
abbrev pub let_refusal : RawTask → List ℕ → LetFail → CheckFail
let_refusal t parts (let_fail.Cycle first names) =
    check_fail.Refused (slice_index (let_lines t.parts parts) first) (LetCycle names)
let_refusal t parts let_fail.NoMemory = check_fail.NoMemory

-- what a refusal says of the task, whose first line and those of its body have these numbers
abbrev pub IsTaskRefusal : RawTask → ℕ → List ℕ → CheckFail → Type 0
IsTaskRefusal t begins parts (check_fail.Refused line code) = HasTaskFault t begins parts line code
IsTaskRefusal t begins parts check_fail.NoMemory = Unit {0}
