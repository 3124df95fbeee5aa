-- The diagram that a document says.
use Rattle.std.specs.Prelude.{◌≡◌, ℕ, ◌+◌, Bool, not, ◌==◌, ◌&&◌, List, [], ◌∷◌, ◌++◌, length, filter, slice_get, Option, Some}
use Rattle.std.specs.List.{flat_map, position_or_len}
use Rattle.std.specs.Option.{option_map}
use Rattle.dbp_plan.specs.declared.diagram.Clock.{Clock}
use Rattle.dbp_plan.specs.declared.diagram.Clock.TheVariants as clock
use Rattle.dbp_plan.specs.declared.diagram.Diagram.{Diagram}
use Rattle.dbp_plan.specs.declared.diagram.Input.{Input}
use Rattle.dbp_plan.specs.declared.diagram.Let.{Let}
use Rattle.dbp_plan.specs.declared.diagram.Link.{Link}
use Rattle.dbp_plan.specs.declared.diagram.Next.{Next}
use Rattle.dbp_plan.specs.declared.diagram.Out.{Out}
use Rattle.dbp_plan.specs.declared.diagram.Read.{Read}
use Rattle.dbp_plan.specs.declared.diagram.Sense.{Sense}
use Rattle.dbp_plan.specs.declared.diagram.State.{State}
use Rattle.dbp_plan.specs.declared.diagram.Task.{Task}
use Rattle.dbp_plan.specs.Closed.{let_base}
use Rattle.dbp_plan.specs.NameLists.{index_of}
use Rattle.dia_lines.specs.declared.item.Decl.{Decl}
use Rattle.dia_lines.specs.declared.item.Decl.TheVariants as decl
use Rattle.dia_lines.specs.declared.item.Part.{Part}
use Rattle.dia_lines.specs.declared.item.Part.TheVariants as part
use Rattle.dia_lines.specs.declared.item.RawClock.{RawClock}
use Rattle.dia_lines.specs.declared.item.RawClock.TheVariants.{Every, On}
use Rattle.dia_read.specs.declared.document.Body.{Body}
use Rattle.dia_read.specs.declared.document.RawTask.{RawTask}
use Rattle.expr_eval.specs.LetOrders.{IsFrontOrder}
use Rattle.dia_check.specs.Names.{input_name, event_name, task_names, state_name, env_names, port_names}
use Rattle.dia_check.specs.Placed.{placed_expr}

-- ---- links

abbrev pub is_same_link : Link → Link → Bool
is_same_link k l = k.writer == l.writer && k.reader == l.reader && k.delay == l.delay

-- the link that a line of this task's body reads over, if it is a read
abbrev pub link_of : List RawTask → ℕ → Part → List Link
link_of tasks reader (part.Read n delay writer port at) = record { writer = index_of (task_names tasks) writer; reader = reader; delay = delay } ∷ []
link_of tasks reader _ = []

-- the links of the read lines of these tasks, in their order, if the first task has this number
abbrev pub links_used : List RawTask → ℕ → List RawTask → List Link
links_used tasks number [] = []
links_used tasks number (t ∷ ts) = flat_map (link_of tasks number) t.parts ++ links_used tasks (number + 1) ts

-- each link once, where it stands first
abbrev pub firsts : List Link → List Link
firsts [] = []
firsts (l ∷ ls) = l ∷ filter (λ k. not (is_same_link l k)) (firsts ls)

abbrev pub links_of : List RawTask → List Link
links_of tasks = firsts (links_used tasks 0 tasks)

abbrev pub link_number : List Link → Link → ℕ
link_number links l = position_or_len (λ k. is_same_link k l) links

-- ---- the parts of a task

abbrev pub clock_of : List (List ℕ) → RawClock → Clock
clock_of events (Every period offset) = clock.Every period offset
clock_of events (On event) = clock.On (index_of events event)

-- the number of the input that must not be 0
abbrev pub when_of : List (List ℕ) → Option (List ℕ) → Option ℕ
when_of inputs when = option_map (index_of inputs) when

abbrev pub state_of : Part → List State
state_of (part.State n first) = record { name = n; first = first } ∷ []
state_of _ = []

abbrev pub sense_of : List (List ℕ) → Part → List Sense
sense_of inputs (part.Sense n input) = record { name = n; input = index_of inputs input } ∷ []
sense_of inputs _ = []

abbrev pub read_of : List RawTask → ℕ → Part → List Read
read_of tasks reader (part.Read n delay writer port at) =
    record {
      name = n;
      link = link_number (links_of tasks) (record { writer = index_of (task_names tasks) writer; reader = reader; delay = delay });
      port = index_of (port_names tasks writer) port;
      at = at;
    }
    ∷ []
read_of tasks reader _ = []

abbrev pub let_of : List (List ℕ) → Part → List Let
let_of names (part.Let n e) = record { name = n; expr = placed_expr names e } ∷ []
let_of names _ = []

abbrev pub next_of : List (List ℕ) → List (List ℕ) → Part → List Next
next_of states names (part.Next n e) = record { state = index_of states n; expr = placed_expr names e } ∷ []
next_of states names _ = []

abbrev pub out_of : List (List ℕ) → Part → List Out
out_of names (part.Out n first e) = record { name = n; first = first; expr = placed_expr names e } ∷ []
out_of names _ = []

-- the task's lets, over the places of its environment
abbrev pub lets_of : RawTask → List Let
lets_of t = flat_map (let_of (env_names t.parts)) t.parts

-- the task with the number, with this order of its lets
abbrev pub task_of : Body → ℕ → RawTask → List ℕ → Task
task_of body number t order = record {
  name = t.name;
  clock = clock_of (flat_map event_name body.decls) t.clock;
  when = when_of (flat_map input_name body.decls) t.when;
  prio = t.prio;
  deadline = t.deadline;
  cost = t.cost;
  cpu = t.cpu;
  states = flat_map state_of t.parts;
  senses = flat_map (sense_of (flat_map input_name body.decls)) t.parts;
  reads = flat_map (read_of body.tasks number) t.parts;
  lets = lets_of t;
  order = order;
  nexts = flat_map (next_of (flat_map state_name t.parts) (env_names t.parts)) t.parts;
  outs = flat_map (out_of (env_names t.parts)) t.parts;
}

-- the task is what its lines say, and its lets are ordered from the front
pub record IsTaskOf (body : Body) (number : ℕ) (raw : RawTask) (t : Task) : Type 0 where
  pub is : t ≡ task_of body number raw t.order
  pub order : IsFrontOrder (let_base t) t.lets t.order

-- ---- the diagram

abbrev pub input_of : Decl → List Input
input_of (decl.Input n first) = record { name = n; first = first } ∷ []
input_of (decl.Event n) = []

-- the diagram is what the document says, except for its ranks
pub record IsDiagramOf (body : Body) (d : Diagram) : Type 0 where
  pub policy : d.policy ≡ body.policy
  pub until : d.until ≡ body.until
  pub inputs : d.inputs ≡ flat_map input_of body.decls
  pub events : d.events ≡ flat_map event_name body.decls
  pub count : length d.tasks ≡ length body.tasks
  pub tasks : (i : ℕ) (raw : RawTask) (t : Task) → slice_get body.tasks i ≡ Some raw → slice_get d.tasks i ≡ Some t → IsTaskOf body i raw t
  pub links : d.links ≡ links_of body.tasks
