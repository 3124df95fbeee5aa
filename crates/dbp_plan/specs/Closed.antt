-- Diagrams whose numbers, counts and places are in range.
use Rattle.std.specs.Prelude.{◌≡◌, ◌≢◌, ℕ, ◌+◌, ◌<◌, ◌≤◌, ◌==◌, IsTrue, All, AllPairs, length, slice_get, sum_by, Some}
use Rattle.std.specs.Option.{ForSome}
use Rattle.std.specs.List.{list_any}
use Rattle.dbp_plan.specs.declared.limits.TheConstants.{MAX_TASKS, MAX_INPUTS, MAX_EVENTS, MAX_READS, MAX_READ_LINES, MAX_OUTS, MAX_BODY, MAX_TIME, MAX_PRIO, MAX_CPU}
use Rattle.dbp_plan.specs.declared.diagram.Clock.TheVariants.{Every, On}
use Rattle.dbp_plan.specs.declared.diagram.Read.{Read}
use Rattle.dbp_plan.specs.declared.diagram.Task.{Task}
use Rattle.dbp_plan.specs.declared.diagram.Link.{Link}
use Rattle.dbp_plan.specs.declared.diagram.Diagram.{Diagram}
use Rattle.dbp_plan.specs.Limits.{max_delay}
use Rattle.dbp_plan.specs.LetOrder.{VariablesBelow, IsLetOrder}

-- the place of the task's first let in its environment
abbrev pub let_base : Task → ℕ
let_base t = length t.states + length t.senses + length t.reads

-- the places of its environment: states, senses, reads, lets
abbrev pub place_count : Task → ℕ
place_count t = let_base t + length t.lets

-- the lines of its body
abbrev pub body_count : Task → ℕ
body_count t = place_count t + length t.nexts + length t.outs

-- the task is closed in a diagram with so many inputs, events and links
pub record IsClosedTask (inputs events links : ℕ) (t : Task) : Type 0 where
  pub periodic : (period offset : ℕ) → t.clock ≡ Every period offset → (1 ≤ period) × (period ≤ MAX_TIME) × (offset ≤ MAX_TIME)
  pub on_event : (event : ℕ) → t.clock ≡ On event → event < events
  pub when : ForSome t.when (λ input. input < inputs)
  pub prio : ForSome t.prio (λ p. p ≤ MAX_PRIO)
  pub deadline : ForSome t.deadline (λ d. (1 ≤ d) × (d ≤ MAX_TIME))
  pub cost : (1 ≤ t.cost) × (t.cost ≤ MAX_TIME)
  pub cpu : t.cpu ≤ MAX_CPU
  pub reads : length t.reads ≤ MAX_READS
  pub outs : (1 ≤ length t.outs) × (length t.outs ≤ MAX_OUTS)
  pub body : body_count t ≤ MAX_BODY
  pub let_variables : All (λ l. VariablesBelow (place_count t) l.expr.nodes) t.lets
  pub next_variables : All (λ n. VariablesBelow (place_count t) n.expr.nodes) t.nexts
  pub out_variables : All (λ o. VariablesBelow (place_count t) o.expr.nodes) t.outs
  pub next_states : All (λ n. n.state < length t.states) t.nexts
  pub one_next : AllPairs (λ m n. m.state ≢ n.state) t.nexts
  pub order : IsLetOrder (let_base t) t.lets t.order
  pub sensed : All (λ s. s.input < inputs) t.senses
  pub linked : All (λ r. r.link < links) t.reads
  pub pointers : All (λ r. r.at < t.cost) t.reads

-- the task is closed in a diagram with some numbers of inputs, events and links
abbrev pub IsClosedSomewhere : Task → Type 0
IsClosedSomewhere t = (inputs : ℕ) × (events : ℕ) × (links : ℕ) × IsClosedTask inputs events links t

-- the diagram is closed: its numbers and counts are within the limits, and what it names is there
pub record IsClosed (d : Diagram) : Type 0 where
  pub until : d.until ≤ MAX_TIME
  pub inputs : length d.inputs ≤ MAX_INPUTS
  pub events : length d.events ≤ MAX_EVENTS
  pub tasks : length d.tasks ≤ MAX_TASKS
  pub reads : sum_by (λ t. length t.reads) d.tasks ≤ MAX_READ_LINES
  pub links : length d.links ≤ MAX_READ_LINES
  pub each : All (IsClosedTask (length d.inputs) (length d.events) (length d.links)) d.tasks
  pub ends : All (λ l. (l.writer < length d.tasks) × (l.reader < length d.tasks) × (l.writer ≢ l.reader)) d.links
  pub delays : All (λ l. l.delay ≤ max_delay) d.links
  pub one_link : AllPairs (λ k l. k ≢ l) d.links
  pub used : (k : ℕ) → k < length d.links → IsTrue (list_any (λ t. list_any (λ r. r.link == k) t.reads) d.tasks)
  -- the link of a read has the task as its reader, and the port is among its writer's outs
  pub own : (i : ℕ) (t : Task) (r : Read) (l : Link) (j : ℕ) → slice_get d.tasks i ≡ Some t → slice_get t.reads j ≡ Some r → slice_get d.links r.link ≡ Some l → l.reader ≡ i
  pub ports : (t w : Task) (r : Read) (l : Link) (i j : ℕ) → slice_get d.tasks i ≡ Some t → slice_get t.reads j ≡ Some r → slice_get d.links r.link ≡ Some l → slice_get d.tasks l.writer ≡ Some w → r.port < length w.outs
