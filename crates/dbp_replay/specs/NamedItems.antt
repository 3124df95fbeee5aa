-- What steps name, and steps that name only what the diagram has.
use Rattle.std.specs.Prelude.{ℕ, ◌<◌, List, [], length, slice_get, slice_index_or, Option, Some, None}
use Rattle.dbp_rules.specs.declared.step.Step.{Step}
use Rattle.dbp_rules.specs.declared.step.Step.TheVariants.{Seen, Aim, Claim, OpenGate, Start, Hear, Look, Take, Shut, Put, Done, End}
use Rattle.dbp_rules.specs.Rules.{IsNamed}
use Rattle.dbp_plan.specs.declared.diagram.Diagram.{Diagram}
use Rattle.dbp_plan.specs.declared.diagram.Out.{Out}
use Rattle.dbp_plan.specs.Lookups.{link_at, no_read, task_at}

abbrev pub out_name : Option Out → List ℕ
out_name None = []
out_name (Some o) = o.name

-- the name of the task's read, and of its out
abbrev pub read_name : Diagram → ℕ → ℕ → List ℕ
read_name d i r = (slice_index_or (task_at d i).reads r no_read).name

abbrev pub port_name : Diagram → ℕ → ℕ → List ℕ
port_name d i p = out_name (slice_get (task_at d i).outs p)

-- the task that steps; of a claim it is the link's reader
abbrev pub task_of : Diagram → Step → ℕ
task_of d (Seen i) = i
task_of d (Aim i slot) = i
task_of d (Claim k) = (link_at d.links k).reader
task_of d (OpenGate i) = i
task_of d (Start i) = i
task_of d (Hear i) = i
task_of d (Look i r) = i
task_of d (Take i r) = i
task_of d (Shut i) = i
task_of d (Put i p) = i
task_of d (Done i) = i
task_of d (End i) = i

-- the writer, the read or the out that a step names is there
abbrev pub HasOperand : Diagram → Step → Type 0
HasOperand d (Claim k) = (link_at d.links k).writer < length d.tasks
HasOperand d (Look i r) = r < length (task_at d i).reads
HasOperand d (Take i r) = r < length (task_at d i).reads
HasOperand d (Put i p) = p < length (task_at d i).outs
HasOperand d _ = Unit {0}

-- all that a step names is there; a slot may be any number
pub record IsThere (d : Diagram) (e : Step) : Type 0 where
  pub named : IsNamed d e
  pub task : task_of d e < length d.tasks
  pub operand : HasOperand d e
