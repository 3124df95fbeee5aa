-- Diagrams that differ in phase: in the offsets of their clocks, and in their ends.
use Rattle.std.specs.Prelude.{◌≡◌, map}
use Rattle.dbp_plan.specs.declared.diagram.Clock.{Clock}
use Rattle.dbp_plan.specs.declared.diagram.Clock.TheVariants.{Every, On}
use Rattle.dbp_plan.specs.declared.diagram.Diagram.{Diagram}
use Rattle.dbp_plan.specs.declared.diagram.Task.{Task}

abbrev pub without_offset : Clock → Clock
without_offset (Every period offset) = Every period 0
without_offset (On event) = On event

abbrev pub task_without_offset : Task → Task
task_without_offset t = record t { clock = without_offset t.clock }

-- the diagram with all offsets and the end at 0
abbrev pub without_phase : Diagram → Diagram
without_phase d = record d { until = 0; tasks = map task_without_offset d.tasks }

-- the diagrams are the same but for offsets and ends
abbrev pub DiffersInPhase : Diagram → Diagram → Type 0
DiffersInPhase d e = without_phase d ≡ without_phase e
