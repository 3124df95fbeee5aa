-- What stands at the indexes of a diagram. Each kind has one default, for an index that isn't there.
use Rattle.std.specs.Prelude.{ℕ, List, [], slice_index_or, None}
use Rattle.dbp_plan.specs.declared.diagram.Clock.TheVariants.{On}
use Rattle.dbp_plan.specs.declared.diagram.Diagram.{Diagram}
use Rattle.dbp_plan.specs.declared.diagram.Link.{Link}
use Rattle.dbp_plan.specs.declared.diagram.Read.{Read}
use Rattle.dbp_plan.specs.declared.diagram.Task.{Task}
use Rattle.dbp_plan.specs.declared.plan.Plan.{Plan}

abbrev pub no_declared_task : Task
no_declared_task = record { name = []; clock = On 0; when = None; prio = None; deadline = None; cost = 0; cpu = 0; states = []; senses = []; reads = []; lets = []; order = []; nexts = []; outs = [] }

-- the task of the diagram
abbrev pub task_at : Diagram → ℕ → Task
task_at d i = slice_index_or d.tasks i no_declared_task

-- the task of the plan's diagram
abbrev pub declared_task : Plan → ℕ → Task
declared_task p i = task_at p.diagram i

abbrev pub no_link : Link
no_link = record { writer = 0; reader = 0; delay = 0 }

abbrev pub link_at : List Link → ℕ → Link
link_at links k = slice_index_or links k no_link

abbrev pub no_read : Read
no_read = record { name = []; link = 0; port = 0; at = 0 }
