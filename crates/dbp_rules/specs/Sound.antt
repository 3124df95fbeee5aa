-- What holds between all steps, whichever party steps next: each slot has the row that its stamp says, and what a task takes is what the meaning gives it.
use Rattle.std.specs.Prelude.{◌≡◌, ℕ, ℤ, ◌<◌, ◌≤◌, List, length}
use Rattle.dbp_plan.specs.declared.plan.Plan.{Plan}
use Rattle.release_list.specs.Schedule.{opens}
use Rattle.dbp_rules.specs.Lookups.{link, link_entry, order, task, task_entry}
use Rattle.dbp_rules.specs.Shapes.{IsShape}
use Rattle.dbp_rules.specs.SoundParts.{ClaimSound, LinkSound, TaskSound}
use Rattle.dbp_rules.specs.declared.state.State.{State}
use Rattle.dbp_rules.specs.declared.wiring.Wiring.{Wiring}

-- the state is sound; row n of task i is `rows i n`. The shape has the ranges and lengths, and besides: the aimed instances are
-- those of the releaser's place, a task's ended instances with the running one are within its gate, and the gate within the aimed ones
pub record Sound (p : Plan) (w : Wiring) (rows : ℕ → ℕ → List ℤ) (s : State) : Type 0 where
  pub shape : IsShape p w s
  pub place : s.releaser.place ≤ length w.releases
  -- what is opened and claimed is what the releaser's place says
  pub gates : (i : ℕ) → i < length w.tasks → (task s i).words.gate ≡ opens w.releases s.releaser.place i
  pub claims : (k : ℕ) → k < length w.links → ClaimSound p w s.releaser.place k (link_entry s k) (order s k)
  pub tasks : (i : ℕ) → i < length w.tasks → TaskSound p w rows i (task_entry s i) (task s i)
  pub links : (k : ℕ) → k < length w.links → LinkSound p w k (link_entry s k) (task_entry s (link w k).writer) (task s (link w k).writer) (task_entry s (link w k).reader) (task s (link w k).reader)
