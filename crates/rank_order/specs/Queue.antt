-- What a queue holds, and which of it is served first.
use Rattle.std.specs.Prelude.{◌≡◌, ℕ, ◌<◌, ◌⊎◌, All, IsTrue, length, slice_get, Some}
use Rattle.dbp_plan.specs.declared.diagram.Diagram.{Diagram}
use Rattle.rank_order.specs.Order.{goes_before, key_of}
use Rattle.rank_order.specs.declared.held.Held.{Held}
use Rattle.rank_order.specs.declared.ready.Ready.{Ready}

-- the queue is one for this diagram: it has room for the tasks, and what it holds has the keys that the diagram gives
pub record MadeFor (ready : Ready) (d : Diagram) : Type 0 where
  pub tasks : ready.tasks ≡ length d.tasks
  pub keys : All (λ h. h.key ≡ key_of d h.task h.release) ready.items.items

-- at the index of its order the queue holds the task's instance that is released at this time
pub record IsAt (ready : Ready) (index task release : ℕ) : Type 0 where
  pub held : Held
  pub there : slice_get ready.items.items index ≡ Some held
  pub is_of : held.task ≡ task
  pub is_from : held.release ≡ release

-- the queue holds it, at some index
abbrev pub Holds : Ready → ℕ → ℕ → Type 0
Holds ready task release = (index : ℕ) × IsAt ready index task release

-- each instance is served before those at later indexes
pub record InOrderOf (d : Diagram) (ready : Ready) : Type 0 where
  pub pairs : (j k i a i' a' : ℕ) → j < k → IsAt ready j i a → IsAt ready k i' a' → IsTrue (goes_before d i a i' a')

-- the task's instance is held, and served before all others that are held
pub record IsServedFirst (ready : Ready) (task : ℕ) : Type 0 where
  pub release : ℕ
  pub held : Holds ready task release
  pub others : (d : Diagram) (i a : ℕ) → MadeFor ready d → Holds ready i a → (i ≡ task) ⊎ IsTrue (goes_before d task release i a)
