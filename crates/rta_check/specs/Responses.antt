-- The response-time equation of Joseph and Pandya, and what a solution promises.
use Rattle.std.specs.Prelude.{◌≡◌, ℕ, ◌+◌, ◌≤◌}
use Rattle.dbp_plan.specs.declared.diagram.Diagram.{Diagram}
use Rattle.dbp_plan.specs.declared.plan.Plan.{Plan}
use Rattle.dbp_plan.specs.Lookups.{task_at}
use Rattle.rank_order.specs.Ends.{IsEnd, Late}
use Rattle.rank_order.specs.Instances.{Instance, IsInstance, release_of}
use Rattle.rank_order.specs.Service.{left_of}
use Rattle.rank_order.specs.ServiceOf.{service}
use Rattle.rta_check.specs.declared.bound.Bound.{Bound}
use Rattle.rta_check.specs.declared.bound.Bound.TheVariants.{At, Beyond}
use Rattle.rta_check.specs.Periods.{period_of}
use Rattle.rta_check.specs.Requests.{request_bound}

-- r is a response time of task i: its own request bound, from 1 to the period
pub record SolvesEquation (d : Diagram) (i r : ℕ) : Type 0 where
  pub some : 1 ≤ r
  pub within : r ≤ period_of (task_at d i).clock
  pub equal : r ≡ request_bound d i r

-- r is the least response time of task i
pub record IsResponse (d : Diagram) (i r : ℕ) : Type 0 where
  pub solves : SolvesEquation d i r
  pub least : (s : ℕ) → SolvesEquation d i s → r ≤ s

-- the bound of task i: its least response time, or that it has none
abbrev pub IsBound : Diagram → ℕ → Bound → Type 0
IsBound d i (At r) = IsResponse d i r
IsBound d i Beyond = (r : ℕ) → SolvesEquation d i r → ⊥

-- in the plan's service no release of task i meets an unfinished instance of it, and each of its instances ends within r ticks of its release
pub record KeepsBound (p : Plan) (i r : ℕ) : Type 0 where
  pub none_late : (t : ℕ) (x : Instance) → x.task ≡ i → Late p (left_of p (service p)) t x → ⊥
  pub ends : (x : Instance) → x.task ≡ i → IsInstance p x → (e : ℕ) × IsEnd (service p) x e × (e ≤ release_of p x + r)
