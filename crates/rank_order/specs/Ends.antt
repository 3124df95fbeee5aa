-- When an instance ends, and when a release meets an unfinished one.
use Rattle.std.specs.Prelude.{◌≡◌, ◌≢◌, ℕ, ◌+◌, ◌<◌, ◌≤◌, Option, Some, slice_index}
use Rattle.dbp_plan.specs.declared.plan.Plan.{Plan}
use Rattle.rank_order.specs.Instances.{Instance, IsInstance, before_it, release_of}

-- the tick after the last one in which the instance is served
pub record IsEnd (serve : ℕ → Option Instance) (x : Instance) (e : ℕ) : Type 0 where
  pub last : ℕ
  pub served : serve last ≡ Some x
  pub no_later : (t : ℕ) → last < t → serve t ≢ Some x
  pub after : e ≡ last + 1

-- the instance is released at t, and something is left of the one before it
pub record Late (p : Plan) (left : Instance → ℕ → ℕ) (t : ℕ) (x : Instance) : Type 0 where
  pub instance : IsInstance p x
  pub not_first : 2 ≤ x.number
  pub at : release_of p x ≡ t
  pub unfinished : 0 < left (before_it x) t

-- the least time at which an instance is late, and of those that are late then the one of the highest rank
pub record IsOverrun (p : Plan) (left : Instance → ℕ → ℕ) (t : ℕ) (x : Instance) : Type 0 where
  pub late : Late p left t x
  pub least : (u : ℕ) (y : Instance) → u < t → Late p left u y → ⊥
  pub highest : (y : Instance) → Late p left t y → slice_index p.diagram.ranks x.task ≤ slice_index p.diagram.ranks y.task

-- no instance is late
pub record NoOverrun (p : Plan) (left : Instance → ℕ → ℕ) : Type 0 where
  pub none : (t : ℕ) (x : Instance) → Late p left t x → ⊥
