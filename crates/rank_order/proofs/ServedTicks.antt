-- The served ticks of an instance, if whoever is served waits.
use Rattle.std.proofs.Common.{◌≡◌, ◌≢◌, ℕ, zero, suc, ◌+◌, ◌-◌, ◌≤◌, Option, Some, refl, ap, inl, inr, arith}
use Rattle.dbp_plan.specs.declared.plan.Plan.{Plan}
use Rattle.dbp_plan.specs.Lookups.{declared_task}
use Rattle.rank_order.specs.Instances.{Instance, release_of}
use Rattle.rank_order.specs.Service.{ServesWaiting, served_ticks, left_of}
use Rattle.rank_order.specs.Ends.{IsEnd}
use Rattle.rank_order.proofs.Choices.{tick_of, tick_cases}

pub served_next : (serve : ℕ → Option Instance) (x : Instance) (t : ℕ) → served_ticks serve x (suc t) ≡ served_ticks serve x t + tick_of x (serve t)
unfolding served_ticks
served_next serve x t = refl

pub served_none : (serve : ℕ → Option Instance) (x : Instance) → served_ticks serve x 0 ≡ 0
unfolding served_ticks
served_none serve x = refl

pub served_grows : (serve : ℕ → Option Instance) (x : Instance) (t k : ℕ) → served_ticks serve x t ≤ served_ticks serve x (t + k)
served_grows serve x t zero = let same : t + 0 ≡ t = omega arith in rw same (omega arith)
served_grows serve x t (suc k) =
    let next : t + suc k ≡ suc (t + k) = omega arith in
    rw next (omega (arith, served_grows serve x t k, served_next serve x (t + k)))

-- by one a tick at most
pub served_slowly : (serve : ℕ → Option Instance) (x : Instance) (t k : ℕ) → served_ticks serve x (t + k) ≤ served_ticks serve x t + k
served_slowly serve x t zero = let same : t + 0 ≡ t = omega arith in rw same (omega arith)
served_slowly serve x t (suc k) =
    let next : t + suc k ≡ suc (t + k) = omega arith in
    let before = served_slowly serve x t k in
    rw next (elim (tick_cases (serve (t + k)) x) [
      | inl own ↦ omega (arith, before, served_next serve x (t + k), own.1)
      | inr other ↦ omega (arith, before, served_next serve x (t + k), other.1)
    ])

-- less is left later
pub left_falls : (p : Plan) (serve : ℕ → Option Instance) (x : Instance) (t u : ℕ) → t ≤ u → left_of p serve x u ≤ left_of p serve x t
left_falls p serve x t u later =
    let same : t + (u - t) ≡ u = omega (arith, later) in
    let moved = ap (λ (n : ℕ). served_ticks serve x n) same in
    omega (arith, served_grows serve x t (u - t), moved)

module _ (p : Plan) (serve : ℕ → Option Instance) (waiting : ServesWaiting p serve) where
  -- none is served for longer than its cost
  pub served_within : (x : Instance) (t : ℕ) → served_ticks serve x t ≤ (declared_task p x.task).cost
  served_within x zero = omega (arith, served_none serve x)
  served_within x (suc t) = elim (tick_cases (serve t) x) [
    | inl own ↦ omega (arith, (waiting t x own.0).unfinished, served_next serve x t, own.1)
    | inr other ↦ omega (arith, served_within x t, served_next serve x t, other.1)
  ]

  -- none is served before its release
  pub unserved : (x : Instance) (t : ℕ) → t ≤ release_of p x → served_ticks serve x t ≡ 0
  unserved x zero early = served_none serve x
  unserved x (suc t) early = elim (tick_cases (serve t) x) [
    | inl own ↦ absurd (omega (arith, early, (waiting t x own.0).released))
    | inr other ↦ omega (arith, unserved x t (omega (arith, early)), served_next serve x t, other.1)
  ]

  -- one of which nothing is left is served no more
  pub unserved_after : (x : Instance) (e t : ℕ) → left_of p serve x e ≡ 0 → e ≤ t → serve t ≢ Some x
  unserved_after x e t done later is =
      let same : e + (t - e) ≡ t = omega (arith, later) in
      let moved = ap (λ (u : ℕ). served_ticks serve x u) same in
      omega (arith, done, (waiting t x is).unfinished, served_grows serve x e (t - e), moved)

  -- one that is served in a tick and has nothing left after it ends then
  pub ends_after : (x : Instance) (t : ℕ) → serve t ≡ Some x → left_of p serve x (t + 1) ≡ 0 → IsEnd serve x (t + 1)
  ends_after x t is done = record {
    last = t;
    served = is;
    no_later = λ u later. unserved_after x (t + 1) u done (omega (arith, later));
    after = refl;
  }
