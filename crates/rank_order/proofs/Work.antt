-- What the instances of the tasks above a task ask for before a time, and what of it was served: two sums over all instances.
use Rattle.std.proofs.Common.{◌≡◌, ℕ, suc, ◌+◌, ◌<◌, ◌≤◌, ◌&&◌, Bool, true, false, Option, Some, refl, inl, inr, arith, slice_index}
use Rattle.std.specs.Prelude.{if◌then◌else◌, nat_lt, sum_by}
use Rattle.std.proofs.lemmas.Bool.{cases_Bool, cases_lt, le-ltb, lt-ltb}
use Rattle.std.proofs.lemmas.List.Sums.{sum_by-le-sum_by}
use Rattle.dbp_plan.specs.declared.plan.Plan.{Plan}
use Rattle.dbp_plan.specs.Lookups.{declared_task}
use Rattle.rank_order.specs.Instances.{Instance, IsInstance, release_of}
use Rattle.rank_order.specs.Service.{IsService, ServesWaiting, Waits, left_of, served_ticks}
use Rattle.rank_order.proofs.Choices.{tick_of, tick_own}
use Rattle.rank_order.proofs.InstanceEnds.{instance_listed, instances, listed_instance}
use Rattle.rank_order.proofs.OneService.{serves_waiting}
use Rattle.rank_order.proofs.ServedTicks.{served_next, served_within, unserved}
use Rattle.rank_order.proofs.Sums.{sum_less, sum_more}

-- whether the task j is ranked above the task i
abbrev pub is_above : Plan → ℕ → ℕ → Bool
is_above p j i = nat_lt (slice_index p.diagram.ranks j) (slice_index p.diagram.ranks i)

-- the cost of the instance, if it is of a task above i and released before t
abbrev pub asked : Plan → ℕ → ℕ → Instance → ℕ
asked p i t x = if is_above p x.task i && nat_lt (release_of p x) t then (declared_task p x.task).cost else 0

-- the ticks before t in which it is served, if it is of a task above i
abbrev pub given : Plan → (ℕ → Option Instance) → ℕ → ℕ → Instance → ℕ
given p serve i t x = if is_above p x.task i then served_ticks serve x t else 0

-- what the tasks above i ask for before t
unfoldable pub demand : Plan → ℕ → ℕ → ℕ
demand p i t = sum_by (asked p i t) (instances p)

-- what of it was served
unfoldable pub work : Plan → (ℕ → Option Instance) → ℕ → ℕ → ℕ
work p serve i t = sum_by (given p serve i t) (instances p)

pub asked_lower : (p : Plan) (i t : ℕ) (x : Instance) → is_above p x.task i ≡ false → asked p i t x ≡ 0
asked_lower p i t x lower = rw lower refl

pub asked_before : (p : Plan) (i t : ℕ) (x : Instance) → is_above p x.task i ≡ true → release_of p x < t → asked p i t x ≡ (declared_task p x.task).cost
asked_before p i t x higher before = rw (higher, lt-ltb (release_of p x) t before) refl

pub asked_after : (p : Plan) (i t : ℕ) (x : Instance) → t ≤ release_of p x → asked p i t x ≡ 0
asked_after p i t x after = elim (cases_Bool (is_above p x.task i)) [
  | inl higher ↦ rw (higher, le-ltb (release_of p x) t after) refl
  | inr lower ↦ asked_lower p i t x lower
]

given_higher : (p : Plan) (serve : ℕ → Option Instance) (i t : ℕ) (x : Instance) → is_above p x.task i ≡ true → given p serve i t x ≡ served_ticks serve x t
given_higher p serve i t x higher = rw higher refl

given_lower : (p : Plan) (serve : ℕ → Option Instance) (i t : ℕ) (x : Instance) → is_above p x.task i ≡ false → given p serve i t x ≡ 0
given_lower p serve i t x lower = rw lower refl

-- an instance of a task above i is released before t, and something is left of it at t
pub record IsBehind (p : Plan) (serve : ℕ → Option Instance) (i t : ℕ) (x : Instance) : Type 0 where
  pub instance : IsInstance p x
  pub higher : is_above p x.task i ≡ true
  pub released : release_of p x < t
  pub unfinished : 0 < left_of p serve x t

module _ (p : Plan) (serve : ℕ → Option Instance) (service : IsService p serve) (i : ℕ) where
  waiting : ServesWaiting p serve
  waiting = serves_waiting p serve service

  given_asked : (t : ℕ) (x : Instance) → given p serve i t x ≤ asked p i t x
  given_asked t x = elim (cases_Bool (is_above p x.task i)) [
    | inl higher ↦ elim (cases_lt (release_of p x) t) [
      | inl before ↦ omega (arith, given_higher p serve i t x higher, asked_before p i t x higher before, served_within p serve waiting x t)
      | inr after ↦ omega (arith, given_higher p serve i t x higher, unserved p serve waiting x t after)
    ]
    | inr lower ↦ omega (arith, given_lower p serve i t x lower)
  ]

  behind : (t : ℕ) (x : Instance) → IsInstance p x → given p serve i t x < asked p i t x → IsBehind p serve i t x
  behind t x is less = elim (cases_Bool (is_above p x.task i)) [
    | inl higher ↦ elim (cases_lt (release_of p x) t) [
      | inl before ↦ record {
        instance = is;
        higher = higher;
        released = before;
        unfinished = omega (arith, less, given_higher p serve i t x higher, asked_before p i t x higher before);
      }
      | inr after ↦ absurd (omega (arith, less, asked_after p i t x after))
    ]
    | inr lower ↦ absurd (omega (arith, less, asked_lower p i t x lower))
  ]

  given_grows : (t : ℕ) (x : Instance) → given p serve i t x ≤ given p serve i (suc t) x
  given_grows t x = elim (cases_Bool (is_above p x.task i)) [
    | inl higher ↦ omega (arith, given_higher p serve i t x higher, given_higher p serve i (suc t) x higher, served_next serve x t)
    | inr lower ↦ omega (arith, given_lower p serve i t x lower)
  ]

  -- no more is served than asked for
  pub work_within : (t : ℕ) → work p serve i t ≤ demand p i t
  unfolding work demand
  work_within t = sum_by-le-sum_by (given p serve i t) (asked p i t) (instances p) (given_asked t)

  -- if less is served, an instance is behind
  pub work_behind : (t : ℕ) → work p serve i t < demand p i t → (x : Instance) × IsBehind p serve i t x
  unfolding work demand
  work_behind t less =
      let (x, among, less_here) = sum_less (given p serve i t) (asked p i t) (instances p) less in
      (x, behind t x (listed_instance p x among) less_here)

  pub work_grows : (t : ℕ) → work p serve i t ≤ work p serve i (suc t)
  unfolding work
  work_grows t = sum_by-le-sum_by (given p serve i t) (given p serve i (suc t)) (instances p) (given_grows t)

  -- a tick that serves a task above i
  pub work_next : (t : ℕ) (z : Instance) → serve t ≡ Some z → is_above p z.task i ≡ true → work p serve i t + 1 ≤ work p serve i (suc t)
  unfolding work
  work_next t z is higher =
      let waits : Waits p (left_of p serve) t z = waiting t z is in
      let tick : tick_of z (serve t) ≡ 1 = rw is (tick_own z) in
      sum_more (given p serve i t) (given p serve i (suc t)) (instances p) z (given_grows t) (instance_listed p z waits.instance)
      (omega (arith, given_higher p serve i t z higher, given_higher p serve i (suc t) z higher, served_next serve z t, tick))
