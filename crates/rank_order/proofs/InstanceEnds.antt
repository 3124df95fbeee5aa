-- Each instance has an end: while one waits, each tick takes one from what is left of all.
use Rattle.std.proofs.Common.{◌≡◌, ℕ, zero, suc, ◌+◌, ◌<◌, ◌≤◌, ◌⊎◌, List, length, Option, Some, None, refl, subst, inl, inr, arith}
use Rattle.std.specs.Prelude.{sum_by}
use Rattle.std.proofs.lemmas.Bool.{cases_lt}
use Rattle.dbp_plan.specs.declared.plan.Plan.{Plan}
use Rattle.dbp_plan.specs.Lookups.{declared_task, no_declared_task}
use Rattle.rank_order.specs.Ends.{IsEnd}
use Rattle.rank_order.specs.Instances.{Instance, IsInstance, release_of}
use Rattle.rank_order.specs.Service.{GoesBefore, IsFirst, IsService, Waits, left_of}
use Rattle.rank_order.specs.ServiceOf.{instances_below}
use Rattle.rank_order.proofs.Choices.{tick_cases, tick_of, tick_own}
use Rattle.rank_order.proofs.OneService.{serves_waiting}
use Rattle.rank_order.proofs.ServedTicks.{ends_after, left_falls, served_next, served_none}
use Rattle.rank_order.proofs.SomeService.{Among, among_below}
use Rattle.rank_order.proofs.Sums.{sum_more}

-- all instances of the plan
abbrev pub instances : Plan → List Instance
instances p = instances_below p (length p.diagram.tasks)

pub instance_listed : (p : Plan) (x : Instance) → IsInstance p x → Among (instances p) x
instance_listed p x is = (among_below p (length p.diagram.tasks) x).1 (is.task, is.from_one, is.within)

pub listed_instance : (p : Plan) (x : Instance) → Among (instances p) x → IsInstance p x
listed_instance p x among =
    let r = (among_below p (length p.diagram.tasks) x).0 among in
    record { task = r.0; from_one = r.1; within = r.2 }

-- an instance takes a tick at least
pub some_cost : (p : Plan) (i : ℕ) → i < length p.diagram.tasks → 1 ≤ (declared_task p i).cost
some_cost p i named = (p.rules.ranked.closed.each i no_declared_task named).cost.0

module _ (p : Plan) (serve : ℕ → Option Instance) (service : IsService p serve) where
  first_of : (t : ℕ) (x : Instance) (o : Option Instance) → serve t ≡ o → IsFirst (GoesBefore p) (Waits p (left_of p serve) t) o → Waits p (left_of p serve) t x
      → (z : Instance) × (serve t ≡ Some z) × ((x ≡ z) ⊎ GoesBefore p z x)
  first_of t x None is first waits = absurd (first x waits)
  first_of t x (Some z) is first waits = (z, is, first.1 x waits)

  -- while an instance waits one is served: this one, or one that goes before it
  pub served_first : (t : ℕ) (x : Instance) → Waits p (left_of p serve) t x → (z : Instance) × (serve t ≡ Some z) × ((x ≡ z) ⊎ GoesBefore p z x)
  served_first t x waits = first_of t x (serve t) refl (service.each t) waits

  -- an instance of which nothing is left has ended
  pub ended_by : (x : Instance) → IsInstance p x → (t : ℕ) → left_of p serve x t ≡ 0 → (e : ℕ) × IsEnd serve x e × (e ≤ t)
  ended_by x is zero done = absurd (omega (arith, done, served_none serve x, some_cost p x.task is.task))
  ended_by x is (suc t) done = elim (tick_cases (serve t) x) [
    | inl own ↦
        let next : suc t ≡ t + 1 = omega arith in
        (t + 1, ends_after p serve (serves_waiting p serve service) x t own.0 (subst (λ (u : ℕ). left_of p serve x u ≡ 0) next done), omega arith)
    | inr other ↦
        let (e, end, within) = ended_by x is t (omega (arith, done, served_next serve x t, other.1)) in
        (e, end, omega (arith, within))
  ]

  -- what is left of all instances
  total : ℕ → ℕ
  total t = sum_by (λ x. left_of p serve x t) (instances p)

  total_falls : (t : ℕ) (x : Instance) → Waits p (left_of p serve) t x → total (suc t) + 1 ≤ total t
  unfolding total
  total_falls t x waits =
      let (z, is, first) = served_first t x waits in
      let z_waits : Waits p (left_of p serve) t z = serves_waiting p serve service t z is in
      let tick : tick_of z (serve t) ≡ 1 = rw is (tick_own z) in
      sum_more (λ y. left_of p serve y (suc t)) (λ y. left_of p serve y t) (instances p) z
      (λ y. left_falls p serve y t (suc t) (omega arith)) (instance_listed p z z_waits.instance)
      (omega (arith, z_waits.unfinished, served_next serve z t, tick))

  -- k ticks after its release nothing is left of an instance, or k ticks less of all
  drained : (x : Instance) → IsInstance p x → (k : ℕ) → (left_of p serve x (release_of p x + k) ≡ 0) ⊎ (total (release_of p x + k) + k ≤ total (release_of p x))
  drained x is zero = let same : release_of p x + 0 ≡ release_of p x = omega arith in inr (rw same (omega arith))
  drained x is (suc k) = subst (λ (u : ℕ). (left_of p serve x u ≡ 0) ⊎ (total u + suc k ≤ total (release_of p x))) next (more (drained x is k))
    where
      next : suc (release_of p x + k) ≡ release_of p x + suc k
      next = omega arith

      more : (left_of p serve x (release_of p x + k) ≡ 0) ⊎ (total (release_of p x + k) + k ≤ total (release_of p x))
          → (left_of p serve x (suc (release_of p x + k)) ≡ 0) ⊎ (total (suc (release_of p x + k)) + suc k ≤ total (release_of p x))
      more (inl done) = inl (omega (arith, done, left_falls p serve x (release_of p x + k) (suc (release_of p x + k)) (omega arith)))
      more (inr less) = elim (cases_lt 0 (left_of p serve x (release_of p x + k))) [
        | inl some ↦ inr (omega (arith, less, total_falls (release_of p x + k) x (record { instance = is; released = omega arith; unfinished = some })))
        | inr none ↦ inl (omega (arith, none, left_falls p serve x (release_of p x + k) (suc (release_of p x + k)) (omega arith)))
      ]

  pub has_end : (x : Instance) → IsInstance p x → (e : ℕ) × IsEnd serve x e
  has_end x is = elim (drained x is (total (release_of p x) + 1)) [
    | inl done ↦ let (e, end, within) = ended_by x is (release_of p x + (total (release_of p x) + 1)) done in (e, end)
    | inr less ↦ absurd (omega (arith, less))
  ]
