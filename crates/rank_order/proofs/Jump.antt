-- Between two events the service stays as it is.
use Rattle.std.proofs.Common.{◌≡◌, ℕ, zero, suc, ◌+◌, ◌-◌, ◌<◌, ◌≤◌, Option, Some, None, refl, sym, ap, inl, inr, arith}
use Rattle.dbp_plan.specs.declared.plan.Plan.{Plan}
use Rattle.rank_order.specs.Instances.{Instance, IsInstance, release_of}
use Rattle.rank_order.specs.Service.{GoesBefore, IsFirst, IsService, Ran, Waits, served_ticks, left_of}
use Rattle.rank_order.proofs.Choices.{cases_instance, tick_cases, tick_of, tick_other, tick_own}
use Rattle.rank_order.proofs.OneService.{one_choice}
use Rattle.rank_order.proofs.ServedTicks.{served_next, served_slowly}

-- the instance that alone is served is served in each tick
pub ran_serves : (serve : ℕ → Option Instance) (x : Instance) (t k : ℕ) → Ran serve x t k → (n : ℕ) → n < k → serve (t + n) ≡ Some x
ran_serves serve x t k ran n less =
    let next : t + suc n ≡ suc (t + n) = omega arith in
    let until : t + suc n + (k - suc n) ≡ t + k = omega (arith, less) in
    let before = served_slowly serve x t n in
    let after = served_slowly serve x (t + suc n) (k - suc n) in
    let same = ap (served_ticks serve x) until in
    let here = ap (served_ticks serve x) next in
    elim (tick_cases (serve (t + n)) x) [
      | inl own ↦ own.0
      | inr other ↦ absurd (omega (arith, less, ran.own, before, after, same, here, served_next serve x (t + n), other.1))
    ]

-- in the d ticks from t on, except the first, none is released
abbrev pub IsQuiet : Plan → ℕ → ℕ → Type 0
IsQuiet p t d = (y : Instance) → IsInstance p y → release_of p y < t + d → release_of p y ≤ t

module _ (p : Plan) (serve : ℕ → Option Instance) (service : IsService p serve) (t d : ℕ) (quiet : IsQuiet p t d) where
  -- the one that is served is served until its end or until the next release
  module _ (x : Instance) (first : IsFirst (GoesBefore p) (Waits p (left_of p serve) t) (Some x)) (fits : d ≤ left_of p serve x t) where
    still : (k : ℕ) → k < d → Ran serve x t k → serve (t + k) ≡ Some x
    still k less ran =
        one_choice p (Waits p (left_of p serve) (t + k)) (serve (t + k)) (Some x) (service.each (t + k)) (
          record {
            instance = first.0.instance;
            released = omega (arith, first.0.released);
            unfinished = omega (arith, ran.own, fits, less);
          },
          λ y w. elim (cases_instance y x) [
            | inl same ↦ inl same
            | inr apart ↦ first.1 y (record {
              instance = w.instance;
              released = quiet y w.instance (omega (arith, w.released, less));
              unfinished = omega (arith, w.unfinished, ran.others y apart);
            })
          ],
        )

    pub runs : (k : ℕ) → k ≤ d → Ran serve x t k
    runs zero le = let same : t + 0 ≡ t = omega arith in record { own = rw same (omega arith); others = λ y apart. rw same refl }
    runs (suc k) le =
        let next : t + suc k ≡ suc (t + k) = omega arith in
        let before : Ran serve x t k = runs k (omega (arith, le)) in
        let now : serve (t + k) ≡ Some x = still k (omega (arith, le)) before in
        record {
          own =
              let tick : tick_of x (serve (t + k)) ≡ 1 = rw now (tick_own x) in
              rw next (omega (arith, served_next serve x (t + k), tick, before.own));
          others = λ y apart.
              let tick : tick_of y (serve (t + k)) ≡ 0 = rw now (tick_other y x (λ same. apart (sym same))) in
              rw next (omega (arith, served_next serve y (t + k), tick, before.others y apart));
        }

    pub serves : (k : ℕ) → k < d → serve (t + k) ≡ Some x
    serves k less = still k less (runs k (omega (arith, less)))

  -- if none waits none is served until the next release
  module _ (none : (y : Instance) → Waits p (left_of p serve) t y → ⊥) where
    idle : (k : ℕ) → k < d → ((y : Instance) → served_ticks serve y (t + k) ≡ served_ticks serve y t) → serve (t + k) ≡ None
    idle k less same =
        one_choice p (Waits p (left_of p serve) (t + k)) (serve (t + k)) None (service.each (t + k)) (λ y w.
        none y (record {
          instance = w.instance;
          released = quiet y w.instance (omega (arith, w.released, less));
          unfinished = omega (arith, w.unfinished, same y);
        }))

    pub rests : (k : ℕ) → k ≤ d → (y : Instance) → served_ticks serve y (t + k) ≡ served_ticks serve y t
    rests zero le y = let same : t + 0 ≡ t = omega arith in rw same refl
    rests (suc k) le y =
        let next : t + suc k ≡ suc (t + k) = omega arith in
        let now : serve (t + k) ≡ None = idle k (omega (arith, le)) (rests k (omega (arith, le))) in
        let tick : tick_of y (serve (t + k)) ≡ 0 = rw now refl in
        rw next (omega (arith, served_next serve y (t + k), tick, rests k (omega (arith, le)) y))

    pub nobody : (k : ℕ) → k < d → serve (t + k) ≡ None
    nobody k less = idle k less (rests k (omega (arith, less)))
