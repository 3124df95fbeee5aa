-- A task has one bound.
use Rattle.std.proofs.Common.{◌≡◌, ℕ, zero, suc, ◌≤◌, ◌⊎◌, refl, ap, inl, inr, arith}
use Rattle.std.proofs.lemmas.Bool.{cases_eq, cases_lt}
use Rattle.dbp_plan.specs.declared.diagram.Diagram.{Diagram}
use Rattle.dbp_plan.specs.Lookups.{task_at}
use Rattle.rta_check.specs.declared.bound.Bound.{Bound}
use Rattle.rta_check.specs.declared.bound.Bound.TheVariants.{At, Beyond}
use Rattle.rta_check.specs.Periods.{period_of}
use Rattle.rta_check.specs.Requests.{request_bound}
use Rattle.rta_check.specs.Responses.{IsBound, IsResponse, SolvesEquation}

module _ (d : Diagram) (i : ℕ) where
  -- the numbers up to n have a least response time, or have none
  abbrev LeastUpTo : ℕ → Type 0
  LeastUpTo n = ((r : ℕ) × (r ≤ n) × IsResponse d i r) ⊎ ((s : ℕ) → s ≤ n → SolvesEquation d i s → ⊥)

  one_more : (n : ℕ) → ((s : ℕ) → s ≤ n → SolvesEquation d i s → ⊥) → LeastUpTo (suc n)
  one_more n none = elim (cases_eq (suc n) (request_bound d i (suc n))) [
    | inl equal ↦ elim (cases_lt (period_of (task_at d i).clock) (suc n)) [
      | inl past ↦ inr (λ s below solves. none s (omega (arith, below, past, solves.within)) solves)
      | inr within ↦ inl (
        suc n,
        omega arith,
        record {
          solves = record { some = omega arith; within = within; equal = equal };
          least = λ s solves. elim (cases_lt n s) [ inl more ↦ more | inr below ↦ absurd (none s below solves) ];
        },
      )
    ]
    | inr apart ↦ inr (λ s below solves. elim (cases_lt n s) [
      | inl more ↦
          let same : s ≡ suc n = omega (arith, below, more) in
          absurd (apart (omega (arith, same, solves.equal, ap (request_bound d i) same)))
      | inr less ↦ none s less solves
    ])
  ]

  least_up_to : (n : ℕ) → LeastUpTo n
  least_up_to zero = inr (λ s below solves. omega (arith, below, solves.some))
  least_up_to (suc n) = elim (least_up_to n) [
    | inl found ↦ inl (found.0, omega (arith, found.1), found.2)
    | inr none ↦ one_more n none
  ]

  pub some_bound : (b : Bound) × IsBound d i b
  some_bound = elim (least_up_to (period_of (task_at d i).clock)) [
    | inl found ↦ (At found.0, found.2)
    | inr none ↦ (Beyond, λ s solves. none s solves.within solves)
  ]

pub only_bound : (d : Diagram) (i : ℕ) (b c : Bound) → IsBound d i b → IsBound d i c → b ≡ c
only_bound d i (At r) (At s) h k = ap At (omega (arith, h.least s k.solves, k.least r h.solves))
only_bound d i (At r) Beyond h k = absurd (k r h.solves)
only_bound d i Beyond (At s) h k = absurd (h s k.solves)
only_bound d i Beyond Beyond h k = refl
