-- A plan of periodic tasks under service by rank keeps each response time.
use Rattle.std.proofs.Common.{◌≡◌, ℕ, zero, suc, ◌+◌, ◌-◌, ◌<◌, ◌≤◌, length, Option, sym, ap, subst, inl, inr, arith}
use Rattle.std.proofs.lemmas.Bool.{cases_lt}
use Rattle.dbp_plan.specs.declared.plan.Plan.{Plan}
use Rattle.dbp_plan.specs.Lookups.{declared_task, no_declared_task}
use Rattle.dbp_plan.specs.Occurrences.{time_of}
use Rattle.dbp_plan.proofs.ClockTimes.{a_period_apart}
use Rattle.rank_order.specs.Ends.{IsEnd}
use Rattle.rank_order.specs.Instances.{Instance, IsInstance, before_it, release_of}
use Rattle.rank_order.specs.Order.{ServesByRank}
use Rattle.rank_order.specs.Service.{IsService, left_of, served_ticks}
use Rattle.rank_order.specs.ServiceOf.{service}
use Rattle.rank_order.proofs.BusyPeriods.{IsBusyPeriod, busy_period}
use Rattle.rank_order.proofs.InstanceEnds.{ended_by, some_cost}
use Rattle.rank_order.proofs.PlanNumbers.{releases-rise}
use Rattle.rank_order.proofs.ServedTicks.{left_falls}
use Rattle.rank_order.proofs.SomeService.{service_is}
use Rattle.rank_order.proofs.Work.{work_within}
use Rattle.rta_check.specs.Periods.{IsPeriodic, period_of}
use Rattle.rta_check.specs.Responses.{KeepsBound, SolvesEquation}
use Rattle.rta_check.proofs.Demands.{clock_of, demand_within}
use Rattle.rta_check.proofs.Progress.{progress_at}

module _ (p : Plan) (serve : ℕ → Option Instance) (serving : IsService p serve) (ranked : ServesByRank p.diagram) (periodic : IsPeriodic p.diagram) (i r : ℕ) (solves : SolvesEquation p.diagram i r) where
  abbrev at : ℕ → Instance
  at n = record { task = i; number = n }

  abbrev release : ℕ → ℕ
  release n = time_of p.batches i n

  abbrev left : ℕ → ℕ → ℕ
  left n t = left_of p serve (at n) t

  -- an instance is released at least r ticks after each earlier one
  apart : (m n : ℕ) → IsInstance p (at n) → 1 ≤ m → m < n → release m + r ≤ release n
  apart m n is from_one less =
      let t = declared_task p i in
      let (offset, clock) = clock_of t.clock (periodic i no_declared_task is.task) in
      let next : release m + period_of t.clock ≤ release (m + 1) = a_period_apart p i (period_of t.clock) offset m is.task clock from_one (omega (arith, less, is.within)) in
      elim (cases_lt (m + 1) n) [
        | inl more ↦ omega (arith, next, solves.within, releases-rise p i (m + 1) n (omega arith) more is.within)
        | inr last ↦
            let same : m + 1 ≡ n = omega (arith, less, last) in
            omega (arith, next, solves.within, ap release same)
      ]

  -- the busy period that the release stands in is over within r ticks
  over : (b s : ℕ) → i < length p.diagram.tasks → IsBusyPeriod p serve i b s → s ≤ b + r
  over b s named period = elim (cases_lt (b + r) s) [
    | inl past ↦
        let window = demand_within p periodic i b r solves in
        absurd (omega (
          arith,
          window,
          period.quiet,
          period.busy (b + r) (omega arith) (omega (arith, past)),
          work_within p serve serving i (b + r),
          some_cost p i named,
        ))
    | inr within ↦ within
  ]

  -- if the earlier ones are finished at its release, an instance is finished r ticks later
  in_time : (n : ℕ) → IsInstance p (at n) → ((m : ℕ) → 1 ≤ m → m < n → left m (release n) ≡ 0) → left n (release n + r) ≡ 0
  in_time n is earlier =
      let s = release n in
      let (b, period) = busy_period p serve serving ranked i s in
      let end : s ≤ b + r = over b s is.task period in
      let later = left_falls p serve (at n) (b + r) (s + r) (omega (arith, period.from)) in
      elim (progress_at p serve serving ranked i n is earlier (b + r) end) [
        | inl done ↦ omega (arith, done, later)
        | inr served ↦
            let window = demand_within p periodic i b r solves in
            let whole : (declared_task p i).cost ≤ served_ticks serve (at n) (b + r) = omega (
              arith,
              served,
              window,
              period.from,
              period.quiet,
              period.busy s period.from (omega arith),
              work_within p serve serving i (b + r),
              end,
            ) in
            omega (arith, whole, later)
      ]

  finished : (bound n : ℕ) → n ≤ bound → IsInstance p (at n) → left n (release n + r) ≡ 0
  finished zero n le is = absurd (omega (arith, le, is.from_one))
  finished (suc bound) n le is = in_time n is (λ m from_one less.
      let m_is : IsInstance p (at m) = record { task = is.task; from_one = from_one; within = omega (arith, less, is.within) } in
      let done = finished bound m (omega (arith, le, less)) m_is in
      omega (arith, done, left_falls p serve (at m) (release m + r) (release n) (apart m n is from_one less)))

-- each instance of a task with a response time
module _ (p : Plan) (ranked : ServesByRank p.diagram) (periodic : IsPeriodic p.diagram) (x : Instance) (r : ℕ) (solves : SolvesEquation p.diagram x.task r) where
  -- is finished in time
  finished_in_time : IsInstance p x → left_of p (service p) x (release_of p x + r) ≡ 0
  finished_in_time is = finished p (service p) (service_is p) ranked periodic x.task r solves x.number x.number (omega arith) is

  -- and ends in time
  ends_in_time : IsInstance p x → (e : ℕ) × IsEnd (service p) x e × (e ≤ release_of p x + r)
  ends_in_time is = ended_by p (service p) (service_is p) x is (release_of p x + r) (finished_in_time is)

pub keeps_bound : (p : Plan) → ServesByRank p.diagram → IsPeriodic p.diagram → (i r : ℕ) → SolvesEquation p.diagram i r → KeepsBound p i r
keeps_bound p ranked periodic i r solves = record {
  none_late = λ t x same late.
      let solves_here : SolvesEquation p.diagram x.task r = subst (λ (j : ℕ). SolvesEquation p.diagram j r) (sym same) solves in
      let from_one : 1 ≤ x.number - 1 = omega (arith, late.not_first) in
      let before_is : IsInstance p (before_it x) = record { task = late.instance.task; from_one = from_one; within = omega (arith, late.instance.within) } in
      let done = finished_in_time p ranked periodic (before_it x) r solves_here before_is in
      let gap = apart p (service p) (service_is p) ranked periodic x.task r solves_here (x.number - 1) x.number late.instance from_one (omega (arith, late.not_first)) in
      let falls = left_falls p (service p) (before_it x) (release_of p (before_it x) + r) t (omega (arith, gap, late.at)) in
      omega (arith, done, falls, late.unfinished);
  ends = λ x same is. ends_in_time p ranked periodic x r (subst (λ (j : ℕ). SolvesEquation p.diagram j r) (sym same) solves) is;
}
