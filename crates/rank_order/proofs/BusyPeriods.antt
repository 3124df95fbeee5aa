-- Busy periods under service by rank: from the last time on at which the tasks above a task have been served all that they asked for, each tick serves one of them.
use Rattle.std.proofs.Common.{◌≡◌, ℕ, zero, suc, ◌+◌, ◌-◌, ◌<◌, ◌≤◌, ◌⊎◌, ◌&&◌, true, ltb, eqb, Option, ap, subst, inl, inr, arith, slice_index}
use Rattle.std.proofs.lemmas.Bool.{and_parts, cases_lt, eqb-true, lt-ltb, ltb-true, or_cases}
use Rattle.dbp_plan.specs.declared.diagram.ServedBy.{ServedBy}
use Rattle.dbp_plan.specs.declared.diagram.ServedBy.TheVariants.{Rank}
use Rattle.dbp_plan.specs.declared.plan.Plan.{Plan}
use Rattle.rank_order.specs.Instances.{Instance, release_of}
use Rattle.rank_order.specs.Order.{ServesByRank, is_before, key_by}
use Rattle.rank_order.specs.Service.{GoesBefore, IsService, Waits, left_of}
use Rattle.rank_order.proofs.InstanceEnds.{served_first}
use Rattle.rank_order.proofs.ServedTicks.{left_falls}
use Rattle.rank_order.proofs.Work.{demand, is_above, work, work_behind, work_next, work_within}

-- one of the higher rank, or of the same rank and released before it
abbrev pub IsEarlier : Plan → Instance → Instance → Type 0
IsEarlier p z x = (slice_index p.diagram.ranks z.task < slice_index p.diagram.ranks x.task)
    ⊎ ((slice_index p.diagram.ranks z.task ≡ slice_index p.diagram.ranks x.task) × (release_of p z < release_of p x))

pub by_rank : (p : Plan) → ServesByRank p.diagram → (z x : Instance) → GoesBefore p z x → IsEarlier p z x
by_rank p ranked z x before =
    let ranks = p.diagram.ranks in
    let keys : is_before (key_by Rank p.diagram z.task (release_of p z)) (key_by Rank p.diagram x.task (release_of p x)) ≡ true =
    subst (λ (by : ServedBy). is_before (key_by by p.diagram z.task (release_of p z)) (key_by by p.diagram x.task (release_of p x)) ≡ true) ranked before in
    ordered (slice_index ranks z.task) (release_of p z) (slice_index ranks x.task) (release_of p x) keys
  where
    ordered : (a s b t : ℕ) → is_before (record { first = a; second = s }) (record { first = b; second = t }) ≡ true → (a < b) ⊎ ((a ≡ b) × (s < t))
    ordered a s b t h = elim (or_cases (ltb a b) (eqb a b && ltb s t) h) [
      | inl less ↦ inl (ltb-true a b less)
      | inr both ↦ let parts = and_parts (eqb a b) (ltb s t) both in inr (eqb-true a b parts.0, ltb-true s t parts.1)
    ]

-- from b to s each tick serves a task above i, and at b all that they asked for is served
pub record IsBusyPeriod (p : Plan) (serve : ℕ → Option Instance) (i b s : ℕ) : Type 0 where
  pub from : b ≤ s
  pub quiet : work p serve i b ≡ demand p i b
  pub busy : (u : ℕ) → b ≤ u → u ≤ s → work p serve i b + (u - b) ≤ work p serve i u

module _ (p : Plan) (serve : ℕ → Option Instance) (service : IsService p serve) (ranked : ServesByRank p.diagram) (i : ℕ) where
  higher_first : (x z : Instance) → is_above p x.task i ≡ true → (x ≡ z) ⊎ GoesBefore p z x → is_above p z.task i ≡ true
  higher_first x z higher (inl same) = subst (λ (y : Instance). is_above p y.task i ≡ true) same higher
  higher_first x z higher (inr before) =
      let above : slice_index p.diagram.ranks x.task < slice_index p.diagram.ranks i = ltb-true (slice_index p.diagram.ranks x.task) (slice_index p.diagram.ranks i) higher in
      lt-ltb (slice_index p.diagram.ranks z.task) (slice_index p.diagram.ranks i) (elim (by_rank p ranked z x before) [
        | inl rank ↦ omega (arith, rank, above)
        | inr tie ↦ omega (arith, tie.0, above)
      ])

  -- a tick after which less is served than asked for serves a task above i
  busy_tick : (t : ℕ) → work p serve i (suc t) < demand p i (suc t) → work p serve i t + 1 ≤ work p serve i (suc t)
  busy_tick t less =
      let (x, behind) = work_behind p serve service i (suc t) less in
      let waits : Waits p (left_of p serve) t x = record {
        instance = behind.instance;
        released = omega (arith, behind.released);
        unfinished = omega (arith, behind.unfinished, left_falls p serve x t (suc t) (omega arith));
      } in
      let (z, is, first) = served_first p serve service t x waits in
      work_next p serve service i t z is (higher_first x z behind.higher first)

  quiet_at : (s : ℕ) → demand p i s ≤ work p serve i s → IsBusyPeriod p serve i s s
  quiet_at s all = record {
    from = omega arith;
    quiet = omega (arith, all, work_within p serve service i s);
    busy = λ u late early.
        let same : u ≡ s = omega (arith, late, early) in
        omega (arith, ap (work p serve i) same, same);
  }

  longer : (b s : ℕ) → IsBusyPeriod p serve i b s → work p serve i s + 1 ≤ work p serve i (suc s) → IsBusyPeriod p serve i b (suc s)
  longer b s period more = record {
    from = omega (arith, period.from);
    quiet = period.quiet;
    busy = λ u late early. elim (cases_lt s u) [
      | inl last ↦
          let same : u ≡ suc s = omega (arith, last, early) in
          omega (arith, ap (work p serve i) same, same, more, period.from, period.busy s period.from (omega arith))
      | inr before ↦ period.busy u late before
    ];
  }

  -- each time stands in a busy period
  pub busy_period : (s : ℕ) → (b : ℕ) × IsBusyPeriod p serve i b s
  busy_period zero = elim (cases_lt (work p serve i 0) (demand p i 0)) [
    | inl less ↦ let (x, behind) = work_behind p serve service i 0 less in absurd (omega (arith, behind.released))
    | inr all ↦ (0, quiet_at 0 all)
  ]
  busy_period (suc s) = elim (cases_lt (work p serve i (suc s)) (demand p i (suc s))) [
    | inl less ↦ let (b, period) = busy_period s in (b, longer b s period (busy_tick s less))
    | inr all ↦ (suc s, quiet_at (suc s) all)
  ]
