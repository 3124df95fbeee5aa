-- Between two events each processor serves whom it serves at first.
use Rattle.std.proofs.Common.{◌≡◌, ◌≢◌, ℕ, zero, suc, ◌+◌, ◌-◌, ◌<◌, ◌≤◌, ◌⊎◌, false, Option, Some, sym, ap, ◌∙◌, subst, inl, inr, arith}
use Rattle.std.specs.Prelude.{◌==◌, ◌&&◌, nat_lt}
use Rattle.std.proofs.lemmas.Bool.{and_parts, cases_Bool, cases_eq, cases_lt, eqb-true, lt-ltb}
use Rattle.std.proofs.lemmas.Option.{get_or_from_slice_get, slice_get_within}
use Rattle.dbp_plan.specs.declared.diagram.Read.{Read}
use Rattle.dbp_plan.specs.declared.plan.Plan.{Plan}
use Rattle.dbp_plan.specs.Lookups.{declared_task, link_at, no_read}
use Rattle.rank_order.specs.Instances.{Instance}
use Rattle.rank_order.specs.Service.{GoesBefore, Ran, served_ticks}
use Rattle.rank_order.proofs.Choices.{first_like, tick_cases, tick_of, tick_own}
use Rattle.rank_order.proofs.Jump.{IsQuiet}
use Rattle.rank_order.proofs.OneService.{one_choice}
use Rattle.rank_order.proofs.ServedTicks.{served_next}
use Rattle.virtual_time.specs.Events.{IsNextEvent}
use Rattle.virtual_time.proofs.PieceEvents.{NoReadAt}
use Rattle.cpu_sim.specs.Processors.{IsServiceOn, MayBeServed, cpu_of, is_blocked, left_on, read_blocks, read_number, served_on}
use Rattle.cpu_sim.proofs.FreeFirst.{passing}
use Rattle.cpu_sim.proofs.OneServiceOn.{blocked-alike, serves-one-of}

-- ---- one processor, which serves the same in some ticks

-- in the k ticks from t on it serves whom it serves at t
abbrev pub Stays : (ℕ → Option Instance) → ℕ → ℕ → Type 0
Stays serve t k = (j : ℕ) → j < k → serve (t + j) ≡ serve t

module _ (serve : ℕ → Option Instance) (t : ℕ) where
  pub served_more : (x : Instance) → serve t ≡ Some x → (k : ℕ) → Stays serve t k → served_ticks serve x (t + k) ≡ served_ticks serve x t + k
  served_more x is zero stays = let same : t + 0 ≡ t = omega arith in rw same (omega arith)
  served_more x is (suc k) stays =
      let next : t + suc k ≡ suc (t + k) = omega arith in
      let now : serve (t + k) ≡ Some x = stays k (omega arith) ∙ is in
      let tick : tick_of x (serve (t + k)) ≡ 1 = rw now (tick_own x) in
      let before = served_more x is k (λ j less. stays j (omega (arith, less))) in
      rw next (omega (arith, served_next serve x (t + k), tick, before))

  pub served_as_before : (y : Instance) → serve t ≢ Some y → (k : ℕ) → Stays serve t k → served_ticks serve y (t + k) ≡ served_ticks serve y t
  served_as_before y apart zero stays = let same : t + 0 ≡ t = omega arith in ap (served_ticks serve y) same
  served_as_before y apart (suc k) stays =
      let next : t + suc k ≡ suc (t + k) = omega arith in
      let before = served_as_before y apart k (λ j less. stays j (omega (arith, less))) in
      elim (tick_cases (serve (t + k)) y) [
        | inl own ↦ absurd (apart (sym (stays k (omega arith)) ∙ own.0))
        | inr other ↦ rw next (omega (arith, served_next serve y (t + k), other.1, before))
      ]

  pub stays_ran : (x : Instance) → serve t ≡ Some x → (k : ℕ) → Stays serve t k → Ran serve x t k
  stays_ran x is k stays = record {
    own = served_more x is k stays;
    others = λ y apart. served_as_before y (λ other. let same : Some y ≡ Some x = sym other ∙ is in apart (cc)) k stays;
  }

-- ---- the next event of one that is served

-- an instance of the task that was served so many ticks has d left, and is due to make no read inside of them
pub record RunsFor (p : Plan) (i served d : ℕ) : Type 0 where
  pub fits : served + d ≤ (declared_task p i).cost
  pub no_read : (c : ℕ) → served < c → c < served + d → NoReadAt p i c

pub runs_for : (p : Plan) (i served ticks d : ℕ) → IsNextEvent (declared_task p i) served ticks → d ≤ ticks → RunsFor p i served d
runs_for p i served ticks d next le = record {
  fits = omega (arith, next.within, le);
  no_read = λ c above below r inside at. let sooner = next.no_sooner r inside (omega (arith, above, at)) in omega (arith, sooner, le, at, below);
}

-- one that is due to make no read isn't blocked
no-read-free : (p : Plan) (served : Instance → ℕ) (x : Instance) → NoReadAt p x.task (served x) → is_blocked p served x ≡ false
no-read-free p served x none = elim (cases_Bool (is_blocked p served x)) [
  | inr free ↦ free
  | inl blocked ↦
      let (k, r, at, passes) = passing (read_blocks p served x) (declared_task p x.task).reads blocked in
      let l = link_at p.diagram.links r.link in
      let y : Instance = record { task = l.writer; number = read_number p x l.writer } in
      let (due, more) = and_parts (r.at == served x) ((l.delay == 0) && (nat_lt 0 y.number && nat_lt (served y) (declared_task p l.writer).cost)) passes in
      absurd (none k (slice_get_within (declared_task p x.task).reads k r at) (ap (λ (r : Read). r.at) (get_or_from_slice_get (declared_task p x.task).reads k r no_read at) ∙ eqb-true r.at (served x) due))
]

-- ---- all processors

module _ (p : Plan) (serve : ℕ → ℕ → Option Instance) (h : IsServiceOn p serve) (t d : ℕ) (quiet : IsQuiet p t d)
    (runs : (c : ℕ) (x : Instance) → serve c t ≡ Some x → RunsFor p x.task (served_on p serve t x) d) where
  -- the first k ticks of them are as the first
  module _ (k : ℕ) (less : k < d) (stays : (c : ℕ) → Stays (serve c) t k) where
    record Running (x : Instance) : Type 0 where
      pub now : serve (cpu_of p x) t ≡ Some x
      pub served : served_on p serve (t + k) x ≡ served_on p serve t x + k

    running-or-not : (x : Instance) → Running x ⊎ (served_on p serve (t + k) x ≡ served_on p serve t x)
    running-or-not x = elim (tick_cases (serve (cpu_of p x) t) x) [
      | inl own ↦ inl (record { now = own.0; served = served_more (serve (cpu_of p x)) t x own.0 k (stays (cpu_of p x)) })
      | inr other ↦ inr (served_as_before (serve (cpu_of p x)) t x other.0 k (stays (cpu_of p x)))
    ]

    unfinished-alike : (x : Instance) → nat_lt (served_on p serve (t + k) x) (declared_task p x.task).cost ≡ nat_lt (served_on p serve t x) (declared_task p x.task).cost
    unfinished-alike x = elim (running-or-not x) [
      | inl running ↦
          let fits = (runs (cpu_of p x) x running.now).fits in
          lt-ltb (served_on p serve (t + k) x) (declared_task p x.task).cost (omega (arith, fits, running.served, less))
          ∙ sym (lt-ltb (served_on p serve t x) (declared_task p x.task).cost (omega (arith, fits, less)))
      | inr same ↦ ap (λ n. nat_lt n (declared_task p x.task).cost) same
    ]

    blocked-same : (x : Instance) → is_blocked p (served_on p serve (t + k)) x ≡ is_blocked p (served_on p serve t) x
    blocked-same x = elim (running-or-not x) [
      | inr same ↦ blocked-alike p (served_on p serve (t + k)) (served_on p serve t) x same unfinished-alike
      | inl running ↦ elim (cases_eq k 0) [
        | inl none ↦ blocked-alike p (served_on p serve (t + k)) (served_on p serve t) x (omega (arith, running.served, none)) unfinished-alike
        | inr some ↦
            let none = (runs (cpu_of p x) x running.now).no_read (served_on p serve (t + k) x) (omega (arith, running.served, some)) (omega (arith, running.served, less)) in
            no-read-free p (served_on p serve (t + k)) x none ∙ sym (serves-one-of p serve h (cpu_of p x) t x running.now).free
      ]
    ]

    later : (c : ℕ) (x : Instance) → MayBeServed p serve c t x → MayBeServed p serve c (t + k) x
    later c x may = record {
      waits = record {
        instance = may.waits.instance;
        released = omega (arith, may.waits.released);
        unfinished = elim (running-or-not x) [
          | inl running ↦ omega (arith, (runs (cpu_of p x) x running.now).fits, running.served, less)
          | inr same ↦ omega (arith, same, may.waits.unfinished)
        ];
      };
      own = may.own;
      free = blocked-same x ∙ may.free;
    }

    earlier : (c : ℕ) (x : Instance) → MayBeServed p serve c (t + k) x → MayBeServed p serve c t x
    earlier c x may = record {
      waits = record {
        instance = may.waits.instance;
        released = quiet x may.waits.instance (omega (arith, may.waits.released, less));
        unfinished = elim (running-or-not x) [
          | inl running ↦ omega (arith, (runs (cpu_of p x) x running.now).fits, less)
          | inr same ↦ omega (arith, same, may.waits.unfinished)
        ];
      };
      own = may.own;
      free = sym (blocked-same x) ∙ may.free;
    }

    same-choice : (c : ℕ) → serve c (t + k) ≡ serve c t
    same-choice c =
        one_choice p (MayBeServed p serve c (t + k)) (serve c (t + k)) (serve c t) (h.each c (t + k))
        (first_like (GoesBefore p) (MayBeServed p serve c t) (MayBeServed p serve c (t + k)) (serve c t) (later c) (earlier c) (h.each c t))

  stays-for : (k : ℕ) → k ≤ d → (c : ℕ) → Stays (serve c) t k
  stays-for zero le c j less = absurd (omega (arith, less))
  stays-for (suc k) le c j less = elim (cases_lt j k) [
    | inl before ↦ stays-for k (omega (arith, le)) c j before
    | inr no_less ↦
        let last : j ≡ k = omega (arith, less, no_less) in
        ap (λ n. serve c (t + n)) last ∙ same-choice k (omega (arith, le)) (stays-for k (omega (arith, le))) c
  ]

  -- each processor serves whom it serves at t
  pub stays_on : (c : ℕ) → Stays (serve c) t d
  stays_on c = stays-for d (omega arith) c

  -- the one that it serves is served alone
  pub runs_there : (c : ℕ) (x : Instance) → serve c t ≡ Some x → (k : ℕ) → k ≤ d → Ran (serve c) x t k
  runs_there c x is k le = stays_ran (serve c) t x is k (stays-for k le c)

  -- what is left of another is as before
  pub rests_there : (c : ℕ) (y : Instance) → serve c t ≢ Some y → (k : ℕ) → k ≤ d → served_ticks (serve c) y (t + k) ≡ served_ticks (serve c) y t
  rests_there c y apart k le = served_as_before (serve c) t y apart k (stays-for k le c)

  -- what each was served then, and what is left of it
  pub runs_served : (c : ℕ) (x : Instance) → serve c t ≡ Some x → (k : ℕ) → k ≤ d → served_on p serve (t + k) x ≡ served_on p serve t x + k
  runs_served c x is k le =
      let here : serve (cpu_of p x) t ≡ Some x = subst (λ (n : ℕ). serve n t ≡ Some x) (sym (serves-one-of p serve h c t x is).own) is in
      served_more (serve (cpu_of p x)) t x here k (stays-for k le (cpu_of p x))

  pub rests_served : (x : Instance) → serve (cpu_of p x) t ≢ Some x → (k : ℕ) → k ≤ d → served_on p serve (t + k) x ≡ served_on p serve t x
  rests_served x apart k le = rests_there (cpu_of p x) x apart k le

  pub runs_left : (c : ℕ) (x : Instance) → serve c t ≡ Some x → (k : ℕ) → k ≤ d → left_on p serve x (t + k) + k ≡ left_on p serve x t
  runs_left c x is k le = omega (arith, runs_served c x is k le, (runs c x is).fits, le)

  pub rests_left : (x : Instance) → serve (cpu_of p x) t ≢ Some x → (k : ℕ) → k ≤ d → left_on p serve x (t + k) ≡ left_on p serve x t
  rests_left x apart k le = ap (λ n. (declared_task p x.task).cost - n) (rests_served x apart k le)
