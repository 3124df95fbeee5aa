-- A plan has one service at most on its processors, and whom it serves there.
use Rattle.std.proofs.Common.{◌≡◌, ℕ, zero, suc, ◌<◌, ◌≤◌, List, [], ◌∷◌, Option, Some, None, refl, sym, ap, ◌∙◌, subst, arith}
use Rattle.std.specs.Prelude.{◌||◌, nat_lt, ◌==◌, ◌&&◌}
use Rattle.std.specs.List.{list_any}
use Rattle.dbp_plan.specs.declared.diagram.Read.{Read}
use Rattle.dbp_plan.specs.declared.limits.TheConstants.{MAX_CPU}
use Rattle.dbp_plan.specs.declared.plan.Plan.{Plan}
use Rattle.dbp_plan.specs.Lookups.{declared_task, link_at, no_declared_task}
use Rattle.rank_order.specs.Instances.{Instance}
use Rattle.rank_order.specs.Service.{GoesBefore, IsFirst, ServesWaiting, left_of}
use Rattle.rank_order.proofs.Choices.{first_like, tick_of}
use Rattle.rank_order.proofs.OneService.{one_choice}
use Rattle.rank_order.proofs.ServedTicks.{served_next, served_none}
use Rattle.cpu_sim.specs.Processors.{IsServiceOn, MayBeServed, cpu_of, is_blocked, read_number, served_on, read_blocks}

-- counts block an instance equally if they are equal of it, and each instance is unfinished by both or by neither
pub blocked-alike : (p : Plan) (served other : Instance → ℕ) (x : Instance) → served x ≡ other x
    → ((y : Instance) → nat_lt (served y) (declared_task p y.task).cost ≡ nat_lt (other y) (declared_task p y.task).cost) → is_blocked p served x ≡ is_blocked p other x
blocked-alike p served other x same unfinished = any-like (declared_task p x.task).reads
  where
    one-like : (r : Read) → read_blocks p served x r ≡ read_blocks p other x r
    one-like r =
        let l = link_at p.diagram.links r.link in
        let y : Instance = record { task = l.writer; number = read_number p x l.writer } in
        ap (λ n. (r.at == n) && ((l.delay == 0) && (nat_lt 0 y.number && nat_lt (served y) (declared_task p l.writer).cost))) same
        ∙ ap (λ b. (r.at == other x) && ((l.delay == 0) && (nat_lt 0 y.number && b))) (unfinished y)

    any-like : (rs : List Read) → list_any (read_blocks p served x) rs ≡ list_any (read_blocks p other x) rs
    any-like [] = refl
    any-like (r ∷ rs) = ap (λ b. b || list_any (read_blocks p served x) rs) (one-like r) ∙ ap (λ b. read_blocks p other x r || b) (any-like rs)

-- equal counts block equally
pub blocked-like : (p : Plan) (served other : Instance → ℕ) → ((x : Instance) → served x ≡ other x) → (x : Instance) → is_blocked p served x ≡ is_blocked p other x
blocked-like p served other same x = blocked-alike p served other x (same x) (λ y. ap (λ n. nat_lt n (declared_task p y.task).cost) (same y))

may-like : (p : Plan) (s s' : ℕ → ℕ → Option Instance) (c t : ℕ) → ((x : Instance) → served_on p s t x ≡ served_on p s' t x) → (x : Instance) → MayBeServed p s c t x → MayBeServed p s' c t x
may-like p s s' c t same x may = record {
  waits = record { instance = may.waits.instance; released = may.waits.released; unfinished = omega (arith, same x, may.waits.unfinished) };
  own = may.own;
  free = blocked-like p (served_on p s' t) (served_on p s t) (λ y. sym (same y)) x ∙ may.free;
}

module _ (p : Plan) (s s' : ℕ → ℕ → Option Instance) (h : IsServiceOn p s) (h' : IsServiceOn p s') where
  same_tick : (c t : ℕ) → ((x : Instance) → served_on p s t x ≡ served_on p s' t x) → s c t ≡ s' c t
  same_tick c t same =
      one_choice p (MayBeServed p s' c t) (s c t) (s' c t)
      (first_like (GoesBefore p) (MayBeServed p s c t) (MayBeServed p s' c t) (s c t) (may-like p s s' c t same) (may-like p s' s c t (λ x. sym (same x))) (h.each c t))
      (h'.each c t)

  same_served : (t : ℕ) (x : Instance) → served_on p s t x ≡ served_on p s' t x
  same_served zero x = served_none (s (cpu_of p x)) x ∙ sym (served_none (s' (cpu_of p x)) x)
  same_served (suc t) x =
      let now = ap (tick_of x) (same_tick (cpu_of p x) t (same_served t)) in
      omega (arith, same_served t x, now, served_next (s (cpu_of p x)) x t, served_next (s' (cpu_of p x)) x t)

  pub one-service-on : (c t : ℕ) → s c t ≡ s' c t
  one-service-on c t = same_tick c t (same_served t)

module _ (p : Plan) (serve : ℕ → ℕ → Option Instance) (h : IsServiceOn p serve) where
  -- whom a processor serves is one that it may serve
  pub serves-one-of : (c t : ℕ) (x : Instance) → serve c t ≡ Some x → MayBeServed p serve c t x
  serves-one-of c t x is = let first : IsFirst (GoesBefore p) (MayBeServed p serve c t) (Some x) = subst (IsFirst (GoesBefore p) (MayBeServed p serve c t)) is (h.each c t) in first.0

  pub serves-waiting-on : (c : ℕ) → ServesWaiting p (serve c)
  serves-waiting-on c t x is =
      let may = serves-one-of c t x is in
      record { instance = may.waits.instance; released = may.waits.released; unfinished = omega (arith, may.waits.unfinished, ap (λ (k : ℕ). left_of p (serve k) x t) may.own) }

  -- only those that a task can name serve
  pub few-processors : (c t : ℕ) (x : Instance) → serve c t ≡ Some x → c ≤ MAX_CPU
  few-processors c t x is =
      let may = serves-one-of c t x is in
      let closed = p.rules.ranked.closed.each x.task no_declared_task may.waits.instance.task in
      omega (arith, closed.cpu, may.own)

  pub idle-above : (c t : ℕ) → MAX_CPU < c → serve c t ≡ None
  idle-above c t above = none (serve c t) refl
    where
      none : (o : Option Instance) → serve c t ≡ o → serve c t ≡ None
      none None is = is
      none (Some x) is = absurd (omega (arith, few-processors c t x is, above))
