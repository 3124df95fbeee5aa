-- A plan has one service at most.
use Rattle.std.proofs.Common.{◌≡◌, ℕ, zero, suc, Option, sym, ap, ◌∙◌, subst, arith}
use Rattle.dbp_plan.specs.declared.plan.Plan.{Plan}
use Rattle.rank_order.specs.Instances.{Instance, release_of}
use Rattle.rank_order.specs.Order.{key_of}
use Rattle.rank_order.specs.Service.{GoesBefore, IsFirst, IsService, ServesWaiting, Waits, left_of, served_ticks}
use Rattle.rank_order.proofs.Choices.{first_like, one_first, tick_of}
use Rattle.rank_order.proofs.Keys.{before-both}
use Rattle.rank_order.proofs.ServedTicks.{served_next, served_none}

pub not_both : (p : Plan) (x y : Instance) → GoesBefore p x y → GoesBefore p y x → ⊥
not_both p x y first second = before-both (key_of p.diagram x.task (release_of p x)) (key_of p.diagram y.task (release_of p y)) first second

-- a tick has one choice
pub one_choice : (p : Plan) (Q : Instance → Type 0) (o o' : Option Instance) → IsFirst (GoesBefore p) Q o → IsFirst (GoesBefore p) Q o' → o ≡ o'
one_choice p Q o o' h k = one_first (GoesBefore p) (not_both p) Q o o' h k

pub serves_waiting : (p : Plan) (serve : ℕ → Option Instance) → IsService p serve → ServesWaiting p serve
serves_waiting p serve service t x is = (subst (λ o. IsFirst (GoesBefore p) (Waits p (left_of p serve) t) o) is (service.each t)).0

like : (p : Plan) (s s' : ℕ → Option Instance) (t : ℕ) → ((x : Instance) → served_ticks s x t ≡ served_ticks s' x t) → (x : Instance) → Waits p (left_of p s) t x → Waits p (left_of p s') t x
like p s s' t same x w = record { instance = w.instance; released = w.released; unfinished = omega (arith, same x, w.unfinished) }

module _ (p : Plan) (s s' : ℕ → Option Instance) (h : IsService p s) (h' : IsService p s') where
  same_tick : (t : ℕ) → ((x : Instance) → served_ticks s x t ≡ served_ticks s' x t) → s t ≡ s' t
  same_tick t same =
      one_choice p (Waits p (left_of p s') t) (s t) (s' t)
      (first_like (GoesBefore p) (Waits p (left_of p s) t) (Waits p (left_of p s') t) (s t) (like p s s' t same) (like p s' s t (λ x. sym (same x))) (h.each t))
      (h'.each t)

  same_served : (t : ℕ) (x : Instance) → served_ticks s x t ≡ served_ticks s' x t
  same_served zero x = served_none s x ∙ sym (served_none s' x)
  same_served (suc t) x =
      let now = ap (tick_of x) (same_tick t (same_served t)) in
      omega (arith, same_served t x, now, served_next s x t, served_next s' x t)

  pub one_service : (t : ℕ) → s t ≡ s' t
  one_service t = same_tick t (same_served t)
