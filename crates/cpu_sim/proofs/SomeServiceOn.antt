-- The function `services` is a service on the processors.
use Rattle.std.proofs.Common.{◌≡◌, ℕ, zero, suc, ◌+◌, ◌<◌, Bool, true, false, leb, ltb, refl, sym, ap, ◌∙◌, subst, arith}
use Rattle.std.specs.Prelude.{not, ◌==◌, ◌&&◌}
use Rattle.std.proofs.lemmas.Bool.{and_from, and_parts, eq-eqb, eqb-true, le-leb, leb-true, lt-ltb, ltb-true}
use Rattle.dbp_plan.specs.declared.plan.Plan.{Plan}
use Rattle.dbp_plan.specs.Lookups.{declared_task}
use Rattle.rank_order.specs.Instances.{Instance, release_of}
use Rattle.rank_order.specs.Service.{GoesBefore, IsFirst}
use Rattle.rank_order.specs.ServiceOf.{is_waiting}
use Rattle.rank_order.proofs.Choices.{first_like, tick_of}
use Rattle.rank_order.proofs.InstanceEnds.{instance_listed, instances, listed_instance}
use Rattle.rank_order.proofs.ServedTicks.{served_next, served_none}
use Rattle.rank_order.proofs.SomeService.{Passes, first_is}
use Rattle.cpu_sim.specs.Processors.{IsServiceOn, MayBeServed, cpu_of, is_blocked, served_on}
use Rattle.cpu_sim.specs.Services.{choice_on, given_on, may_serve, services}
use Rattle.cpu_sim.proofs.OneServiceOn.{blocked-like}

services-choose : (p : Plan) (c t : ℕ) → services p c t ≡ choice_on p (given_on p t) c t
unfolding services
services-choose p c t = refl

given-next : (p : Plan) (t : ℕ) (x : Instance) → given_on p (suc t) x ≡ given_on p t x + tick_of x (choice_on p (given_on p t) (cpu_of p x) t)
unfolding given_on
given-next p t x = refl

given-none : (p : Plan) (x : Instance) → given_on p 0 x ≡ 0
unfolding given_on
given-none p x = refl

served-given : (p : Plan) (t : ℕ) (x : Instance) → served_on p (services p) t x ≡ given_on p t x
served-given p zero x = served_none (services p (cpu_of p x)) x ∙ sym (given-none p x)
served-given p (suc t) x =
    let now = ap (tick_of x) (services-choose p (cpu_of p x) t) in
    omega (arith, served-given p t x, now, served_next (services p (cpu_of p x)) x t, given-next p t x)

not-true : (b : Bool) → not b ≡ true → b ≡ false
not-true true is = absurd (cc)
not-true false is = refl

false-not : (b : Bool) → b ≡ false → not b ≡ true
false-not b is = rw is refl

module _ (p : Plan) (c t : ℕ) where
  may-is : (x : Instance) → Passes (instances p) (may_serve p (given_on p t) c t) x → MayBeServed p (services p) c t x
  may-is x passes =
      let (waiting, more) = and_parts _ _ passes.1 in
      let (released, unfinished) = and_parts (leb (release_of p x) t) (ltb (given_on p t x) (declared_task p x.task).cost) waiting in
      let (own, free) = and_parts (cpu_of p x == c) _ more in
      let less = ltb-true (given_on p t x) (declared_task p x.task).cost unfinished in
      record {
        waits = record { instance = listed_instance p x passes.0; released = leb-true (release_of p x) t released; unfinished = omega (arith, less, served-given p t x) };
        own = eqb-true (cpu_of p x) c own;
        free = blocked-like p (served_on p (services p) t) (given_on p t) (served-given p t) x ∙ not-true (is_blocked p (given_on p t) x) free;
      }

  is-may : (x : Instance) → MayBeServed p (services p) c t x → Passes (instances p) (may_serve p (given_on p t) c t) x
  is-may x may =
      let less : given_on p t x < (declared_task p x.task).cost = omega (arith, may.waits.unfinished, served-given p t x) in
      let waiting : is_waiting p (given_on p t) t x ≡ true =
      and_from (leb (release_of p x) t) (ltb (given_on p t x) (declared_task p x.task).cost) (le-leb (release_of p x) t may.waits.released) (lt-ltb (given_on p t x) (declared_task p x.task).cost less) in
      let free : is_blocked p (given_on p t) x ≡ false = blocked-like p (given_on p t) (served_on p (services p) t) (λ y. sym (served-given p t y)) x ∙ may.free in (
        instance_listed p x may.waits.instance,
        and_from (is_waiting p (given_on p t) t x) ((cpu_of p x == c) && not (is_blocked p (given_on p t) x)) waiting
            (and_from (cpu_of p x == c) (not (is_blocked p (given_on p t) x)) (eq-eqb (cpu_of p x) c may.own) (false-not (is_blocked p (given_on p t) x) free)),
      )

pub services-are : (p : Plan) → IsServiceOn p (services p)
services-are p = record {
  each = λ c t.
      subst (IsFirst (GoesBefore p) (MayBeServed p (services p) c t)) (sym (services-choose p c t))
      (first_like (GoesBefore p) (Passes (instances p) (may_serve p (given_on p t) c t)) (MayBeServed p (services p) c t) (choice_on p (given_on p t) c t) (may-is p c t) (is-may p c t)
      (first_is p (may_serve p (given_on p t) c t) (instances p) (λ y among. listed_instance p y among)));
}
