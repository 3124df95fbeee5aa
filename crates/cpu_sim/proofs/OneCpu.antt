-- One processor for all tasks serves as before, and where an instance waits some processor serves.
use Rattle.std.proofs.Common.{◌≡◌, ℕ, zero, suc, ◌-◌, ◌<◌, leb, ltb, All, length, Option, Some, None, refl, sym, ap, ◌∙◌, subst, arith}
use Rattle.std.proofs.lemmas.Bool.{and_from, and_parts, le-leb, leb-true, lt-ltb, ltb-true}
use Rattle.dbp_plan.specs.declared.diagram.Task.{Task}
use Rattle.dbp_plan.specs.declared.plan.Plan.{Plan}
use Rattle.dbp_plan.specs.Lookups.{declared_task, no_declared_task}
use Rattle.rank_order.specs.Ends.{IsEnd, IsOverrun, Late, NoOverrun}
use Rattle.rank_order.specs.Instances.{Instance, IsInstance, before_it, release_of}
use Rattle.rank_order.specs.Service.{GoesBefore, IsFirst, IsService, Waits, left_of, served_ticks}
use Rattle.rank_order.specs.ServiceOf.{first_of_those, is_waiting, service}
use Rattle.rank_order.proofs.Choices.{first_like, tick_of}
use Rattle.rank_order.proofs.InstanceEnds.{instance_listed, instances, listed_instance}
use Rattle.rank_order.proofs.OneService.{one_choice, one_service}
use Rattle.rank_order.proofs.ServedTicks.{served_next, served_none}
use Rattle.rank_order.proofs.SomeService.{Passes, first_is, service_is}
use Rattle.cpu_sim.specs.Processors.{IsServiceOn, MayBeServed, cpu_of, left_on, served_on}
use Rattle.cpu_sim.proofs.FreeFirst.{first-is-free}

-- the first of all that wait, over counts of served ticks
module _ (p : Plan) (left : Instance → ℕ → ℕ) (t : ℕ) (served : Instance → ℕ) (rest : (x : Instance) → left x t ≡ (declared_task p x.task).cost - served x) where
  pub first-waiting : (o : Option Instance) × IsFirst (GoesBefore p) (Waits p left t) o
  first-waiting = (
    first_of_those p (is_waiting p served t) (instances p),
    first_like (GoesBefore p) (Passes (instances p) (is_waiting p served t)) (Waits p left t) (first_of_those p (is_waiting p served t) (instances p))
        (λ x passes.
        let (released, unfinished) = and_parts (leb (release_of p x) t) (ltb (served x) (declared_task p x.task).cost) passes.1 in
        let less = ltb-true (served x) (declared_task p x.task).cost unfinished in
        record { instance = listed_instance p x passes.0; released = leb-true (release_of p x) t released; unfinished = omega (arith, less, rest x) })
        (λ x w. (
          instance_listed p x w.instance,
          and_from (leb (release_of p x) t) (ltb (served x) (declared_task p x.task).cost) (le-leb (release_of p x) t w.released) (lt-ltb (served x) (declared_task p x.task).cost (omega (arith, w.unfinished, rest x))),
        ))
        (first_is p (is_waiting p served t) (instances p) (λ y among. listed_instance p y among)),
  )

module _ (p : Plan) (serve : ℕ → ℕ → Option Instance) (h : IsServiceOn p serve) where
  -- ---- some processor serves

  pub serves-one : (c t : ℕ) (o : Option Instance) → serve c t ≡ o → IsFirst (GoesBefore p) (MayBeServed p serve c t) o → (x : Instance) → MayBeServed p serve c t x → (z : Instance) × (serve c t ≡ Some z)
  serves-one c t None is first x may = absurd (first x may)
  serves-one c t (Some z) is first x may = (z, is)

  pub some-serves : (t : ℕ) (x : Instance) → Waits p (left_on p serve) t x → (c : ℕ) × (z : Instance) × (serve c t ≡ Some z)
  some-serves t x waits = go first-of.0 first-of.1
    where
      first-of : (o : Option Instance) × IsFirst (GoesBefore p) (Waits p (left_on p serve) t) o
      first-of = first-waiting p (left_on p serve) t (served_on p serve t) (λ y. refl)

      go : (o : Option Instance) → IsFirst (GoesBefore p) (Waits p (left_on p serve) t) o → (c : ℕ) × (z : Instance) × (serve c t ≡ Some z)
      go None first = absurd (first x waits)
      go (Some y) first =
          let may : MayBeServed p serve (cpu_of p y) t y = record { waits = first.0; own = refl; free = first-is-free p (left_on p serve) t (served_on p serve t) (λ z. refl) y first } in
          let (z, is) = serves-one (cpu_of p y) t (serve (cpu_of p y) t) refl (h.each (cpu_of p y) t) y may in
          (cpu_of p y, z, is)

  -- ---- one processor for all tasks

  module _ (c : ℕ) (all : All (λ (t : Task). t.cpu ≡ c) p.diagram.tasks) where
    pub own-cpu : (x : Instance) → IsInstance p x → cpu_of p x ≡ c
    own-cpu x is = all x.task no_declared_task is.task

    waits-there : (t : ℕ) (x : Instance) → Waits p (left_of p (serve c)) t x → Waits p (left_on p serve) t x
    waits-there t x w = record { instance = w.instance; released = w.released; unfinished = omega (arith, w.unfinished, ap (λ (k : ℕ). left_of p (serve k) x t) (own-cpu x w.instance)) }

    waits-here : (t : ℕ) (x : Instance) → Waits p (left_on p serve) t x → Waits p (left_of p (serve c)) t x
    waits-here t x w = record { instance = w.instance; released = w.released; unfinished = omega (arith, w.unfinished, ap (λ (k : ℕ). left_of p (serve k) x t) (own-cpu x w.instance)) }

    -- the first of all that wait is the first of those that the processor may serve
    narrows : (t : ℕ) (o : Option Instance) → IsFirst (GoesBefore p) (Waits p (left_on p serve) t) o → IsFirst (GoesBefore p) (MayBeServed p serve c t) o
    narrows t None first = λ y may. first y may.waits
    narrows t (Some x) first = (
      record { waits = first.0; own = own-cpu x first.0.instance; free = first-is-free p (left_on p serve) t (served_on p serve t) (λ z. refl) x first },
      λ y may. first.1 y may.waits,
    )

    one-processor : IsService p (serve c)
    one-processor = record {
      each = λ t.
          let (o, first) = first-waiting p (left_on p serve) t (served_on p serve t) (λ y. refl) in
          let same : o ≡ serve c t = one_choice p (MayBeServed p serve c t) o (serve c t) (narrows t o first) (h.each c t) in
          first_like (GoesBefore p) (Waits p (left_on p serve) t) (Waits p (left_of p (serve c)) t) (serve c t) (waits-here t) (waits-there t)
          (subst (IsFirst (GoesBefore p) (Waits p (left_on p serve) t)) same first);
    }

    pub serves-as-before : (t : ℕ) → serve c t ≡ service p t
    serves-as-before = one_service p (serve c) (service p) one-processor (service_is p)

    same-served : (x : Instance) (t : ℕ) → served_ticks (serve c) x t ≡ served_ticks (service p) x t
    same-served x zero = served_none (serve c) x ∙ sym (served_none (service p) x)
    same-served x (suc t) = let now = ap (tick_of x) (serves-as-before t) in omega (arith, same-served x t, now, served_next (serve c) x t, served_next (service p) x t)

    pub same-left : (x : Instance) → x.task < length p.diagram.tasks → (t : ℕ) → left_on p serve x t ≡ left_of p (service p) x t
    same-left x named t =
        let own : cpu_of p x ≡ c = all x.task no_declared_task named in
        omega (arith, same-served x t, ap (λ (k : ℕ). left_of p (serve k) x t) own)

    -- ---- so ends and overruns are the same

    pub end-there : (x : Instance) (e : ℕ) → IsInstance p x → IsEnd (serve (cpu_of p x)) x e → IsEnd (service p) x e
    end-there x e instance end =
        let same : (t : ℕ) → serve (cpu_of p x) t ≡ service p t = λ t. ap (λ (k : ℕ). serve k t) (own-cpu x instance) ∙ serves-as-before t in
        record { last = end.last; served = sym (same end.last) ∙ end.served; no_later = λ t later is. end.no_later t later (same t ∙ is); after = end.after }

    pub end-here : (x : Instance) (e : ℕ) → IsInstance p x → IsEnd (service p) x e → IsEnd (serve (cpu_of p x)) x e
    end-here x e instance end =
        let same : (t : ℕ) → serve (cpu_of p x) t ≡ service p t = λ t. ap (λ (k : ℕ). serve k t) (own-cpu x instance) ∙ serves-as-before t in
        record { last = end.last; served = same end.last ∙ end.served; no_later = λ t later is. end.no_later t later (sym (same t) ∙ is); after = end.after }

    late-there : (t : ℕ) (x : Instance) → Late p (left_on p serve) t x → Late p (left_of p (service p)) t x
    late-there t x late = record { instance = late.instance; not_first = late.not_first; at = late.at; unfinished = omega (arith, late.unfinished, same-left (before_it x) late.instance.task t) }

    late-here : (t : ℕ) (x : Instance) → Late p (left_of p (service p)) t x → Late p (left_on p serve) t x
    late-here t x late = record { instance = late.instance; not_first = late.not_first; at = late.at; unfinished = omega (arith, late.unfinished, same-left (before_it x) late.instance.task t) }

    pub overrun-there : (t : ℕ) (x : Instance) → IsOverrun p (left_on p serve) t x → IsOverrun p (left_of p (service p)) t x
    overrun-there t x over = record { late = late-there t x over.late; least = λ u y before late. over.least u y before (late-here u y late); highest = λ y late. over.highest y (late-here t y late) }

    pub overrun-here : (t : ℕ) (x : Instance) → IsOverrun p (left_of p (service p)) t x → IsOverrun p (left_on p serve) t x
    overrun-here t x over = record { late = late-here t x over.late; least = λ u y before late. over.least u y before (late-there u y late); highest = λ y late. over.highest y (late-there t y late) }

    pub none-there : NoOverrun p (left_on p serve) → NoOverrun p (left_of p (service p))
    none-there none = record { none = λ t x late. none.none t x (late-here t x late) }

    pub none-here : NoOverrun p (left_of p (service p)) → NoOverrun p (left_on p serve)
    none-here none = record { none = λ t x late. none.none t x (late-there t x late) }
