-- The function `service` is a service.
use Rattle.std.proofs.Common.{◌≡◌, ℕ, zero, suc, ◌+◌, ◌<◌, ◌≤◌, ◌⊎◌, Bool, true, false, ltb, leb, List, [], ◌∷◌, ◌++◌, length, Option, Some, None, refl, sym, ap, ◌∙◌, subst, inl, inr, ⊎_elim, arith}
use Rattle.std.proofs.lemmas.Bool.{cases_Bool, cases_eq, ltb-true, leb-true, lt-ltb, le-leb, and_parts, and_from, false≢true}
use Rattle.dbp_plan.specs.declared.plan.Plan.{Plan}
use Rattle.dbp_plan.specs.Lookups.{declared_task}
use Rattle.dbp_plan.specs.Occurrences.{times_of}
use Rattle.rank_order.specs.declared.key.Key.{Key}
use Rattle.rank_order.specs.Instances.{Instance, IsInstance, release_of}
use Rattle.rank_order.specs.Order.{goes_before, key_of}
use Rattle.rank_order.specs.Service.{GoesBefore, IsFirst, IsService, Waits, served_ticks, left_of}
use Rattle.rank_order.specs.ServiceOf.{earlier, first_of_those, instances_of, instances_below, is_waiting, choice_of, given_before, service}
use Rattle.rank_order.proofs.Choices.{first_like, same_instance, tick_of}
use Rattle.rank_order.proofs.Keys.{before-neither, before-trans}
use Rattle.rank_order.proofs.Overruns.{same_release}
use Rattle.rank_order.proofs.PlanNumbers.{one_key}
use Rattle.rank_order.proofs.ServedTicks.{served_next, served_none}

-- the key of an instance of the plan
abbrev key : Plan → Instance → Key
key p x = key_of p.diagram x.task (release_of p x)

abbrev pub Among : List Instance → Instance → Type 0
Among [] x = ⊥
Among (y ∷ ys) x = (x ≡ y) ⊎ Among ys x

abbrev pub Passes : List Instance → (Instance → Bool) → Instance → Type 0
Passes xs test x = Among xs x × (test x ≡ true)

module _ (p : Plan) where
  -- of two instances one goes before the other, unless they are one
  neither : (x y : Instance) → IsInstance p x → IsInstance p y
      → goes_before p.diagram x.task (release_of p x) y.task (release_of p y) ≡ false → (x ≡ y) ⊎ GoesBefore p y x
  neither x y x_is y_is not_first = elim (cases_Bool (goes_before p.diagram y.task (release_of p y) x.task (release_of p x))) [
    | inl second ↦ inr second
    | inr not_second ↦
        let keys = before-neither (key p x) (key p y) not_first not_second in
        let same = one_key p.diagram p.rules.ranked x.task y.task (release_of p x) (release_of p y) x_is.task y_is.task keys.0 keys.1 in
        inl (same_release p x y x_is y_is same.0 same.1)
  ]

  earlier_is : (test : Instance → Bool) (x : Instance) (xs : List Instance) (o : Option Instance) → test x ≡ true → IsInstance p x → ((y : Instance) → Among xs y → IsInstance p y)
      → IsFirst (GoesBefore p) (Passes xs test) o → IsFirst (GoesBefore p) (Passes (x ∷ xs) test) (earlier p x o)
  earlier_is test x xs None passes x_is all h = ((inl refl, passes), λ y w. ⊎_elim (λ same. inl same) (λ among. absurd (h y (among, w.1))) w.0)
  earlier_is test x xs (Some z) passes x_is all h =
      ⊎_elim
      (λ (first : goes_before p.diagram x.task (release_of p x) z.task (release_of p z) ≡ true).
      rw first (
        (inl refl, passes),
        λ y w.
            ⊎_elim (λ same. inl same)
            (λ among. ⊎_elim
            (λ (same : y ≡ z). inr (subst (λ (v : Instance). GoesBefore p x v) (sym same) first))
            (λ later. inr (before-trans (key p x) (key p z) (key p y) first later))
            (h.1 y (among, w.1)))
            w.0,
      ))
      (λ (not_first : goes_before p.diagram x.task (release_of p x) z.task (release_of p z) ≡ false).
      rw not_first (
        (inr h.0.0, h.0.1),
        λ y w.
            ⊎_elim
            (λ (same : y ≡ x). ⊎_elim (λ (one : x ≡ z). inl (same ∙ one)) (λ later. inr (subst (λ (v : Instance). GoesBefore p z v) (sym same) later)) (neither x z x_is (all z h.0.0) not_first))
            (λ among. h.1 y (among, w.1))
            w.0,
      ))
      (cases_Bool (goes_before p.diagram x.task (release_of p x) z.task (release_of p z)))

  pub first_is : (test : Instance → Bool) (xs : List Instance) → ((y : Instance) → Among xs y → IsInstance p y) → IsFirst (GoesBefore p) (Passes xs test) (first_of_those p test xs)
  first_is test [] all = λ y w. w.0
  first_is test (x ∷ xs) all =
      let rest = first_is test xs (λ y among. all y (inr among)) in
      ⊎_elim
      (λ (passes : test x ≡ true). rw passes (earlier_is test x xs (first_of_those p test xs) passes (all x (inl refl)) (λ y among. all y (inr among)) rest))
      (λ (fails : test x ≡ false). rw fails (first_like (GoesBefore p) (Passes xs test) (Passes (x ∷ xs) test) (first_of_those p test xs)
      (λ y w. (inr w.0, w.1))
      (λ y w. ⊎_elim (λ (same : y ≡ x). absurd (false≢true (sym fails ∙ ap test (sym same) ∙ w.1))) (λ among. (among, w.1)) w.0)
      rest))
      (cases_Bool (test x))

among_append : (xs ys : List Instance) (x : Instance) → (Among (xs ++ ys) x → Among xs x ⊎ Among ys x) × (Among xs x ⊎ Among ys x → Among (xs ++ ys) x)
among_append [] ys x = ((λ among. inr among), λ w. ⊎_elim (λ none. absurd none) (λ among. among) w)
among_append (z ∷ xs) ys x =
    let rest = among_append xs ys x in (
      (λ w. ⊎_elim (λ same. inl (inl same)) (λ among. ⊎_elim (λ left. inl (inr left)) (λ right. inr right) (rest.0 among)) w),
      λ w. ⊎_elim (λ v. ⊎_elim (λ same. inl same) (λ left. inr (rest.1 (inl left))) v) (λ right. inr (rest.1 (inr right))) w,
    )

-- the numbers of an instance of the task, of which there are so many
abbrev IsOf : ℕ → ℕ → Instance → Type 0
IsOf i n x = (x.task ≡ i) × (1 ≤ x.number) × (x.number ≤ n)

among_of : (i n : ℕ) (x : Instance) → (Among (instances_of i n) x → IsOf i n x) × (IsOf i n x → Among (instances_of i n) x)
among_of i zero x = ((λ none. absurd none), λ w. absurd (omega (arith, w.1, w.2)))
among_of i (suc n) x =
    let rest = among_of i n x in
    let last : Instance = record { task = i; number = suc n } in (
      (λ w. ⊎_elim
          (λ (same : x ≡ last). let number = ap (λ (z : Instance). z.number) same in (ap (λ (z : Instance). z.task) same, omega (arith, number), omega (arith, number)))
          (λ among. let r = rest.0 among in (r.0, r.1, omega (arith, r.2)))
          w),
      λ w. ⊎_elim
          (λ (same : x.number ≡ suc n). inl (same_instance x last w.0 same))
          (λ (apart : x.number ≡ suc n → ⊥). inr (rest.1 (w.0, w.1, omega (arith, apart, w.2))))
          (cases_eq x.number (suc n)),
    )

abbrev pub IsBelow : Plan → ℕ → Instance → Type 0
IsBelow p n x = (x.task < n) × (1 ≤ x.number) × (x.number ≤ length (times_of p.batches x.task))

pub among_below : (p : Plan) (n : ℕ) (x : Instance) → (Among (instances_below p n) x → IsBelow p n x) × (IsBelow p n x → Among (instances_below p n) x)
among_below p zero x = ((λ none. absurd none), λ w. absurd (omega (arith, w.0)))
among_below p (suc n) x =
    let rest = among_below p n x in
    let own = among_of n (length (times_of p.batches n)) x in
    let both = among_append (instances_of n (length (times_of p.batches n))) (instances_below p n) x in (
      (λ w. ⊎_elim
          (λ among. let r = own.0 among in (omega (arith, r.0), r.1, subst (λ (i : ℕ). x.number ≤ length (times_of p.batches i)) (sym r.0) r.2))
          (λ among. let r = rest.0 among in (omega (arith, r.0), r.1, r.2))
          (both.0 w)),
      λ w. both.1 (⊎_elim
          (λ (same : x.task ≡ n). inl (own.1 (same, w.1, subst (λ (i : ℕ). x.number ≤ length (times_of p.batches i)) same w.2)))
          (λ (apart : x.task ≡ n → ⊥). inr (rest.1 (omega (arith, apart, w.0), w.1, w.2)))
          (cases_eq x.task n)),
    )

service_is_choice : (p : Plan) (t : ℕ) → service p t ≡ choice_of p (given_before p t) t
unfolding service
service_is_choice p t = refl

given_next : (p : Plan) (t : ℕ) (x : Instance) → given_before p (suc t) x ≡ given_before p t x + tick_of x (choice_of p (given_before p t) t)
unfolding given_before
given_next p t x = refl

given_none : (p : Plan) (x : Instance) → given_before p 0 x ≡ 0
unfolding given_before
given_none p x = refl

served_given : (p : Plan) (t : ℕ) (x : Instance) → served_ticks (service p) x t ≡ given_before p t x
served_given p zero x = served_none (service p) x ∙ sym (given_none p x)
served_given p (suc t) x =
    let now = ap (tick_of x) (service_is_choice p t) in
    omega (arith, served_given p t x, now, served_next (service p) x t, given_next p t x)

pub service_is : (p : Plan) → IsService p (service p)
service_is p = record {
  each = λ t.
      let count = length p.diagram.tasks in
      let found = first_is p (is_waiting p (given_before p t) t) (instances_below p count)
      (λ y among. let r = (among_below p count y).0 among in record { task = r.0; from_one = r.1; within = r.2 }) in
      subst (λ (o : Option Instance). IsFirst (GoesBefore p) (Waits p (left_of p (service p)) t) o) (sym (service_is_choice p t))
      (first_like (GoesBefore p) (Passes (instances_below p count) (is_waiting p (given_before p t) t)) (Waits p (left_of p (service p)) t) (choice_of p (given_before p t) t)
      (λ y w.
      let r = (among_below p count y).0 w.0 in
      let two = and_parts (leb (release_of p y) t) (ltb (given_before p t y) (declared_task p y.task).cost) w.1 in
      let less = ltb-true (given_before p t y) (declared_task p y.task).cost two.1 in
      record { instance = record { task = r.0; from_one = r.1; within = r.2 }; released = leb-true (release_of p y) t two.0; unfinished = omega (arith, less, served_given p t y) })
      (λ y w. (
        (among_below p count y).1 (w.instance.task, w.instance.from_one, w.instance.within),
        and_from (leb (release_of p y) t) (ltb (given_before p t y) (declared_task p y.task).cost) (le-leb (release_of p y) t w.released) (lt-ltb (given_before p t y) (declared_task p y.task).cost (omega (arith, w.unfinished, served_given p t y))),
      ))
      found);
}
