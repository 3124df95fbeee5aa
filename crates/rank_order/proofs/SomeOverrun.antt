-- A plan has an overrun if an instance is late.
use Rattle.std.proofs.Common.{◌≡◌, ℕ, ◌<◌, ◌≤◌, ◌⊎◌, ◌&&◌, Bool, true, false, ltb, leb, List, [], ◌∷◌, length, refl, sym, ap, ◌∙◌, subst, inl, inr, ⊎_elim, arith, slice_index}
use Rattle.std.proofs.lemmas.Bool.{cases_Bool, cases_lt, ltb-true, leb-true, lt-ltb, le-leb, and_parts, and_from, false≢true}
use Rattle.dbp_plan.specs.declared.plan.Plan.{Plan}
use Rattle.rank_order.specs.Ends.{IsOverrun, Late, NoOverrun}
use Rattle.rank_order.specs.Instances.{Instance, before_it, release_of}
use Rattle.rank_order.specs.ServiceOf.{instances_below}
use Rattle.rank_order.proofs.SomeService.{Among, among_below}

abbrev rank : Plan → Instance → ℕ
rank p x = slice_index p.diagram.ranks x.task

-- of two instances one is released no later, and is of no lower rank if both are released at once
record IsNoLater (p : Plan) (x y : Instance) : Type 0 where
  pub release : release_of p x ≤ release_of p y
  pub tie : release_of p x ≡ release_of p y → rank p x ≤ rank p y

module _ (p : Plan) where
  either : (x y : Instance) → IsNoLater p x y ⊎ IsNoLater p y x
  either x y = elim (cases_lt (release_of p x) (release_of p y)) [
    | inl sooner ↦ inl (record { release = omega (arith, sooner); tie = λ same. omega (arith, sooner, same) })
    | inr no_sooner ↦ elim (cases_lt (release_of p y) (release_of p x)) [
      | inl later ↦ inr (record { release = omega (arith, later); tie = λ same. omega (arith, later, same) })
      | inr no_later ↦ elim (cases_lt (rank p x) (rank p y)) [
        | inl higher ↦ inl (record { release = omega (arith, no_later); tie = λ same. omega (arith, higher) })
        | inr no_higher ↦ inr (record { release = omega (arith, no_sooner); tie = λ same. omega (arith, no_higher) })
      ]
    ]
  ]

  at_least : (x y z : Instance) → IsNoLater p x y → IsNoLater p y z → IsNoLater p x z
  at_least x y z h k = record {
    release = omega (arith, h.release, k.release);
    tie = λ same.
        let first = h.tie (omega (arith, h.release, k.release, same)) in
        let second = k.tie (omega (arith, h.release, k.release, same)) in
        omega (arith, first, second);
  }

  itself : (x y : Instance) → y ≡ x → IsNoLater p x y
  itself x y same =
      let release = ap (release_of p) same in
      let ranks = ap (rank p) same in
      record { release = omega (arith, release); tie = λ _. omega (arith, ranks) }

  -- no instance of the list passes the test, or a first one does
  some_first : (test : Instance → Bool) (xs : List Instance)
      → ((y : Instance) → Among xs y → test y ≡ false)
      ⊎ ((x : Instance) × Among xs x × (test x ≡ true) × ((y : Instance) → Among xs y → test y ≡ true → IsNoLater p x y))
  some_first test [] = inl (λ y none. absurd none)
  some_first test (z ∷ zs) = elim (cases_Bool (test z)) [
    | inl passes ↦ elim (some_first test zs) [
      | inl none ↦ inr (
        z,
        inl refl,
        passes,
        λ y among y_passes. ⊎_elim (λ (same : y ≡ z). itself z y same) (λ rest. absurd (false≢true (sym (none y rest) ∙ y_passes))) among,
      )
      | inr found ↦
          let (x, there, x_passes, first) = found in
          elim (either z x) [
            | inl z_first ↦ inr (
              z,
              inl refl,
              passes,
              λ y among y_passes. ⊎_elim (λ (same : y ≡ z). itself z y same) (λ rest. at_least z x y z_first (first y rest y_passes)) among,
            )
            | inr x_first ↦ inr (
              x,
              inr there,
              x_passes,
              λ y among y_passes. ⊎_elim (λ (same : y ≡ z). at_least x z y x_first (itself z y same)) (λ rest. first y rest y_passes) among,
            )
          ]
    ]
    | inr fails ↦ elim (some_first test zs) [
      | inl none ↦ inl (λ y among. ⊎_elim (λ (same : y ≡ z). ap test same ∙ fails) (λ rest. none y rest) among)
      | inr found ↦
          let (x, there, x_passes, first) = found in
          inr (
            x,
            inr there,
            x_passes,
            λ y among y_passes. ⊎_elim (λ (same : y ≡ z). absurd (false≢true (sym (ap test same ∙ fails) ∙ y_passes))) (λ rest. first y rest y_passes) among,
          )
    ]
  ]

  module _ (left : Instance → ℕ → ℕ) where
    abbrev is_late : Instance → Bool
    is_late x = leb 2 x.number && ltb 0 (left (before_it x) (release_of p x))

    passes_late : (t : ℕ) (x : Instance) → Late p left t x → is_late x ≡ true
    passes_late t x late = and_from (leb 2 x.number) (ltb 0 (left (before_it x) (release_of p x)))
        (le-leb 2 x.number late.not_first)
        (lt-ltb 0 (left (before_it x) (release_of p x)) (subst (λ (u : ℕ). 0 < left (before_it x) u) (sym late.at) late.unfinished))

    listed : (t : ℕ) (x : Instance) → Late p left t x → Among (instances_below p (length p.diagram.tasks)) x
    listed t x late = (among_below p (length p.diagram.tasks) x).1 (late.instance.task, late.instance.from_one, late.instance.within)

    pub overrun_or_none : NoOverrun p left ⊎ ((t : ℕ) × (x : Instance) × IsOverrun p left t x)
    overrun_or_none = elim (some_first is_late (instances_below p (length p.diagram.tasks))) [
      | inl none ↦ inl (record { none = λ t x late. absurd (false≢true (sym (none x (listed t x late)) ∙ passes_late t x late)) })
      | inr found ↦
          let (x, there, passes, first) = found in
          let here = (among_below p (length p.diagram.tasks) x).0 there in
          let two = and_parts (leb 2 x.number) (ltb 0 (left (before_it x) (release_of p x))) passes in
          inr (
            release_of p x,
            x,
            record {
              late = record {
                instance = record { task = here.0; from_one = here.1; within = here.2 };
                not_first = leb-true 2 x.number two.0;
                at = refl;
                unfinished = ltb-true 0 (left (before_it x) (release_of p x)) two.1;
              };
              least = λ u y sooner late.
                  let no_later = (first y (listed u y late) (passes_late u y late)).release in
                  omega (arith, no_later, sooner, late.at);
              highest = λ y late. (first y (listed (release_of p x) y late) (passes_late (release_of p x) y late)).tie (sym late.at);
            },
          )
    ]
