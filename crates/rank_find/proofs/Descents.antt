-- The way from the start that goes each time to the nearest number, until it is the start again.
use Rattle.std.proofs.Common.{◌≡◌, ◌≢◌, ℕ, zero, suc, ◌+◌, ◌-◌, ◌<◌, ◌≤◌, Contains, List, [], ◌∷◌, ◌++◌, length, get_or, slice_get, Some, refl, sym, ◌∙◌, ap, subst, arith, inl, inr}
use Rattle.std.proofs.lemmas.Bool.{cases_lt}
use Rattle.std.proofs.lemmas.List.{length_push}
use Rattle.std.proofs.lemmas.Option.{same_Some, slice_get-get_or, slice_get_within}
use Rattle.dbp_plan.specs.Cycles.{IsCycleFrom, LiesOnCycle}
use Rattle.dbp_plan.specs.ListItems.{at_place, front_place, last_place, take_place}
use Rattle.dbp_plan.proofs.Cycles.{IsPath, cycle_listed, path_closed, path_more, path_one}
use Rattle.dbp_plan.proofs.Listed.{listed_few, one_place, place_of}
use Rattle.rank_find.specs.declared.distance.TheConstants.{FAR}
use Rattle.rank_find.specs.Distances.{AreDistances, IsNearest, Leads, LeadsNowhere, distance_of}
use Rattle.rank_find.specs.FirstCycles.{IsBefore, IsFirstCycleFrom}

-- a path from the start, each time to the nearest number; after the start distances fall by one
pub record IsDescent (R : ℕ → ℕ → Type 0) (start : ℕ) (distances path : List ℕ) (last : ℕ) : Type 0 where
  pub is : IsPath R path last
  pub begins : slice_get path 0 ≡ Some start
  pub chosen : (p i j : ℕ) → slice_get path p ≡ Some i → slice_get path (p + 1) ≡ Some j → IsNearest R distances i j
  pub falls : (p q i j : ℕ) → slice_get path (p + 1) ≡ Some i → slice_get path (q + 1) ≡ Some j → distance_of distances i + p ≡ distance_of distances j + q

module _ (R : ℕ → ℕ → Type 0) (start count : ℕ) (distances : List ℕ) (small : count < FAR) (below : (i j : ℕ) → R i j → i < count) (are : AreDistances R start count distances) where
  -- ---- cycles from the start

  -- from each place of a cycle the rest of it leads to the start
  cycle_leads : (cycle : List ℕ) → IsCycleFrom R start cycle → (n p i : ℕ) → p + suc n ≡ length cycle → slice_get cycle p ≡ Some i → Leads R start (suc n) i
  cycle_leads cycle loops zero p i end at = (start, loops.is.closed p i start (omega arith) at loops.begins, refl)
  cycle_leads cycle loops (suc n) p i end at =
      let next = at_place cycle (p + 1) (omega arith) in
      (next.0, loops.is.linked p i next.0 at next.1, cycle_leads cycle loops n (p + 1) next.0 (omega arith) next.1)

  cycle_few : (cycle : List ℕ) → IsCycleFrom R start cycle → length cycle ≤ count
  cycle_few cycle loops = listed_few count cycle (cycle_listed R count cycle below loops.is)

  -- its first step goes to a number that isn't far
  first_step : (cycle : List ℕ) → IsCycleFrom R start cycle → (j : ℕ) × R start j × (distance_of distances j + 1 ≤ length cycle)
  first_step cycle loops = elim (cases_lt 1 (length cycle)) [
    | inl more ↦
        let next = at_place cycle 1 more in
        let leads : Leads R start (suc (length cycle - 2)) next.0 = cycle_leads cycle loops (length cycle - 2) 1 next.0 (omega arith) next.1 in
        let few = cycle_few cycle loops in
        (next.0, loops.is.linked 0 start next.0 loops.begins next.1, omega (arith, are.least next.0 (suc (length cycle - 2)) leads (omega (arith, few))))
    | inr one ↦
        let alone : 0 + 1 ≡ length cycle = omega (arith, loops.is.some) in
        (start, loops.is.closed 0 start start alone loops.begins loops.begins, omega (arith, loops.is.some, are.least start 0 refl (omega arith)))
  ]

  -- ---- steps to the nearest

  -- a number that isn't far, other than the start, is a step farther than the nearest to which it leads
  step_down : (i j m : ℕ) → distance_of distances i < FAR → distance_of distances i ≡ suc m → IsNearest R distances i j → distance_of distances j ≡ m
  step_down i j m near at is =
      let way : Leads R start (suc m) i = subst (λ (n : ℕ). Leads R start n i) at (are.leads i near) in
      let within = are.within i near in
      let middle : distance_of distances way.0 ≤ m = are.least way.0 m way.2 (omega arith) in
      let shorter : Leads R start (suc (distance_of distances j)) i = (j, is.step, are.leads j is.near) in
      elim (cases_lt (distance_of distances j) m) [
        | inl less ↦ absurd (omega (arith, are.least i (suc (distance_of distances j)) shorter (omega arith)))
        | inr more ↦ omega (arith, is.nearest way.0 way.1)
      ]

  pub descent_one : IsDescent R start distances (start ∷ []) start
  descent_one = record {
    is = path_one R start;
    begins = refl;
    chosen = λ p i j at next. absurd (omega (arith, slice_get_within (start ∷ []) (p + 1) j next));
    falls = λ p q i j at other. absurd (omega (arith, slice_get_within (start ∷ []) (p + 1) i at));
  }

  not_zero : (i n : ℕ) → i ≢ start → Leads R start n i → (m : ℕ) × (n ≡ suc m)
  not_zero i zero apart leads = absurd (apart leads)
  not_zero i (suc m) apart leads = (m, refl)

  module _ (path : List ℕ) (last : ℕ) (descent : IsDescent R start distances path last) where
    -- after its first number each is at a distance above 0
    after_start : (p i : ℕ) → slice_get path (p + 1) ≡ Some i → (distance_of distances i < FAR) × ((m : ℕ) × (distance_of distances i ≡ suc m))
    after_start p i at =
        let before = at_place path p (omega (arith, slice_get_within path (p + 1) i at)) in
        let near = (descent.chosen p before.0 i before.1 at).near in
        let apart : i ≢ start = λ same.
        let one : p + 1 ≡ 0 = one_place path descent.is.distinct (p + 1) 0 start (at ∙ ap (λ (z : ℕ). Some z) same) descent.begins in
        omega arith in
        (near, not_zero i (distance_of distances i) apart (are.leads i near))

    -- its numbers are below the bound
    named : start < count → (k i : ℕ) → slice_get path k ≡ Some i → i < count
    named inside zero i at = omega (arith, inside, same_Some i start (sym at ∙ descent.begins))
    named inside (suc p) i at =
        let next : suc p ≡ p + 1 = omega arith in
        let far = after_start p i (ap (λ (z : ℕ). slice_get path z) (sym next) ∙ at) in
        let way : Leads R start (suc far.1.0) i = subst (λ (n : ℕ). Leads R start n i) far.1.1 (are.leads i far.0) in
        below i way.0 way.1

    pub descent_few : start < count → length path ≤ count
    descent_few inside = listed_few count path (record {
      named = λ k d within. named inside k (get_or path k d) (slice_get-get_or path k d within);
      once = descent.is.distinct;
    })

    -- what stands at its end
    last_at : (p : ℕ) → p + 2 ≡ length path → slice_get path (p + 1) ≡ Some last
    last_at p end = descent.is.ends (p + 1) (omega arith)

    pub descent_none : LeadsNowhere R distances last → LiesOnCycle R start → ⊥
    descent_none nowhere (cycle, loops) = elim (cases_lt 1 (length path)) [
      | inl more ↦
          let end = after_start (length path - 2) last (last_at (length path - 2) (omega arith)) in
          let way : Leads R start (suc end.1.0) last = subst (λ (n : ℕ). Leads R start n last) end.1.1 (are.leads last end.0) in
          let within = are.within last end.0 in
          omega (arith, end.1.1, nowhere way.0 way.1, are.least way.0 end.1.0 way.2 (omega (arith, end.1.1)))
      | inr one ↦
          let at_start : last ≡ start = same_Some last start (sym (descent.is.ends 0 (omega (arith, descent.is.some))) ∙ descent.begins) in
          let step = first_step cycle loops in
          let few = cycle_few cycle loops in
          omega (arith, step.2, nowhere step.0 (subst (λ (z : ℕ). R z step.0) (sym at_start) step.1))
    ]

    module _ (next : ℕ) (nearest : IsNearest R distances last next) where
      next_down : (p : ℕ) → p + 2 ≡ length path → distance_of distances last ≡ distance_of distances next + 1
      next_down p end =
          let at = after_start p last (last_at p end) in
          omega (arith, at.1.1, step_down last next at.1.0 at.0 at.1.1 nearest)

      fresh : next ≢ start → Contains path next → ⊥
      fresh apart among =
          let place = place_of path next among in
          elim (cases_lt 0 place.0) [
            | inl later ↦
                let q : ℕ = place.0 - 1 in
                let again : q + 1 ≡ place.0 = omega arith in
                let at : slice_get path (q + 1) ≡ Some next = ap (λ (z : ℕ). slice_get path z) again ∙ place.2 in
                let end : length path - 2 + 2 ≡ length path = omega (arith, place.1) in
                let same = descent.falls (length path - 2) q last next (last_at (length path - 2) end) at in
                omega (arith, place.1, same, next_down (length path - 2) end)
            | inr first ↦
                let zero_place : place.0 ≡ 0 = omega arith in
                apart (same_Some next start (sym place.2 ∙ ap (λ (z : ℕ). slice_get path z) zero_place ∙ descent.begins))
          ]

      old_at : (p i : ℕ) → p < length path → slice_get (path ++ next ∷ []) p ≡ Some i → slice_get path p ≡ Some i
      old_at p i inside at = sym (front_place path (next ∷ []) p inside) ∙ at

      new_at : (p i : ℕ) → length path ≤ p → slice_get (path ++ next ∷ []) p ≡ Some i → (p ≡ length path) × (next ≡ i)
      new_at p i outside at =
          let end : p ≡ length path = omega (arith, slice_get_within (path ++ next ∷ []) p i at, length_push path next) in
          (end, same_Some next i (sym (last_place path next p end) ∙ at))

      -- a number that the path has after its first is as much farther than the next as it stands earlier
      old_new : (q j : ℕ) → slice_get path (q + 1) ≡ Some j → distance_of distances next + (length path - 1) ≡ distance_of distances j + q
      old_new q j at =
          let inside = slice_get_within path (q + 1) j at in
          let end : length path - 2 + 2 ≡ length path = omega arith in
          omega (arith, descent.falls (length path - 2) q last j (last_at (length path - 2) end) at, next_down (length path - 2) end)

      pub descent_more : next ≢ start → IsDescent R start distances (path ++ next ∷ []) next
      descent_more apart = record {
        is = path_more R path last next descent.is nearest.step (fresh apart);
        begins = front_place path (next ∷ []) 0 descent.is.some ∙ descent.begins;
        chosen = λ p i j at later. elim (cases_lt (p + 1) (length path)) [
          | inl inside ↦ descent.chosen p i j (old_at p i (omega arith) at) (old_at (p + 1) j inside later)
          | inr outside ↦
              let new = new_at (p + 1) j outside later in
              let is_last : last ≡ i = same_Some last i (sym (descent.is.ends p new.0) ∙ old_at p i (omega (arith, new.0)) at) in
              subst (λ (z : ℕ). IsNearest R distances z j) is_last (subst (λ (z : ℕ). IsNearest R distances last z) new.1 nearest)
        ];
        falls = λ p q i j at other. elim (cases_lt (p + 1) (length path)) [
          | inl inside ↦ elim (cases_lt (q + 1) (length path)) [
            | inl within ↦ descent.falls p q i j (old_at (p + 1) i inside at) (old_at (q + 1) j within other)
            | inr outside ↦
                let new = new_at (q + 1) j outside other in
                let same = ap (distance_of distances) new.1 in
                omega (arith, new.0, same, old_new p i (old_at (p + 1) i inside at))
          ]
          | inr beyond ↦
              let first = new_at (p + 1) i beyond at in
              let same = ap (distance_of distances) first.1 in
              elim (cases_lt (q + 1) (length path)) [
                | inl within ↦ omega (arith, first.0, same, old_new q j (old_at (q + 1) j within other))
                | inr outside ↦
                    let new = new_at (q + 1) j outside other in
                    let another = ap (distance_of distances) new.1 in
                    omega (arith, first.0, new.0, same, another)
              ]
        ];
      }

      module _ (back : next ≡ start) where
        loops_back : IsCycleFrom R start path
        loops_back = path_closed R path last start descent.is descent.begins (subst (λ (z : ℕ). R last z) back nearest.step)

        -- each number after the first is as far as the rest of the path is long
        rest_of : (p i : ℕ) → slice_get path (p + 1) ≡ Some i → distance_of distances i + (p + 1) ≡ length path
        rest_of p i at =
            let inside = slice_get_within path (p + 1) i at in
            let end : length path - 2 + 2 ≡ length path = omega arith in
            let none : distance_of distances next ≡ 0 = ap (distance_of distances) back ∙ omega (arith, are.least start 0 refl (omega arith)) in
            omega (arith, none, next_down (length path - 2) end, descent.falls p (length path - 2) i last at (last_at (length path - 2) end))

        none_shorter : (other : List ℕ) → IsCycleFrom R start other → length path ≤ length other
        none_shorter other loops = elim (cases_lt 1 (length path)) [
          | inl more ↦
              let first = at_place path 1 more in
              let step = first_step other loops in
              let near = (descent.chosen 0 start first.0 descent.begins first.1).nearest step.0 step.1 in
              omega (arith, near, step.2, rest_of 0 first.0 first.1)
          | inr one ↦ omega (arith, loops.is.some)
        ]

        none_before : (other : List ℕ) → IsCycleFrom R start other → length other ≡ length path → IsBefore other path → ⊥
        none_before other loops size before = elim (cases_lt 0 before.place) [
          | inl later ↦
              let p : ℕ = before.place - 1 in
              let again : before.place ≡ p + 1 = omega arith in
              let lesser : slice_get other (p + 1) ≡ Some before.lesser = ap (λ (z : ℕ). slice_get other z) (sym again) ∙ before.in_one in
              let greater : slice_get path (p + 1) ≡ Some before.greater = ap (λ (z : ℕ). slice_get path z) (sym again) ∙ before.in_other in
              let inside = slice_get_within path (p + 1) before.greater greater in
              let common = at_place path p (omega arith) in
              let shared : slice_get other p ≡ Some common.0 =
              sym (take_place other before.place p (omega arith)) ∙ ap (λ (xs : List ℕ). slice_get xs p) before.front ∙ take_place path before.place p (omega arith) ∙ common.1 in
              let chosen = descent.chosen p common.0 before.greater common.1 greater in
              let farther = chosen.least before.lesser before.less (loops.is.linked p common.0 before.lesser shared lesser) in
              let rest : p + 1 + suc (length path - (p + 2)) ≡ length other = omega arith in
              let leads = cycle_leads other loops (length path - (p + 2)) (p + 1) before.lesser rest lesser in
              let few = cycle_few other loops in
              omega (arith, farther, rest_of p before.greater greater, are.least before.lesser (suc (length path - (p + 2))) leads (omega arith))
          | inr first ↦
              let zero_place : before.place ≡ 0 = omega arith in
              let in_one : before.lesser ≡ start = same_Some before.lesser start (sym before.in_one ∙ ap (λ (z : ℕ). slice_get other z) zero_place ∙ loops.begins) in
              let in_other : before.greater ≡ start = same_Some before.greater start (sym before.in_other ∙ ap (λ (z : ℕ). slice_get path z) zero_place ∙ descent.begins) in
              omega (arith, before.less, in_one, in_other)
        ]

        pub descent_back : IsFirstCycleFrom R start path
        descent_back = record { is = loops_back; shortest = none_shorter; first = none_before }
