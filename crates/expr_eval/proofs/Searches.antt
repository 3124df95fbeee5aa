-- The search for a cycle through a let.
use Rattle.std.proofs.Common.{◌≡◌, ℕ, zero, suc, ◌+◌, ◌-◌, ◌<◌, ◌≤◌, Contains, List, [], ◌∷◌, ◌++◌, length, take, get_or, slice_get, Option, Some, None, MatchOption, false, refl, sym, ◌∙◌, ap, subst, arith, ◌⊎◌, inl, inr, length-append}
use Rattle.std.specs.Option.{is_some}
use Rattle.std.proofs.lemmas.Bool.{cases_lt}
use Rattle.std.proofs.lemmas.Option.{slice_get-get_or, slice_get_within, same_Some, MatchOption-at_some, MatchOption-at_none}
use Rattle.std.proofs.lemmas.List.Elements.{Contains-push_cases}
use Rattle.dbp_plan.specs.declared.diagram.Let.{Let}
use Rattle.dbp_plan.specs.Listed.{AreListed}
use Rattle.dbp_plan.specs.ListItems.{at_place, front_place, last_place, all_place, take_place}
use Rattle.expr_eval.specs.LetOrders.{Uses, IsCycleFrom, IsFirstCycle, LiesOnCycle}
use Rattle.expr_eval.specs.LetSearch.{IsNextUser, UsesOneOf, UsesNoneOf, LeadTo, AreAllLeading}
use Rattle.dbp_plan.proofs.Listed.{place_of, contains_at, one_place, listed_none, listed_push, listed_room}
use Rattle.dbp_plan.proofs.Cycles.{IsPath, path_one, path_more, path_closed}
use Rattle.expr_eval.proofs.Cycles.{cycle_listed}

pub lead_one : (base : ℕ) (lets : List Let) (target : ℕ) → target < length lets → LeadTo base lets target (target ∷ [])
lead_one base lets target below = record {
  listed = listed_push (length lets) [] target (listed_none (length lets)) below (λ among. absurd (omega (arith, among.1)));
  begins = refl;
  linked = λ k i after at. absurd (omega (arith, slice_get_within (target ∷ []) k i at));
}

pub lead_more : (base : ℕ) (lets : List Let) (target : ℕ) (found : List ℕ) (user : ℕ) → LeadTo base lets target found → user < length lets → (Contains found user → ⊥)
    → UsesOneOf base lets found user → LeadTo base lets target (found ++ user ∷ [])
lead_more base lets target found user lead below fresh uses_one =
    let some : 0 < length found = slice_get_within found 0 target lead.begins in
    record {
      listed = listed_push (length lets) found user lead.listed below fresh;
      begins = front_place found (user ∷ []) 0 some ∙ lead.begins;
      linked = λ k i after at. elim (cases_lt k (length found)) [
        | inl before ↦
            let step = lead.linked k i after (sym (front_place found (user ∷ []) k before) ∙ at) in
            let inside : step.0 < length found = omega (arith, step.2) in
            (step.0, step.1, step.2, front_place found (user ∷ []) step.0 inside ∙ step.3, step.4)
        | inr later ↦
            let end : k ≡ length found = omega (arith, slice_get_within (found ++ user ∷ []) k i at, length-append found (user ∷ [])) in
            let same : user ≡ i = same_Some user i (sym (last_place found user k end) ∙ at) in
            let place = place_of found uses_one.0 uses_one.1 in
            (place.0, uses_one.0, omega (arith, place.1), front_place found (user ∷ []) place.0 place.1 ∙ place.2, subst (λ (z : ℕ). Uses base lets z uses_one.0) same uses_one.2)
      ];
    }

-- a path from the target through lets that were found, each earlier; the next one is below the bound
pub record IsDescent (base : ℕ) (lets : List Let) (target : ℕ) (found : List ℕ) (bound : ℕ) (path : List ℕ) (last : ℕ) : Type 0 where
  pub is : IsPath (Uses base lets) path last
  pub begins : slice_get path 0 ≡ Some target
  pub below : last < length lets
  pub among : (x : ℕ) → Contains path x → (q : ℕ) × (slice_get found q ≡ Some x) × ((q ≡ 0) ⊎ (bound ≤ q))
  pub within : bound ≤ length found
  pub follows : ((last ≡ target) × (bound ≡ length found)) ⊎ ((m : ℕ) × (j : ℕ) × (m < bound) × (slice_get found m ≡ Some j) × Uses base lets last j)

only_one : (x y : ℕ) → Contains (x ∷ []) y → x ≡ y
only_one x y among =
    let place = place_of (x ∷ []) y among in
    let first : place.0 ≡ 0 = omega (arith, place.1) in
    same_Some x y (ap (λ (z : ℕ). slice_get (x ∷ []) z) (sym first) ∙ place.2)

pub descent_begin : (base : ℕ) (lets : List Let) (target : ℕ) (found : List ℕ) → LeadTo base lets target found → IsDescent base lets target found (length found) (target ∷ []) target
descent_begin base lets target found lead = record {
  is = path_one (Uses base lets) target;
  begins = refl;
  below = all_place (λ i. i < length lets) found 0 target lead.listed.named lead.begins;
  among = λ x inside. (0, lead.begins ∙ ap (λ (z : ℕ). Some z) (only_one target x inside), inl refl);
  within = omega arith;
  follows = inl (refl, refl);
}

pub descent_more : (base : ℕ) (lets : List Let) (target : ℕ) (found : List ℕ) (bound : ℕ) (path : List ℕ) (last place next : ℕ) → LeadTo base lets target found
    → IsDescent base lets target found bound path last → 0 < place → place < bound → slice_get found place ≡ Some next → Uses base lets last next
    → IsDescent base lets target found place (path ++ next ∷ []) next
descent_more base lets target found bound path last place next lead descent after before at used =
    let fresh : Contains path next → ⊥ = λ inside.
    let there = descent.among next inside in
    let same : there.0 ≡ place = one_place found lead.listed.once there.0 place next there.1 at in
    elim there.2 [ inl first ↦ absurd (omega arith) | inr later ↦ absurd (omega arith) ] in
    let some : 0 < length path = descent.is.some in
    let step = lead.linked place next after at in
    record {
      is = path_more (Uses base lets) path last next descent.is used fresh;
      begins = front_place path (next ∷ []) 0 some ∙ descent.begins;
      below = all_place (λ i. i < length lets) found place next lead.listed.named at;
      among = λ x inside. elim (Contains-push_cases path next x inside) [
        | inl old ↦
            let there = descent.among x old in
            (there.0, there.1, elim there.2 [ inl first ↦ inl first | inr later ↦ inr (omega arith) ])
        | inr same ↦ (place, at ∙ ap (λ (z : ℕ). Some z) same, inr (omega arith))
      ];
      within = omega (arith, descent.within);
      follows = inr step;
    }

pub descent_closed : (base : ℕ) (lets : List Let) (target : ℕ) (found : List ℕ) (bound : ℕ) (path : List ℕ) (last first : ℕ) → LeadTo base lets target found
    → IsDescent base lets target found bound path last → slice_get found 0 ≡ Some first → Uses base lets last first → IsCycleFrom base lets target path
descent_closed base lets target found bound path last first lead descent at used =
    let same : first ≡ target = same_Some first target (sym at ∙ lead.begins) in
    path_closed (Uses base lets) path last target descent.is descent.begins (subst (λ (z : ℕ). Uses base lets last z) same used)

pub descent_few : (base : ℕ) (lets : List Let) (target : ℕ) (found : List ℕ) (bound : ℕ) (path : List ℕ) (last : ℕ) → LeadTo base lets target found
    → IsDescent base lets target found bound path last → AreListed (length lets) path
descent_few base lets target found bound path last lead descent = record {
  named = λ k d below.
      let there = descent.among (get_or path k d) (contains_at path k (get_or path k d) (slice_get-get_or path k d below)) in
      all_place (λ i. i < length lets) found there.0 (get_or path k d) lead.listed.named there.1;
  once = descent.is.distinct;
}

-- from each further let of a cycle uses lead to its first
leads_back : (base : ℕ) (lets : List Let) (target : ℕ) (found cycle : List ℕ) → LeadTo base lets target found → AreAllLeading base lets found → IsCycleFrom base lets target cycle
    → (n p i : ℕ) → p + n + 1 ≡ length cycle → slice_get cycle p ≡ Some i → Contains found i
leads_back base lets target found cycle lead all loops zero p i end at =
    let last : p + 1 ≡ length cycle = omega arith in
    all i target (contains_at found 0 target lead.begins) (loops.is.closed p i target last at loops.begins)
leads_back base lets target found cycle lead all loops (suc n) p i end at =
    let more : p + 1 < length cycle = omega arith in
    let next = at_place cycle (p + 1) more in
    all i next.0 (leads_back base lets target found cycle lead all loops n (p + 1) next.0 (omega arith) next.1) (loops.is.linked p i next.0 at next.1)

-- if the target uses none of those that were found it lies on no cycle
no_cycle : (base : ℕ) (lets : List Let) (target : ℕ) (found : List ℕ) → LeadTo base lets target found → AreAllLeading base lets found → UsesNoneOf base lets found target → LiesOnCycle base lets target → ⊥
no_cycle base lets target found lead all none (cycle, loops) = elim (cases_lt 1 (length cycle)) [
  | inl more ↦
      let next = at_place cycle 1 more in
      let back = leads_back base lets target found cycle lead all loops (length cycle - 2) 1 next.0 (omega arith) next.1 in
      none next.0 back (loops.is.linked 0 target next.0 loops.begins next.1)
  | inr one ↦
      let alone : 0 + 1 ≡ length cycle = omega (arith, loops.is.some) in
      none target (contains_at found 0 target lead.begins) (loops.is.closed 0 target target alone loops.begins loops.begins)
]

pub descent_none : (base : ℕ) (lets : List Let) (target : ℕ) (found : List ℕ) (bound : ℕ) (path : List ℕ) (last : ℕ) → LeadTo base lets target found → AreAllLeading base lets found
    → IsDescent base lets target found bound path last → UsesNoneOf base lets (take bound found) last → LiesOnCycle base lets target → ⊥
descent_none base lets target found bound path last lead all descent none lies = elim descent.follows [
  | inl (same, whole) ↦
      let none_found : UsesNoneOf base lets found target = λ j inside used.
      let place = place_of found j inside in
      let before : place.0 < bound = omega (arith, place.1) in
      none j (contains_at (take bound found) place.0 j (take_place found bound place.0 before ∙ place.2)) (subst (λ (z : ℕ). Uses base lets z j) (sym same) used) in
      no_cycle base lets target found lead all none_found lies
  | inr (m, j, before, at, used) ↦ none j (contains_at (take bound found) m j (take_place found bound m before ∙ at)) used
]

pub lead_room : (base : ℕ) (lets : List Let) (target : ℕ) (found : List ℕ) (user : ℕ) → LeadTo base lets target found → IsNextUser base lets found user → length found < length lets
lead_room base lets target found user lead next = listed_room (length lets) found user lead.listed next.named next.new

pub absent : {X : Type 0} (P : Type 0) (Q : X → Type 0) (o : Option X) → false ≡ is_some o → MatchOption o P Q → P
absent P Q None none is = is
absent P Q (Some x) none is = cc

-- what the search over all lets found

abbrev pub IsSearched : ℕ → List Let → Option (List ℕ) → Type 0
IsSearched base lets found = MatchOption found ((i : ℕ) → i < length lets → LiesOnCycle base lets i → ⊥) (λ cycle. (first : ℕ) × IsFirstCycle base lets first cycle)

pub found_listed : (base : ℕ) (lets : List Let) (found : Option (List ℕ)) (cycle : List ℕ) → found ≡ Some cycle → IsSearched base lets found → AreListed (length lets) cycle
found_listed base lets found cycle is searched =
    let first : (first : ℕ) × IsFirstCycle base lets first cycle =
    MatchOption-at_some ((i : ℕ) → i < length lets → LiesOnCycle base lets i → ⊥) (λ cycle. (first : ℕ) × IsFirstCycle base lets first cycle) cycle is searched in
    cycle_listed base lets cycle first.1.is.is

pub found_none : (base : ℕ) (lets : List Let) (found : Option (List ℕ)) → found ≡ None → IsSearched base lets found → (i : ℕ) → i < length lets → LiesOnCycle base lets i → ⊥
found_none base lets found is searched =
    MatchOption-at_none ((i : ℕ) → i < length lets → LiesOnCycle base lets i → ⊥) (λ cycle. (first : ℕ) × IsFirstCycle base lets first cycle) is searched
