-- Paths and cycles of numbers that use each other, by any relation.
use Rattle.std.proofs.Common.{◌≡◌, ◌≢◌, ℕ, zero, suc, ◌+◌, ◌-◌, ◌<◌, ◌≤◌, All, AllPairs, Contains, List, [], ◌∷◌, ◌++◌, length, take, drop, get_or, slice_get, Some, sym, ◌∙◌, ap, subst, arith, inl, inr, length-append}
use Rattle.std.proofs.lemmas.Bool.{cases_lt}
use Rattle.std.proofs.lemmas.Option.{slice_get-get_or, slice_get_within, same_Some}
use Rattle.std.proofs.lemmas.List.{length-drop, get_or-drop}
use Rattle.std.proofs.lemmas.List.Elements.{All-push}
use Rattle.dbp_plan.specs.Cycles.{IsReady, AllWait, IsCycle, IsCycleFrom, LiesOnCycle}
use Rattle.dbp_plan.specs.ListItems.{at_place, front_place, last_place, drop_place, take_inside}
use Rattle.dbp_plan.specs.Listed.{AreListed}
use Rattle.dbp_plan.proofs.Listed.{place_of, contains_cases, once_push, listed_none, listed_push, listed_few, listed_all, listed_full}

-- each number of the order stands after those that it uses
abbrev pub AllReady : (ℕ → ℕ → Type 0) → List ℕ → Type 0
AllReady R order = (p i : ℕ) → slice_get order p ≡ Some i → IsReady R (take p order) i

-- such an order holds each number of a cycle after the next one
before_next : (R : ℕ → ℕ → Type 0) (order cycle : List ℕ) → AllReady R order → IsCycle R cycle
    → (n p i m : ℕ) → m < n → slice_get cycle p ≡ Some i → slice_get order m ≡ Some i → ⊥
before_next R order cycle ready loops zero p i m less at placed = absurd (omega arith)
before_next R order cycle ready loops (suc n) p i m less at placed =
    let inside : p < length cycle = slice_get_within cycle p i at in
    let next : (q : ℕ) × (j : ℕ) × (slice_get cycle q ≡ Some j) × R i j = elim (cases_lt (p + 1) (length cycle)) [
      | inl more ↦
          let there = at_place cycle (p + 1) more in
          (p + 1, there.0, there.1, loops.linked p i there.0 at there.1)
      | inr last ↦
          let there = at_place cycle 0 loops.some in
          let end : p + 1 ≡ length cycle = omega arith in
          (0, there.0, there.1, loops.closed p i there.0 end at there.1)
    ] in
    let place = place_of (take m order) next.1 (ready m i placed next.1 next.3) in
    let before : place.0 < m = (take_inside order m place.0 next.1 place.2).0 in
    before_next R order cycle ready loops n next.0 next.1 place.0 (omega arith) next.2 ((take_inside order m place.0 next.1 place.2).1)

-- if all that use another are below a bound, so is each number of a cycle
cycle_below : (R : ℕ → ℕ → Type 0) (count : ℕ) (cycle : List ℕ) → ((i j : ℕ) → R i j → i < count) → IsCycle R cycle → (p i : ℕ) → slice_get cycle p ≡ Some i → i < count
cycle_below R count cycle below loops p i at =
    let inside : p < length cycle = slice_get_within cycle p i at in
    elim (cases_lt (p + 1) (length cycle)) [
      | inl more ↦ let there = at_place cycle (p + 1) more in below i there.0 (loops.linked p i there.0 at there.1)
      | inr last ↦ let there = at_place cycle 0 loops.some in let end : p + 1 ≡ length cycle = omega arith in below i there.0 (loops.closed p i there.0 end at there.1)
    ]

pub cycle_listed : (R : ℕ → ℕ → Type 0) (count : ℕ) (cycle : List ℕ) → ((i j : ℕ) → R i j → i < count) → IsCycle R cycle → AreListed count cycle
cycle_listed R count cycle below loops = record {
  named = λ k d inside. cycle_below R count cycle below loops k (get_or cycle k d) (slice_get-get_or cycle k d inside);
  once = loops.distinct;
}

-- no order of all numbers below the bound, in which each stands after those that it uses, has a cycle
pub no_order : (R : ℕ → ℕ → Type 0) (count : ℕ) (order cycle : List ℕ) → ((i j : ℕ) → R i j → i < count)
    → AreListed count order → count ≤ length order → AllReady R order → IsCycle R cycle → ⊥
no_order R count order cycle below listed long ready loops =
    let first = at_place cycle 0 loops.some in
    let inside : first.0 < count = cycle_below R count cycle below loops 0 first.0 first.1 in
    let place = place_of order first.0 (listed_all count order first.0 listed long inside) in
    before_next R order cycle ready loops (place.0 + 1) 0 first.0 place.0 (omega arith) first.1 place.2

-- ---- paths

-- distinct numbers, of which each uses the next, and the last of which is this one
pub record IsPath (R : ℕ → ℕ → Type 0) (path : List ℕ) (last : ℕ) : Type 0 where
  pub some : 0 < length path
  pub distinct : AllPairs (λ i j. i ≢ j) path
  pub linked : (p i j : ℕ) → slice_get path p ≡ Some i → slice_get path (p + 1) ≡ Some j → R i j
  pub ends : (p : ℕ) → p + 1 ≡ length path → slice_get path p ≡ Some last

-- a number by itself is a path
pub path_one : (R : ℕ → ℕ → Type 0) (i : ℕ) → IsPath R (i ∷ []) i
path_one R i = record {
  some = omega arith;
  distinct = λ k m d less below. absurd (omega arith);
  linked = λ p j k at next. absurd (omega (arith, slice_get_within (i ∷ []) (p + 1) k next));
  ends = λ p is. let first : 0 ≡ p = omega arith in ap (λ (z : ℕ). slice_get (i ∷ []) z) (sym first);
}

-- a path goes on to a new number that its last one uses
pub path_more : (R : ℕ → ℕ → Type 0) (path : List ℕ) (last next : ℕ) → IsPath R path last → R last next → (Contains path next → ⊥) → IsPath R (path ++ next ∷ []) next
path_more R path last next is used fresh =
    let size : length (path ++ next ∷ []) ≡ length path + 1 = omega (arith, length-append path (next ∷ [])) in
    record {
      some = omega (arith, size);
      distinct = once_push path next is.distinct fresh;
      linked = λ p i j at later.
          let inside : p + 1 < length (path ++ next ∷ []) = slice_get_within (path ++ next ∷ []) (p + 1) j later in
          let before : p < length path = omega (arith, size, inside) in
          let here : slice_get path p ≡ Some i = sym (front_place path (next ∷ []) p before) ∙ at in
          elim (cases_lt (p + 1) (length path)) [
            | inl more ↦ is.linked p i j here (sym (front_place path (next ∷ []) (p + 1) more) ∙ later)
            | inr end ↦
                let all : p + 1 ≡ length path = omega arith in
                let is_last : last ≡ i = same_Some last i (sym (is.ends p all) ∙ here) in
                let is_next : next ≡ j = same_Some next j (sym (last_place path next (p + 1) all) ∙ later) in
                subst (λ (z : ℕ). R z j) is_last (subst (λ (z : ℕ). R last z) is_next used)
          ];
      ends = λ p end. last_place path next p (omega (arith, size));
    }

-- a path whose last number uses its first is a cycle
pub path_closed : (R : ℕ → ℕ → Type 0) (path : List ℕ) (last first : ℕ) → IsPath R path last → slice_get path 0 ≡ Some first → R last first → IsCycleFrom R first path
path_closed R path last first is begins used = record {
  is = record {
    some = is.some;
    distinct = is.distinct;
    linked = is.linked;
    closed = λ p i j end at start.
        let is_last : last ≡ i = same_Some last i (sym (is.ends p end) ∙ at) in
        let is_first : first ≡ j = same_Some first j (sym begins ∙ start) in
        subst (λ (z : ℕ). R z j) is_last (subst (λ (z : ℕ). R last z) is_first used);
  };
  begins = begins;
}

-- the end of a path is a path
path_drop : (R : ℕ → ℕ → Type 0) (path : List ℕ) (last q : ℕ) → q < length path → IsPath R path last → IsPath R (drop q path) last
path_drop R path last q inside is =
    let size : length (drop q path) ≡ length path - q = length-drop q path in
    record {
      some = omega (arith, size);
      distinct = λ k m d less below.
          let far : q + m < length path = omega (arith, size) in
          let near : q + k < q + m = omega arith in
          let apart = is.distinct (q + k) (q + m) d near far in
          (λ same. apart (sym (get_or-drop q path k d) ∙ same ∙ get_or-drop q path m d));
      linked = λ p i j at next.
          let after : q + (p + 1) ≡ q + p + 1 = omega arith in
          is.linked (q + p) i j (sym (drop_place path q p) ∙ at) (ap (λ (z : ℕ). slice_get path z) (sym after) ∙ sym (drop_place path q (p + 1)) ∙ next);
      ends = λ p end. let all : q + p + 1 ≡ length path = omega (arith, size) in drop_place path q p ∙ is.ends (q + p) all;
    }

-- ---- if numbers are placed one after another

-- if none that isn't placed is ready, one lies on a cycle: a path among them comes back
pub grown : (R : ℕ → ℕ → Type 0) (count : ℕ) (placed : List ℕ) → ((i j : ℕ) → R i j → j < count) → AllWait R count placed
    → (room : ℕ) (path : List ℕ) (last : ℕ) → IsPath R path last → All (λ i. i < count) path → last < count → (Contains placed last → ⊥) → count < length path + room
    → (i : ℕ) × (i < count) × LiesOnCycle R i
grown R count placed used wait zero path last is named below fresh many =
    let few = listed_few count path (record { named = named; once = is.distinct }) in
    absurd (omega (arith, few))
grown R count placed used wait (suc room) path last is named below fresh many =
    let waits = wait last below fresh in
    let next : ℕ = waits.0 in
    let uses : R last next = waits.1 in
    let inside : next < count = used last next uses in
    elim (contains_cases path next) [
      | inl back ↦
          let place = place_of path next back in
          let none_more : place.0 + 0 ≡ place.0 = omega arith in
          let begins : slice_get (drop place.0 path) 0 ≡ Some next = drop_place path place.0 0 ∙ ap (λ (z : ℕ). slice_get path z) none_more ∙ place.2 in
          (next, inside, (drop place.0 path, path_closed R (drop place.0 path) last next (path_drop R path last place.0 place.1 is) begins uses))
      | inr new ↦
          let longer : count < length (path ++ next ∷ []) + room = omega (arith, length-append path (next ∷ [])) in
          grown R count placed used wait room (path ++ next ∷ []) next (path_more R path last next is uses new)
          (All-push (λ i. i < count) path next named inside) inside waits.2 longer
    ]

-- so if none lies on a cycle all are placed
pub all_placed : (R : ℕ → ℕ → Type 0) (count : ℕ) (placed : List ℕ) → ((i j : ℕ) → R i j → j < count) → AreListed count placed → AllWait R count placed
    → ((i : ℕ) → i < count → LiesOnCycle R i → ⊥) → length placed ≡ count
all_placed R count placed used listed wait none =
    listed_full count placed listed (λ i below. elim (contains_cases placed i) [
      | inl inside ↦ inside
      | inr outside ↦
          let named : All (λ i. i < count) (i ∷ []) = (listed_push count [] i (listed_none count) below (λ among. absurd (omega (arith, among.1)))).named in
          let cycle = grown R count placed used wait count (i ∷ []) i (path_one R i) named below outside (omega arith) in
          absurd (none cycle.0 cycle.1 cycle.2)
    ])
