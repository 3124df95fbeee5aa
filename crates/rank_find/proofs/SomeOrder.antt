-- A diagram whose direct links form no cycle has an order.
use Rattle.std.proofs.Common.{◌≡◌, ◌⊎◌, ℕ, zero, suc, ◌+◌, ◌<◌, ◌≤◌, true, false, Contains, List, [], ◌∷◌, ◌++◌, length, Option, Some, None, refl, sym, subst, arith, inl, inr}
use Rattle.std.specs.Prelude.{MatchOption, slice_index_or}
use Rattle.std.proofs.lemmas.Bool.{cases_Bool}
use Rattle.std.proofs.lemmas.List.{length_push}
use Rattle.std.proofs.lemmas.List.Elements.{Contains-append_cases, Contains-append_right}
use Rattle.dbp_plan.specs.declared.diagram.Diagram.{Diagram}
use Rattle.dbp_plan.specs.Closed.{IsClosed}
use Rattle.dbp_plan.specs.Cycles.{IsCycle}
use Rattle.dbp_plan.proofs.Listed.{contains_cases, listed_all}
use Rattle.rank_find.specs.Fronts.{AllWait, IsFront, IsReady, IsUnready, Waits}
use Rattle.rank_find.specs.Links.{AreWriters, IsWriter, WritesTo, direct_writers}
use Rattle.rank_find.specs.Orders.{IsFirstFree, IsFree, IsOrder, is_first_of}
use Rattle.rank_find.proofs.Cycles.{found_none}
use Rattle.rank_find.proofs.FreeTasks.{FirstSoFar, first_all, first_changes, first_stays, first_waits, free_tells}
use Rattle.rank_find.proofs.OrderFronts.{front_more, front_none, order_of_front}
use Rattle.rank_find.proofs.Turned.{lies_also}
use Rattle.rank_find.proofs.Writers.{WritersSoFar, only_one, writers_all, writers_more, writers_none}

-- all of these writers are placed, or one of them isn't
readiness : (writers placed : List ℕ) → IsReady writers placed ⊎ IsUnready writers placed
readiness [] placed = inl (λ j among. absurd (omega (arith, among.1)))
readiness (w ∷ ws) placed = elim (contains_cases placed w) [
  | inl here ↦ elim (readiness ws placed) [
    | inl ready ↦ inl (λ j among. elim (Contains-append_cases (w ∷ []) ws j among) [
      | inl first ↦ subst (λ (k : ℕ). Contains placed k) (only_one w j first) here
      | inr later ↦ ready j later
    ])
    | inr (j, among, missing) ↦ inr (j, Contains-append_right (w ∷ []) ws j among, missing)
  ]
  | inr missing ↦ inr (w, (0, omega arith, refl), missing)
]

module _ (d : Diagram) (closed : IsClosed d) where
  writers_to : (count : ℕ) → (writers : List (List ℕ)) × WritersSoFar d.links count writers
  writers_to zero = ([], writers_none d.links)
  writers_to (suc count) =
      let (writers, so_far) = writers_to count in
      let after : count + 1 ≡ suc count = omega arith in
      (writers ++ direct_writers d.links count ∷ [], subst (λ (n : ℕ). WritersSoFar d.links n (writers ++ direct_writers d.links count ∷ [])) after (writers_more d.links count writers so_far))

  some_writers : (writers : List (List ℕ)) × AreWriters d writers
  some_writers = let (writers, so_far) = writers_to (length d.tasks) in (writers, writers_all d writers closed so_far)

  -- a task is free, or it waits if it isn't placed
  free_or_waits : (placed : List ℕ) (task : ℕ) → task < length d.tasks → IsFree d placed task ⊎ ((Contains placed task → ⊥) → Waits d placed task)
  free_or_waits placed task below =
      let (writers, are) = some_writers in
      elim (contains_cases placed task) [
        | inl among ↦ inr (λ unplaced. absurd (unplaced among))
        | inr unplaced ↦ elim (readiness (slice_index_or writers task []) placed) [
          | inl ready ↦ inl (free_tells d writers placed task true are below unplaced ready)
          | inr waits ↦ inr (free_tells d writers placed task false are below unplaced waits)
        ]
      ]

  first_with : (placed : List ℕ) (count : ℕ) (first : Option ℕ) → FirstSoFar d placed count first → IsFree d placed count → (new : Option ℕ) × FirstSoFar d placed (count + 1) new
  first_with placed count None none free = (Some count, first_changes d placed count None true none free refl refl)
  first_with placed count (Some i) first free = elim (cases_Bool (is_first_of d count i)) [
    | inl is ↦ (Some count, first_changes d placed count (Some i) true first free (sym is) refl)
    | inr isnt ↦ (Some i, first_stays d placed count (Some i) false first (sym isnt) refl)
  ]

  first_to : (placed : List ℕ) (count : ℕ) → count ≤ length d.tasks → (first : Option ℕ) × FirstSoFar d placed count first
  first_to placed zero few = (None, λ i below. absurd (omega arith))
  first_to placed (suc count) few =
      let (first, so_far) = first_to placed count (omega arith) in
      let after : count + 1 ≡ suc count = omega arith in
      let more : (new : Option ℕ) × FirstSoFar d placed (count + 1) new = elim (free_or_waits placed count (omega arith)) [
        | inl free ↦ first_with placed count first so_far free
        | inr waits ↦ (first, first_waits d placed count first so_far waits)
      ] in
      subst (λ (n : ℕ). (new : Option ℕ) × FirstSoFar d placed n new) after more

  next : (placed : List ℕ) → (first : Option ℕ) × MatchOption first (AllWait d placed) (IsFirstFree d placed)
  next placed = let (first, so_far) = first_to placed (length d.tasks) (omega arith) in (first, first_all d placed first so_far)

  -- an order as far as it goes
  abbrev Grown : Type 0
  Grown = (order : List ℕ) × IsFront d order × AllWait d order

  one_more : (placed : List ℕ) → IsFront d placed → (first : Option ℕ) → MatchOption first (AllWait d placed) (IsFirstFree d placed)
      → ((i : ℕ) → IsFront d (placed ++ i ∷ []) → Grown) → Grown
  one_more placed front None wait further = (placed, front, wait)
  one_more placed front (Some i) free further = further i (front_more d placed i front free)

  grows : (left : ℕ) (placed : List ℕ) → IsFront d placed → length d.tasks ≤ length placed + left → Grown
  grows zero placed front all = (placed, front, λ i below unplaced. absurd (unplaced (listed_all (length d.tasks) placed i front.listed (omega arith) below)))
  grows (suc left) placed front all =
      one_more placed front (next placed).0 (next placed).1 (λ i longer. grows left (placed ++ i ∷ []) longer (omega (arith, length_push placed i)))

  pub some_order : ((cycle : List ℕ) → IsCycle (WritesTo d) cycle → ⊥) → (order : List ℕ) × IsOrder d order
  some_order none =
      let (order, front, wait) = grows (length d.tasks) [] (front_none d) (omega arith) in
      let (writers, are) = some_writers in
      let all = found_none d writers order None closed are front wait
      (λ i below lies. let on = lies_also (IsWriter writers) (WritesTo d) i (λ a b writes. (are.each a b).0 writes) lies in none on.0 on.1.is) refl in
      (order, order_of_front d order front all)
