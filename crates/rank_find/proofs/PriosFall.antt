-- Ranks of tasks whose priorities fall along an order.
use Rattle.std.proofs.Common.{◌≡◌, ℕ, zero, suc, ◌+◌, ◌-◌, ◌^◌, ◌<◌, ◌≤◌, true, List, length, get_or, slice_get, Some, refl, sym, ◌∙◌, ap, arith}
use Rattle.std.specs.Prelude.{unwrap_or}
use Rattle.std.proofs.lemmas.Bool.{lt-ltb}
use Rattle.std.proofs.lemmas.Option.{get_or_from_slice_get, same_Some, slice_get-get_or, slice_get_within}
use Rattle.dbp_plan.specs.declared.diagram.Policy.TheVariants.{Fp}
use Rattle.dbp_plan.specs.declared.diagram.Task.{Task}
use Rattle.dbp_plan.specs.ListItems.{all_place, at_place}
use Rattle.dbp_plan.specs.Policies.{urgency}
use Rattle.dbp_plan.specs.Ranking.{IsByRank}
use Rattle.dbp_plan.specs.Ranks.{is_above, rank_among, ranks_of}
use Rattle.dbp_plan.proofs.Listed.{listed_all, place_of}
use Rattle.dbp_plan.proofs.RankLaws.{above-fewer, length-ranks_of, rank-at, rank-below, rank-index}
use Rattle.rank_find.specs.Orders.{HoldsEachOnce}

-- numbers below a bound that rise with their places are those of the places
module _ (f : ℕ → ℕ) (count : ℕ) (rises : (k m : ℕ) → k < m → m < count → f k < f m) (below : (k : ℕ) → k < count → f k < count) where
  at_least : (k : ℕ) → k < count → k ≤ f k
  at_least zero inside = omega arith
  at_least (suc k) inside = omega (arith, at_least k (omega arith), rises k (suc k) (omega arith) inside)

  at_most : (left k : ℕ) → k + suc left ≡ count → f k ≤ k
  at_most zero k end = omega (arith, below k (omega arith))
  at_most (suc left) k end = omega (arith, at_most left (k + 1) (omega arith), rises k (k + 1) (omega arith) (omega arith))

  itself : (k : ℕ) → k < count → f k ≡ k
  itself k inside = omega (arith, at_least k inside, at_most (count - (k + 1)) k (omega arith))

module _ (tasks : List Task) (order : List ℕ) (few : length tasks < 2 ^ 32) (once : HoldsEachOnce (length tasks) order) (falls : (k i : ℕ) (t : Task) → slice_get order k ≡ Some i → slice_get tasks i ≡ Some t → t.prio ≡ Some (length order - (k + 1))) where
  by_prio : (t : Task) (prio : ℕ) → t.prio ≡ Some prio → unwrap_or (urgency Fp t) 0 ≡ (2 ^ 32 - 1) - prio
  by_prio t prio is = rw is refl

  abbrev ranked : ℕ → ℕ
  ranked k = get_or (ranks_of Fp tasks) (get_or order k 0) 0

  -- the task at a place of the order, with its rank
  placed : (k : ℕ) → k < length tasks → (t : Task) × (slice_get order k ≡ Some (get_or order k 0)) × (slice_get tasks (get_or order k 0) ≡ Some t) × (ranked k ≡ rank_among Fp tasks (get_or order k 0, t))
  placed k inside =
      let at : slice_get order k ≡ Some (get_or order k 0) = slice_get-get_or order k 0 (omega (arith, once.size)) in
      let named : get_or order k 0 < length tasks = all_place (λ i. i < length tasks) order k (get_or order k 0) once.listed.named at in
      let task = at_place tasks (get_or order k 0) named in
      (task.0, at, task.1, rank-index Fp tasks (get_or order k 0) task.0 task.1)

  ranks_rise : (k m : ℕ) → k < m → m < length tasks → ranked k < ranked m
  ranks_rise k m less inside =
      let upper = placed k (omega arith) in
      let lower = placed m inside in
      let high = by_prio upper.0 (length order - (k + 1)) (falls k (get_or order k 0) upper.0 upper.1 upper.2) in
      let low = by_prio lower.0 (length order - (m + 1)) (falls m (get_or order m 0) lower.0 lower.1 lower.2) in
      let urgent : unwrap_or (urgency Fp upper.0) 0 < unwrap_or (urgency Fp lower.0) 0 = omega (arith, high, low, once.size, few) in
      let above : is_above Fp (get_or order k 0, upper.0) (get_or order m 0, lower.0) ≡ true = rw (lt-ltb _ _ urgent) refl in
      omega (arith, upper.3, lower.3, above-fewer Fp tasks (get_or order k 0) (get_or order m 0) upper.0 lower.0 upper.2 above)

  rank_inside : (k : ℕ) → k < length tasks → ranked k < length tasks
  rank_inside k inside =
      let here = placed k inside in
      omega (arith, here.3, rank-below Fp tasks (get_or order k 0) (rank_among Fp tasks (get_or order k 0, here.0)) (rank-at Fp tasks (get_or order k 0) here.0 here.2))

  -- the rank of each task is its place
  rank_of_place : (k i : ℕ) → slice_get order k ≡ Some i → slice_get (ranks_of Fp tasks) i ≡ Some k
  rank_of_place k i at =
      let inside : k < length tasks = omega (arith, slice_get_within order k i at, once.size) in
      let is : ranked k ≡ k = itself ranked (length tasks) ranks_rise rank_inside k inside in
      let same : get_or order k 0 ≡ i = get_or_from_slice_get order k i 0 at in
      let named : i < length tasks = all_place (λ j. j < length tasks) order k i once.listed.named at in
      slice_get-get_or (ranks_of Fp tasks) i 0 (omega (arith, named, length-ranks_of Fp tasks))
      ∙ ap (λ (r : ℕ). Some r) (ap (λ (j : ℕ). get_or (ranks_of Fp tasks) j 0) (sym same) ∙ is)

  pub by_rank : IsByRank (ranks_of Fp tasks) order
  by_rank = record {
    size = once.size ∙ sym (length-ranks_of Fp tasks);
    place = λ i r at.
        let named : i < length tasks = omega (arith, slice_get_within (ranks_of Fp tasks) i r at, length-ranks_of Fp tasks) in
        let there = place_of order i (listed_all (length tasks) order i once.listed (omega (arith, once.size)) named) in
        let same : Some r ≡ Some there.0 = sym at ∙ rank_of_place there.0 i there.2 in
        let one : r ≡ there.0 = same_Some r there.0 same in
        ap (λ (k : ℕ). slice_get order k) one ∙ there.2;
    rank = λ i r at. rank_of_place r i at;
  }
