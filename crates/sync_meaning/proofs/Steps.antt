-- Which instances are computed.
use Rattle.std.proofs.Common.{◌≡◌, ◌≢◌, ℕ, ◌<◌, ◌≤◌, ◌+◌, List, length, slice_get, set, Some, sym, ◌∙◌, ap, arith, inl, inr}
use Rattle.std.specs.Prelude.{replicate}
use Rattle.std.proofs.lemmas.Bool.{cases_eq}
use Rattle.std.proofs.lemmas.List.{length-set, length-replicate}
use Rattle.std.proofs.lemmas.Option.{slice_get_within, same_Some}
use Rattle.dbp_plan.specs.declared.schedule.Batch.{Batch}
use Rattle.dbp_plan.specs.Occurrences.{names}
use Rattle.dbp_plan.specs.ListItems.{at_place}
use Rattle.dbp_plan.specs.Ranking.{IsRanking}
use Rattle.sync_meaning.specs.Run.{IsDoneAbove}
use Rattle.sync_meaning.specs.Shape.{IsMarked}
use Rattle.sync_meaning.proofs.Counts.{one_if, one_if_le}
use Rattle.sync_meaning.proofs.Sets.{set_cases, zero_of}

-- before the first batch
pub done_none : (count rank : ℕ) (ranks named done : List ℕ) → length ranks ≡ count → named ≡ replicate count 0 → done ≡ replicate count 0 → IsDoneAbove rank ranks named done
done_none count rank ranks named done size no_named no_done =
    let named_at : (i n : ℕ) → slice_get named i ≡ Some n → n ≡ 0 = λ i n at. zero_of count i n named no_named at in
    let done_at : (i n : ℕ) → slice_get done i ≡ Some n → n ≡ 0 = λ i n at. zero_of count i n done no_done at in
    record {
      size = ap length no_named ∙ length-replicate count 0 ∙ sym size;
      counts = ap length no_done ∙ length-replicate count 0 ∙ sym size;
      each = λ i m n at_m at_n. (omega (arith, done_at i m at_m), omega (arith, named_at i n at_n));
      above = λ i m n r at_r below at_m at_n. done_at i m at_m ∙ sym (named_at i n at_n);
    }

-- a batch is named if all instances are computed
pub done_marked : (batch : Batch) (rank : ℕ) (ranks named later done : List ℕ) → ((i r : ℕ) → slice_get ranks i ≡ Some r → r < rank) → IsDoneAbove rank ranks named done → IsMarked batch named later → IsDoneAbove 0 ranks later done
done_marked batch rank ranks named later done below steps marked = record {
  size = marked.size ∙ steps.size;
  counts = steps.counts;
  each = λ i m n at_m at_n.
      let inside : i < length ranks = omega (arith, slice_get_within done i m at_m, steps.counts) in
      let r : (r : ℕ) × (slice_get ranks i ≡ Some r) = at_place ranks i inside in
      let old : (o : ℕ) × (slice_get named i ≡ Some o) = at_place named i (omega (arith, inside, steps.size)) in
      let value : n ≡ old.0 + one_if (names i batch) = same_Some _ _ (sym at_n ∙ marked.each i old.0 old.1) in
      let same : m ≡ old.0 = steps.above i m old.0 r.0 r.1 (below i r.0 r.1) at_m old.1 in
      let one : one_if (names i batch) ≤ 1 = one_if_le (names i batch) in
      (omega (arith, value, same), omega (arith, value, same, one));
  above = λ i m n r at_r impossible. absurd (omega arith);
}

-- the instance of the task with this rank is computed
pub done_step : (i m n rank : ℕ) (ranks named done : List ℕ) → IsRanking ranks → slice_get ranks i ≡ Some rank → slice_get done i ≡ Some m → slice_get named i ≡ Some n → m < n
    → IsDoneAbove rank ranks named done → IsDoneAbove (rank + 1) ranks named (set done i (m + 1))
done_step i m n rank ranks named done ranking at_rank at_m at_n due steps = record {
  size = steps.size;
  counts = length-set done i (m + 1) ∙ steps.counts;
  each = λ j x y at_x at_y. elim (set_cases done i j (m + 1) x at_x) [
    | inl here ↦
        let value : y ≡ n = same_Some _ _ (sym at_y ∙ ap (λ k. slice_get named k) here.0 ∙ at_n) in
        let close : (m ≤ n) × (n ≤ m + 1) = steps.each i m n at_m at_n in
        (omega (arith, here.1, value), omega (arith, here.1, value, close.1))
    | inr there ↦ steps.each j x y there.1 at_y
  ];
  above = λ j x y r at_r below at_x at_y. elim (set_cases done i j (m + 1) x at_x) [
    | inl here ↦
        let value : y ≡ n = same_Some _ _ (sym at_y ∙ ap (λ k. slice_get named k) here.0 ∙ at_n) in
        let close : (m ≤ n) × (n ≤ m + 1) = steps.each i m n at_m at_n in
        omega (arith, here.1, value, close.1)
    | inr there ↦
        let other : r ≢ rank = λ e. there.0 (ranking.apart j i rank (at_r ∙ ap (λ (q : ℕ). Some q) e) at_rank) in
        steps.above j x y r at_r (omega arith) there.1 at_y
  ];
}

-- the task with this rank has no instance that is not computed
pub done_skip : (i m n rank : ℕ) (ranks named done : List ℕ) → IsRanking ranks → slice_get ranks i ≡ Some rank → slice_get done i ≡ Some m → slice_get named i ≡ Some n → n ≤ m
    → IsDoneAbove rank ranks named done → IsDoneAbove (rank + 1) ranks named done
done_skip i m n rank ranks named done ranking at_rank at_m at_n none steps = record {
  size = steps.size;
  counts = steps.counts;
  each = steps.each;
  above = λ j x y r at_r below at_x at_y. elim (cases_eq j i) [
    | inl here ↦
        let first : x ≡ m = same_Some _ _ (sym at_x ∙ ap (λ k. slice_get done k) here ∙ at_m) in
        let second : y ≡ n = same_Some _ _ (sym at_y ∙ ap (λ k. slice_get named k) here ∙ at_n) in
        let close : (m ≤ n) × (n ≤ m + 1) = steps.each i m n at_m at_n in
        omega (arith, first, second, close.0)
    | inr there ↦
        let other : r ≢ rank = λ e. there (ranking.apart j i rank (at_r ∙ ap (λ (q : ℕ). Some q) e) at_rank) in
        steps.above j x y r at_r (omega arith) at_x at_y
  ];
}
