-- Cycles of a relation, of the relation turned round, and of an equal relation.
use Rattle.std.proofs.Common.{◌≡◌, ◌↔◌, ℕ, ◌+◌, ◌-◌, ◌<◌, List, length, get_or, slice_get, Some, sym, ◌∙◌, ap, arith}
use Rattle.std.specs.Prelude.{reverse}
use Rattle.std.proofs.lemmas.List.{get_or-reverse, length-reverse}
use Rattle.std.proofs.lemmas.Option.{slice_get-get_or, slice_get_within}
use Rattle.dbp_plan.specs.Cycles.{IsCycle, IsCycleFrom, LiesOnCycle}
use Rattle.rank_find.specs.FirstCycles.{IsFirstCycle}

turned_at : (xs : List ℕ) (p x : ℕ) → slice_get (reverse xs) p ≡ Some x → (p < length xs) × (slice_get xs (length xs - 1 - p) ≡ Some x)
turned_at xs p x at =
    let inside : p < length xs = omega (arith, slice_get_within (reverse xs) p x at, length-reverse xs) in
    let there : slice_get (reverse xs) p ≡ Some (get_or (reverse xs) p 0) = slice_get-get_or (reverse xs) p 0 (slice_get_within (reverse xs) p x at) in
    let here : slice_get xs (length xs - 1 - p) ≡ Some (get_or xs (length xs - 1 - p) 0) = slice_get-get_or xs (length xs - 1 - p) 0 (omega arith) in
    (inside, here ∙ ap (λ (z : ℕ). Some z) (sym (get_or-reverse xs p 0 inside)) ∙ sym there ∙ at)

-- a cycle read backwards is one of the relation turned round
pub turned_cycle : (R : ℕ → ℕ → Type 0) (cycle : List ℕ) → IsCycle R cycle → IsCycle (λ i j. R j i) (reverse cycle)
turned_cycle R cycle loops =
    let size : length (reverse cycle) ≡ length cycle = length-reverse cycle in
    record {
      some = omega (arith, size, loops.some);
      distinct = λ k m d less below same.
          let far : m < length cycle = omega (arith, size) in
          let apart = loops.distinct (length cycle - 1 - m) (length cycle - 1 - k) d (omega arith) (omega arith) in
          apart (sym (get_or-reverse cycle m d far) ∙ sym same ∙ get_or-reverse cycle k d (omega arith));
      linked = λ p i j at next.
          let here = turned_at cycle p i at in
          let later = turned_at cycle (p + 1) j next in
          let inside = later.0 in
          let after : length cycle - 1 - (p + 1) + 1 ≡ length cycle - 1 - p = omega arith in
          loops.linked (length cycle - 1 - (p + 1)) j i later.1 (ap (λ (z : ℕ). slice_get cycle z) after ∙ here.1);
      closed = λ p last first end at begins.
          let here = turned_at cycle p last at in
          let start = turned_at cycle 0 first begins in
          let front : length cycle - 1 - p ≡ 0 = omega (arith, size) in
          let back : length cycle - 1 - 0 + 1 ≡ length cycle = omega (arith, loops.some) in
          loops.closed (length cycle - 1 - 0) first last back start.1 (ap (λ (z : ℕ). slice_get cycle z) (sym front) ∙ here.1);
    }

cycle_also : (R S : ℕ → ℕ → Type 0) (cycle : List ℕ) → ((i j : ℕ) → R i j → S i j) → IsCycle R cycle → IsCycle S cycle
cycle_also R S cycle also loops = record {
  some = loops.some;
  distinct = loops.distinct;
  linked = λ p i j at next. also i j (loops.linked p i j at next);
  closed = λ p last first end at begins. also last first (loops.closed p last first end at begins);
}

cycle_from_also : (R S : ℕ → ℕ → Type 0) (start : ℕ) (cycle : List ℕ) → ((i j : ℕ) → R i j → S i j) → IsCycleFrom R start cycle → IsCycleFrom S start cycle
cycle_from_also R S start cycle also loops = record { is = cycle_also R S cycle also loops.is; begins = loops.begins }

pub first_cycle_also : (R S : ℕ → ℕ → Type 0) (start : ℕ) (cycle : List ℕ) → ((i j : ℕ) → R i j ↔ S i j) → IsFirstCycle R start cycle → IsFirstCycle S start cycle
first_cycle_also R S start cycle same is =
    let back : (other : List ℕ) (i : ℕ) → IsCycleFrom S i other → IsCycleFrom R i other = λ other i loops. cycle_from_also S R i other (λ a b step. (same a b).1 step) loops in
    record {
      from = record {
        is = cycle_from_also R S start cycle (λ a b step. (same a b).0 step) is.from.is;
        shortest = λ other loops. is.from.shortest other (back other start loops);
        first = λ other loops size before. is.from.first other (back other start loops) size before;
      };
      earliest = λ i less lies. is.earliest i less (lies.0, back lies.0 i lies.1);
    }

pub lies_also : (R S : ℕ → ℕ → Type 0) (i : ℕ) → ((a b : ℕ) → R a b → S a b) → LiesOnCycle R i → LiesOnCycle S i
lies_also R S i also lies = (lies.0, cycle_from_also R S i lies.0 also lies.1)
