-- The blocks of the tasks lie one after another.
use Rattle.std.proofs.Common.{◌≡◌, ℕ, zero, suc, ◌+◌, ◌*◌, ◌<◌, ◌≤◌, length, take, sum_by, ap, subst, arith, inl, inr}
use Rattle.std.proofs.lemmas.Bool.{cases_lt}
use Rattle.std.proofs.lemmas.Nat.{mul-add-lt}
use Rattle.std.proofs.lemmas.List.Sums.{sum_by_more, sum_by-take-le}
use Rattle.std.proofs.lemmas.List.{take-take}
use Rattle.dbp_slots.specs.TableWords.{Sizes, no_sizes, task_sizes, slot_size, block_size, block_begin, IsSlot}

-- a task's block ends where the next one begins
pub next_begin : (s : Sizes) (i : ℕ) → i < length s.tasks → block_begin s (i + 1) ≡ block_begin s i + block_size (task_sizes s i)
next_begin s i below = omega (arith, sum_by_more block_size s.tasks i no_sizes below)

-- each block begins at or after those before it
pub begins_rise : (s : Sizes) (i j : ℕ) → i ≤ j → block_begin s i ≤ block_begin s j
begins_rise s i j up =
    omega (arith, sum_by-take-le block_size (take j s.tasks) i, ap (sum_by block_size) (take-take i j s.tasks up))

-- where a slot's words stand in its block
pub slot_inside : (s : Sizes) (i n r : ℕ) → IsSlot s i n → r < slot_size (task_sizes s i) → block_begin s i + n * slot_size (task_sizes s i) + r < block_begin s (i + 1)
slot_inside s i n r slot within =
    let t = task_sizes s i in
    omega (arith, next_begin s i slot.0, mul-add-lt n (slot_size t) r t.slots slot.1 within)

-- an address of the blocks is in one block
pub one_block : (s : Sizes) (i j a b : ℕ) → i < length s.tasks → j < length s.tasks
    → block_begin s i ≤ a → a < block_begin s (i + 1) → block_begin s j ≤ b → b < block_begin s (j + 1) → a ≡ b → i ≡ j
one_block s i j a b i_below j_below from_i to_i from_j to_j same = elim (cases_lt i j) [
  | inl less ↦ absurd (omega (arith, begins_rise s (i + 1) j (omega arith)))
  | inr up ↦ elim (cases_lt j i) [
    | inl less ↦ absurd (omega (arith, begins_rise s (j + 1) i (omega arith)))
    | inr down ↦ omega arith
  ]
]

-- an address of the first blocks is in one of them
pub block_of : (s : Sizes) (count a : ℕ) → block_begin s 0 ≤ a → a < block_begin s count → (i : ℕ) × (i < count) × (block_begin s i ≤ a) × (a < block_begin s (i + 1))
block_of s zero a from to = absurd (omega arith)
block_of s (suc count) a from to =
    elim (cases_lt a (block_begin s count)) [
      | inl before ↦
          let (i, below, at_least, less) = block_of s count a from before in
          (i, omega arith, at_least, less)
      | inr after ↦
          let next : suc count ≡ count + 1 = omega arith in
          (count, omega arith, after, subst (λ n. a < block_begin s n) next to)
    ]
