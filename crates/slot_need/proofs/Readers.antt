-- The readers below a task, and how often it fires.
use Rattle.std.proofs.Common.{ℕ, ◌+◌, ◌*◌, ◌≤◌, length, arith}
use Rattle.std.specs.List.{range_with_len}
use Rattle.std.proofs.Math.Nat.{mul-le-mul_left, mul-le-mul_right}
use Rattle.std.proofs.lemmas.List.Sums.{count_by-le-length, length-filter}
use Rattle.std.proofs.lemmas.List.FromFn.{length-range_with_len}
use Rattle.dbp_plan.specs.declared.diagram.Diagram.{Diagram}
use Rattle.dbp_plan.specs.Closed.{IsClosed}
use Rattle.dbp_slots.proofs.Links.{delay_short}
use Rattle.slot_need.specs.Scenarios.{firing_count, group_size, is_lower_reader, lower_readers}

pub few-readers : (d : Diagram) (w : ℕ) → IsClosed d → length (lower_readers d w) ≤ 32
few-readers d w closed =
    let all = range_with_len 0 (length d.tasks) in
    omega (arith, length-filter (is_lower_reader d w) all, count_by-le-length (is_lower_reader d w) all, length-range_with_len 0 (length d.tasks), closed.tasks)

pub few-firings : (d : Diagram) (w : ℕ) → IsClosed d → firing_count d w ≤ 297
few-firings d w closed =
    let readers = length (lower_readers d w) in
    let most : (readers + 1) * group_size d w ≤ (readers + 1) * 9 = mul-le-mul_left (readers + 1) (omega (arith, delay_short d w closed)) in
    omega (arith, most, few-readers d w closed)

pub some-firings : (d : Diagram) (w : ℕ) → 1 ≤ firing_count d w
some-firings d w =
    let readers = length (lower_readers d w) in
    let least : 1 * group_size d w ≤ (readers + 1) * group_size d w = mul-le-mul_right (group_size d w) (omega arith) in
    omega (arith, least)
