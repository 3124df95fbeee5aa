-- How often the tasks of a generated document occur.
use Rattle.std.proofs.Common.{◌≡◌, ℕ, ◌-◌, ◌*◌, ◌/◌, ◌<◌, ◌≤◌, false, List, inl, inr, arith}
use Rattle.std.specs.Prelude.{nat_le}
use Rattle.std.proofs.lemmas.Bool.{cases_lt, lt-leb}
use Rattle.std.proofs.Math.Nat.{le-div_iff_mul-le}
use Rattle.dbp_plan.specs.declared.diagram.Clock.TheVariants.{Every}
use Rattle.trace_io.specs.Counts.{count_of}

-- a task occurs at most 500 times
pub few-times : (size period : ℕ) (events : List (List ℕ)) → 1 ≤ size → size ≤ period → count_of (500 * size) events (Every period 0) ≤ 500
few-times size period events some slow =
    let until = 500 * size in
    let q = (until - 0 - 1) / period in
    let below : q < 500 = elim (cases_lt q 500) [
      | inl less ↦ less
      | inr many ↦
          let all : 500 * period ≤ until - 0 - 1 = (le-div_iff_mul-le {k = period} {x = 500} {y = until - 0 - 1} (omega arith)).0 many in
          absurd (omega (arith, all))
    ] in
    let later : nat_le until 0 ≡ false = lt-leb until 0 (omega arith) in
    rw later (omega (arith, below))
