-- The trace of a generated document.
use Rattle.std.proofs.Common.{ℕ, pos, ◌*◌, ◌<◌, ◌≤◌, List, [], ◌∷◌, map, refl, sym, subst, arith}
use Rattle.std.specs.Prelude.{codes}
use Rattle.std.specs.List.Sorted.{IsStrictlyIncreasing}
use Rattle.std.proofs.Math.Nat.{mul-le-mul_left}
use Rattle.dbp_plan.specs.Name.{IsName}
use Rattle.dbp_plan.specs.declared.diagram.Input.{Input}
use Rattle.trace_rows.specs.Headers.{kind_of_column}
use Rattle.trace_rows.specs.Written.{CanWrite, AreCellsOf, WrittenRow}
use Rattle.dbp_load.specs.Bodies.{trace_row}
use Rattle.dbp_load.specs.Listed.{first_items}
use Rattle.dia_check.proofs.PlaceLaws.{only-one}
use Rattle.dbp_load.proofs.ListedItems.{all-listed, length-listed, map-listed, rising-listed}
use Rattle.dbp_load.proofs.NameTexts.{g-name}

abbrev pub the_inputs : List Input
the_inputs = record { name = codes "g"; first = pos 1 } ∷ []

abbrev pub the_columns : List (List ℕ)
the_columns = codes "g" ∷ []

before-end : (size r : ℕ) → 1 ≤ size → r < 10 → 50 * size * r < 500 * size
before-end size r some below = let most : size * r ≤ size * 9 = mul-le-mul_left size (omega arith) in omega (arith, most)

pub can-write : (size n : ℕ) → 1 ≤ size → size ≤ 32 → n ≤ 10 → CanWrite (500 * size) the_inputs [] the_columns (first_items (trace_row size) n)
can-write size n some few rows = record {
  last = omega arith;
  names = only-one IsName (codes "g") g-name;
  declared = refl;
  distinct = refl;
  apart = λ k d below. absurd (omega arith);
  few = omega (arith, length-listed (trace_row size) n);
  rising = subst IsStrictlyIncreasing (sym (map-listed (λ (row : WrittenRow). row.time) (trace_row size) n)) (rising-listed (λ r. 50 * size * r) n (λ r inside. omega arith));
  ends = all-listed (trace_row size) (λ (row : WrittenRow). row.time < 500 * size) n (λ r below. before-end size r some (omega arith));
  cells = all-listed (trace_row size) (λ (row : WrittenRow). AreCellsOf (map (kind_of_column the_inputs) the_columns) row.cells) n (λ r below. (record { sfits = omega arith }, tt));
}
