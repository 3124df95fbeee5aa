-- Whether the cells of a row are of their columns' forms, cell by cell.
use Rattle.std.proofs.Common.{◌≡◌, ℕ, zero, suc, ◌+◌, ◌<◌, ◌≤◌, List, [], ◌∷◌, true, false, length, drop, get_or, Option, Some, None, refl, ap, ◌∙◌, arith}
use Rattle.std.specs.Prelude.{MatchOption, ◌&&◌, if◌then◌else◌}
use Rattle.std.proofs.lemmas.List.{drop_more, drop_all}
use Rattle.std.proofs.lemmas.Option.{same_Some}
use Rattle.csv.specs.Records.{field_at}
use Rattle.dia_tokens.specs.Values.{digits_value}
use Rattle.trace_rows.specs.Cells.{is_time, cell_fits, cells_fit, time_of}
use Rattle.trace_rows.specs.Rows.{row_fits}
use Rattle.trace_rows.specs.declared.cell.Kind.{Kind}

-- the cells from a place on decide
abbrev pub FitsFrom : List Kind → List (List ℕ) → ℕ → Type 0
FitsFrom kinds row k = cells_fit kinds (drop 1 row) ≡ cells_fit (drop k kinds) (drop (k + 1) row)

-- the cell at a place that is there
cell-there : (row : List (List ℕ)) (k : ℕ) (cell : List ℕ) → field_at row k ≡ Some cell → (k < length row) × (drop k row ≡ cell ∷ drop (k + 1) row)
unfolding field_at
cell-there [] k cell is = cc
cell-there (c ∷ row) zero cell is = (omega arith, ap (λ (d : List ℕ). d ∷ row) (same_Some c cell is))
cell-there (c ∷ row) (suc k) cell is =
    let rest = cell-there row k cell is in
    let next : suc k + 1 ≡ suc (k + 1) = omega arith in
    (omega (arith, rest.0), rw next rest.1)

here-and-rest : (kinds : List Kind) (row : List (List ℕ)) (k : ℕ) (d : Kind) (cell : List ℕ) → FitsFrom kinds row k → k < length kinds → field_at row (k + 1) ≡ Some cell
    → cells_fit kinds (drop 1 row) ≡ cell_fits (get_or kinds k d) cell && cells_fit (drop (k + 1) kinds) (drop (k + 2) row)
here-and-rest kinds row k d cell so_far below is =
    let next : k + 1 + 1 ≡ k + 2 = omega arith in
    so_far ∙ rw (drop_more kinds k d below, (cell-there row (k + 1) cell is).1, next) refl

pub fits-later : (kinds : List Kind) (row : List (List ℕ)) (k : ℕ) (d : Kind) (cell : List ℕ) → FitsFrom kinds row k → k < length kinds → field_at row (k + 1) ≡ Some cell
    → cell_fits (get_or kinds k d) cell ≡ true → FitsFrom kinds row (k + 1)
fits-later kinds row k d cell so_far below is fits =
    let next : k + 1 + 1 ≡ k + 2 = omega arith in
    here-and-rest kinds row k d cell so_far below is ∙ rw (fits, next) refl

bad-cells : (kinds : List Kind) (row : List (List ℕ)) → cells_fit kinds (drop 1 row) ≡ false → row_fits kinds row ≡ false
bad-cells kinds [] bad = refl
bad-cells kinds (time ∷ cells) bad = elim (is_time time) as (λ b. (if b then cells_fit kinds cells else false) ≡ false) [ true ↦ bad | false ↦ refl ]

pub fits-not : (kinds : List Kind) (row : List (List ℕ)) (k : ℕ) (d : Kind) (cell : List ℕ) → FitsFrom kinds row k → k < length kinds → field_at row (k + 1) ≡ Some cell
    → cell_fits (get_or kinds k d) cell ≡ false → row_fits kinds row ≡ false
fits-not kinds row k d cell so_far below is not_fits = bad-cells kinds row (here-and-rest kinds row k d cell so_far below is ∙ rw not_fits refl)

pub all-fit : (kinds : List Kind) (row : List (List ℕ)) (k : ℕ) (cell : List ℕ) (r : Option ℕ) → FitsFrom kinds row k → length kinds ≤ k → length row ≡ length kinds + 1 → field_at row 0 ≡ Some cell
    → MatchOption r (is_time cell ≡ false) (λ time. (is_time cell ≡ true) × (time ≡ digits_value cell))
    → MatchOption r (row_fits kinds row ≡ false) (λ time. (row_fits kinds row ≡ true) × (time ≡ time_of row))
unfolding field_at
all-fit kinds [] k cell r so_far end size first answer = cc
all-fit kinds (c ∷ cells) k cell None so_far end size first answer =
    let same : c ≡ cell = same_Some c cell first in
    rw (same, answer) refl
all-fit kinds (c ∷ cells) k cell (Some time) so_far end size first answer =
    let same : c ≡ cell = same_Some c cell first in
    let fit : cells_fit kinds cells ≡ true = so_far ∙ rw (drop_all k kinds end, drop_all (k + 1) (c ∷ cells) (omega (arith, end, size))) refl in
    (rw (same, answer.0) fit, rw same answer.1)
