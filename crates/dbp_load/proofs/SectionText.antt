-- The text of a trace section, row by row.
use Rattle.std.proofs.Common.{◌≡◌, ℕ, ◌+◌, ◌*◌, List, [], ◌∷◌, ◌++◌, sym, ap, ◌∙◌}
use Rattle.std.specs.Prelude.{decimal}
use Rattle.std.proofs.lemmas.List.{append_assoc, append-nil}
use Rattle.trace_rows.specs.Written.{WrittenRow, written_row, written_section}
use Rattle.trace_rows.proofs.SectionText.{section-push}
use Rattle.dbp_load.specs.Bodies.{trace_row}
use Rattle.dbp_load.specs.Listed.{first_items}
use Rattle.dbp_load.proofs.ListedItems.{listed-more}

pub one-row-more : (columns : List (List ℕ)) (row : ℕ → WrittenRow) (n : ℕ) → written_section columns (first_items row (n + 1)) ≡ written_section columns (first_items row n) ++ (written_row (row n) ++ 10 ∷ [])
one-row-more columns row n =
    ap (written_section columns) (listed-more row n) ∙ section-push columns (first_items row n) (row n)

-- the bytes of a row, cell by cell
pub row-bytes : (size r : ℕ) (text : List ℕ) → ((text ++ decimal (50 * size * r)) ++ 44 ∷ []) ++ decimal (37 * r) ≡ text ++ written_row (trace_row size r)
row-bytes size r text =
    append_assoc (text ++ decimal (50 * size * r)) (44 ∷ []) (decimal (37 * r))
    ∙ append_assoc text (decimal (50 * size * r)) (44 ∷ decimal (37 * r))
    ∙ ap (λ cell. text ++ (decimal (50 * size * r) ++ cell)) (sym (append-nil (44 ∷ decimal (37 * r))))
