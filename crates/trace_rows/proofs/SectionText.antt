-- The text of a trace section, row by row.
use Rattle.std.proofs.Common.{◌≡◌, ℕ, List, [], ◌∷◌, ◌++◌, map, refl, sym, ap, ◌∙◌}
use Rattle.std.proofs.lemmas.List.{append_assoc, map-append}
use Rattle.dia_read.specs.Printable.{ended_lines}
use Rattle.trace_rows.specs.Written.{WrittenRow, written_header, written_row, written_section}

ended-push : (lines : List (List ℕ)) (line : List ℕ) → ended_lines (lines ++ line ∷ []) ≡ ended_lines lines ++ (line ++ 10 ∷ [])
ended-push [] line = refl
ended-push (first ∷ lines) line =
    ap (λ rest. first ++ 10 ∷ rest) (ended-push lines line) ∙ sym (append_assoc first (10 ∷ ended_lines lines) (line ++ 10 ∷ []))

pub section-push : (columns : List (List ℕ)) (rows : List WrittenRow) (row : WrittenRow) → written_section columns (rows ++ row ∷ []) ≡ written_section columns rows ++ (written_row row ++ 10 ∷ [])
section-push columns rows row =
    ap (λ lines. ended_lines (written_header columns ∷ lines)) (map-append written_row rows (row ∷ []))
    ∙ ended-push (written_header columns ∷ map written_row rows) (written_row row)
