-- The lines of a scenario's trace are those of the section in plain form.
use Rattle.std.proofs.Common.{◌≡◌, ℕ, List, [], ◌∷◌, ◌++◌, map, refl, sym, ap, ◌∙◌}
use Rattle.std.specs.Prelude.{codes, decimal, slice_index_or}
use Rattle.std.specs.List.{flat_map}
use Rattle.std.proofs.lemmas.List.{append_assoc}
use Rattle.trace_rows.specs.Written.{WrittenRow, cell_text, written_row, written_section}
use Rattle.trace_rows.proofs.SectionText.{section-push}
use Rattle.slot_need.specs.declared.column.Column.{Column}
use Rattle.slot_need.specs.Bodies.{cell_at, column_names, row_at}
use Rattle.slot_need.specs.Cells.{header_bytes, name_bytes, row_bytes}

fused : {A : Type 0} (f : A → List ℕ) (xs : List A) → flat_map (λ cell. 44 ∷ cell) (map f xs) ≡ flat_map (λ x. 44 ∷ f x) xs
fused f [] = refl
fused f (x ∷ xs) = ap (λ rest. 44 ∷ (f x ++ rest)) (fused f xs)

fused_twice : {A B : Type 0} (g : B → List ℕ) (f : A → B) (xs : List A) → flat_map (λ cell. 44 ∷ cell) (map g (map f xs)) ≡ flat_map (λ x. 44 ∷ g (f x)) xs
fused_twice g f [] = refl
fused_twice g f (x ∷ xs) = ap (λ rest. 44 ∷ (g (f x) ++ rest)) (fused_twice g f xs)

pub header-lines : (events : List (List ℕ)) (columns : List Column) → header_bytes events columns ≡ written_section (column_names events columns) []
header-lines events columns =
    sym (append_assoc (codes "time") (flat_map (name_bytes events) columns) (10 ∷ []))
    ∙ ap (λ cells. (codes "time" ++ cells) ++ 10 ∷ []) (sym (fused (λ (c : Column). slice_index_or events c.event []) columns))

pub row-line : (columns : List Column) (time k : ℕ) → row_bytes columns time k ≡ written_row (row_at columns time k) ++ 10 ∷ []
row-line columns time k = ap (λ cells. (decimal time ++ cells) ++ 10 ∷ []) (sym (fused_twice cell_text (λ (c : Column). cell_at k c.firing) columns))

-- ---- the section so far, line by line

pub first-line : (old text : List ℕ) (events es : List (List ℕ)) (columns cs : List Column) → text ≡ old ++ header_bytes events columns → old ≡ [] → events ≡ es → columns ≡ cs → text ≡ written_section (column_names es cs) []
first-line old text events es columns cs is none same_events same_columns =
    is ∙ ap (λ o. o ++ header_bytes events columns) none ∙ ap (λ e. header_bytes e columns) same_events ∙ ap (header_bytes es) same_columns ∙ header-lines es cs

pub next-line : (names : List (List ℕ)) (rows : List WrittenRow) (text more : List ℕ) (columns cs : List Column) (time t k : ℕ) → more ≡ text ++ row_bytes columns time k → text ≡ written_section names rows → columns ≡ cs → time ≡ t
    → more ≡ written_section names (rows ++ row_at cs t k ∷ [])
next-line names rows text more columns cs time t k is so_far same_columns same_time =
    is
    ∙ ap (λ o. o ++ row_bytes columns time k) so_far
    ∙ ap (λ (xs : List Column). written_section names rows ++ row_bytes xs time k) same_columns
    ∙ ap (λ u. written_section names rows ++ row_bytes cs u k) same_time
    ∙ ap (λ line. written_section names rows ++ line) (row-line cs t k)
    ∙ sym (section-push names rows (row_at cs t k))
