-- What the rows hold in columns, row by row and column by column.
use Rattle.std.proofs.Common.{◌≡◌, ◌≢◌, ℕ, suc, ◌+◌, ◌<◌, All, List, [], ◌∷◌, ◌++◌, true, false, length, map, take, drop, get_or, set, get_or-set_same, get_or-set_other, below_more, Option, Some, None, refl, sym, ap, ◌∙◌, inl, inr, append_assoc, arith}
use Rattle.std.specs.Prelude.{OnSome, not}
use Rattle.std.specs.Str.{bytes_eq}
use Rattle.std.proofs.lemmas.Bool.{cases_lt, not-false}
use Rattle.std.proofs.lemmas.List.{append-nil, get_or-drop, get_or-map, get_or_past, length-drop, length-map, length-take-le, take_more}
use Rattle.std.proofs.lemmas.List.Elements.{All-head, All-tail}
use Rattle.std.proofs.lemmas.List.Folds.{list_any_at}
use Rattle.std.proofs.lemmas.List.Sums.{prefix_len_stops}
use Rattle.std.proofs.lemmas.Slice.Eq.{bytes_eq-Decides}
use Rattle.csv.specs.Records.{field_at}
use Rattle.csv.proofs.RecordFacts.{field-get}
use Rattle.dbp_plan.specs.declared.diagram.Input.{Input}
use Rattle.dbp_plan.specs.NameLists.{index_of, is_among}
use Rattle.dbp_plan.proofs.NameLaws.{same-bytes}
use Rattle.trace_rows.specs.declared.cell.Kind.{Kind}
use Rattle.trace_rows.specs.declared.cell.Kind.TheVariants.{Value}
use Rattle.trace_rows.specs.declared.cell.CellContent.{CellContent}
use Rattle.trace_rows.specs.Cells.{cell_under, is_one, value_in, time_of}
use Rattle.trace_rows.specs.Columns.{HasSaid, cell_at, nothing, content_in, said_samples, value_under}
use Rattle.trace_rows.specs.Headers.{input_names, kind_of_column}
use Rattle.trace_rows.specs.Values.{row_samples, sample_of}
use Rattle.trace_rows.proofs.HeaderColumns.{among_inputs}

-- ---- what one row says

pub cell-of-column : (row : List (List ℕ)) (column : ℕ) (cell : List ℕ) → field_at row (column + 1) ≡ Some cell → cell ≡ cell_at column row
cell-of-column row column cell is =
    let same : column + 1 ≡ 1 + column = omega arith in
    sym (field-get row (column + 1) cell is) ∙ ap (λ j. get_or row j []) same ∙ sym (get_or-drop 1 row column [])

-- the columns before this one have what their cells say
abbrev pub HasSaidBefore : List Kind → List (List ℕ) → List CellContent → ℕ → Type 0
HasSaidBefore kinds row said end = (k : ℕ) → k < end → get_or said k nothing ≡ content_in (get_or kinds k Value) (cell_at k row)

pub one-more-said : (kinds : List Kind) (row : List (List ℕ)) (said : List CellContent) (column : ℕ) (one : CellContent) → column < length said → HasSaidBefore kinds row said column
    → one ≡ content_in (get_or kinds column Value) (cell_at column row) → HasSaidBefore kinds row (set said column one) (column + 1)
one-more-said kinds row said column one below before is =
    below_more _ _
    (λ k less. let other : k ≢ column = omega arith in get_or-set_other said column k one nothing other ∙ before k less)
    (get_or-set_same said column one nothing below ∙ is)

pub on-some : {X : Type 0} (o : Option X) (P : Type 0) → P → OnSome o P
on-some None P p = tt
on-some (Some x) P p = p

-- a column that is found by a name has the name
pub name-found : (columns : List (List ℕ)) (name : List ℕ) → index_of columns name < length columns → get_or columns (index_of columns name) [] ≡ name
name-found columns name there =
    let stops : not (bytes_eq (get_or columns (index_of columns name) []) name) ≡ false = prefix_len_stops (λ m. not (bytes_eq m name)) columns [] there in
    (bytes_eq-Decides (get_or columns (index_of columns name) []) name).0 (not-false _ stops)

-- the column of an input holds values
pub kind-of-input : (inputs : List Input) (columns : List (List ℕ)) (name : List ℕ) → is_among (input_names inputs) name ≡ true
    → get_or (map (kind_of_column inputs) columns) (index_of columns name) Value ≡ Value
kind-of-input inputs columns name known =
    let k = index_of columns name in
    elim (cases_lt k (length columns)) [
      | inl there ↦ get_or-map (kind_of_column inputs) columns k [] Value there ∙ ap (kind_of_column inputs) (name-found columns name there) ∙ rw known refl
      | inr past ↦ get_or_past (map (kind_of_column inputs) columns) k Value (omega (arith, past, length-map columns (kind_of_column inputs)))
    ]

-- at the column of an input stands its value, and none if it has no column
value-of-input : (inputs : List Input) (columns row : List (List ℕ)) (said : List CellContent) (name : List ℕ) → is_among (input_names inputs) name ≡ true
    → HasSaid (map (kind_of_column inputs) columns) row said → length row ≡ length columns + 1 → length said ≡ length columns
    → (get_or said (index_of columns name) nothing).value ≡ value_in (cell_under columns name row)
value-of-input inputs columns row said name known has whole size =
    let k = index_of columns name in
    elim (cases_lt k (length columns)) [
      | inl there ↦
          ap (λ (s : CellContent). s.value) (has k (omega (arith, there, length-map columns (kind_of_column inputs)))) ∙ ap (λ kind. value_under kind (cell_at k row)) (kind-of-input inputs columns name known)
      | inr past ↦
          let none : cell_at k row ≡ [] = get_or_past (drop 1 row) k [] (omega (arith, past, whole, length-drop 1 row)) in
          ap (λ (s : CellContent). s.value) (get_or_past said k nothing (omega (arith, past, size))) ∙ sym (ap value_in none)
    ]

-- at the column of an event stands whether it occurs
pub mark-of-event : (inputs : List Input) (columns row : List (List ℕ)) (said : List CellContent) (name : List ℕ)
    → HasSaid (map (kind_of_column inputs) columns) row said → length row ≡ length columns + 1 → length said ≡ length columns
    → (get_or said (index_of columns name) nothing).is_one ≡ is_one (cell_under columns name row)
mark-of-event inputs columns row said name has whole size =
    let k = index_of columns name in
    elim (cases_lt k (length columns)) [
      | inl there ↦ ap (λ (s : CellContent). s.is_one) (has k (omega (arith, there, length-map columns (kind_of_column inputs))))
      | inr past ↦
          let none : cell_at k row ≡ [] = get_or_past (drop 1 row) k [] (omega (arith, past, whole, length-drop 1 row)) in
          ap (λ (s : CellContent). s.is_one) (get_or_past said k nothing (omega (arith, past, size))) ∙ sym (ap is_one none)
    ]

abbrev pub IsValueOfInput : List (List ℕ) → List (List ℕ) → List CellContent → Input → Type 0
IsValueOfInput columns row said input = (get_or said (index_of columns input.name) nothing).value ≡ value_in (cell_under columns input.name row)

pub known-input : (inputs : List Input) → All (λ input. is_among (input_names inputs) input.name ≡ true) inputs
known-input inputs k d below =
    let name = (get_or inputs k d).name in
    among_inputs inputs name ∙ list_any_at (λ (i : Input). bytes_eq i.name name) inputs k d below (same-bytes name)

values-of-inputs : (inputs : List Input) (columns row : List (List ℕ)) (said : List CellContent)
    → HasSaid (map (kind_of_column inputs) columns) row said → length row ≡ length columns + 1 → length said ≡ length columns
    → All (IsValueOfInput columns row said) inputs
values-of-inputs inputs columns row said has whole size k d below =
    value-of-input inputs columns row said (get_or inputs k d).name (known-input inputs k d below) has whole size

-- ---- samples

columns-append : (time number : ℕ) (columns more : List ℕ) (said : List CellContent)
    → said_samples time number (columns ++ more) said ≡ said_samples time number columns said ++ said_samples time (number + length columns) more said
columns-append time number [] more said = let same : number ≡ number + 0 = omega arith in ap (λ n. said_samples time n more said) same
columns-append time number (column ∷ columns) more said =
    let same : number + 1 + length columns ≡ number + suc (length columns) = omega arith in
    let one = sample_of time number ((get_or said column nothing).value) in
    ap (λ rest. one ++ rest) (columns-append time (number + 1) columns more said)
    ∙ sym (append_assoc one (said_samples time (number + 1) columns said) (said_samples time (number + 1 + length columns) more said))
    ∙ ap (λ n. (one ++ said_samples time (number + 1) columns said) ++ said_samples time n more said) same

pub sample-next : (time : ℕ) (columns : List ℕ) (k d : ℕ) (said : List CellContent) → k < length columns
    → said_samples time 0 (take (k + 1) columns) said ≡ said_samples time 0 (take k columns) said ++ sample_of time k ((get_or said (get_or columns k d) nothing).value)
sample-next time columns k d said below =
    let size : 0 + length (take k columns) ≡ k = omega (arith, length-take-le k columns (omega (arith, below))) in
    let column = get_or columns k d in
    ap (λ cs. said_samples time 0 cs said) (take_more columns k d below) ∙ columns-append time 0 (take k columns) (column ∷ []) said
    ∙ ap (λ n. said_samples time 0 (take k columns) said ++ said_samples time n (column ∷ []) said) size
    ∙ ap (λ one. said_samples time 0 (take k columns) said ++ one) (append-nil (sample_of time k ((get_or said column nothing).value)))

samples-of-row : (columns : List (List ℕ)) (number : ℕ) (inputs : List Input) (row : List (List ℕ)) (said : List CellContent) → All (IsValueOfInput columns row said) inputs
    → said_samples (time_of row) number (map (λ input. index_of columns input.name) inputs) said ≡ row_samples columns number inputs row
samples-of-row columns number [] row said each = refl
samples-of-row columns number (input ∷ inputs) row said each =
    let here : (get_or said (index_of columns input.name) nothing).value ≡ value_in (cell_under columns input.name row) = All-head (IsValueOfInput columns row said) input inputs each in
    let rest = samples-of-row columns (number + 1) inputs row said (All-tail (IsValueOfInput columns row said) input inputs each) in
    λ j. sample_of (time_of row) number (here j) ++ rest j

-- what the cells of a row say is what the row gives
pub row-samples : (inputs : List Input) (columns row : List (List ℕ)) (said : List CellContent)
    → HasSaid (map (kind_of_column inputs) columns) row said → length row ≡ length columns + 1 → length said ≡ length columns
    → said_samples (time_of row) 0 (map (λ input. index_of columns input.name) inputs) said ≡ row_samples columns 0 inputs row
row-samples inputs columns row said has whole size =
    samples-of-row columns 0 inputs row said (values-of-inputs inputs columns row said has whole size)
