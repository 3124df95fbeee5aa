-- The text of a written section has its lines, and its lines their cells.
use Rattle.std.proofs.Common.{◌≡◌, ℕ, ℤ, pos, negsuc, suc, ◌<◌, ◌≤◌, ◌^◌, All, Bool, true, false, List, [], ◌∷◌, ◌++◌, length, map, get_or, Some, refl, sym, ap, ◌∙◌, arith, rules, inl, inr, w64}
use mir.Val.{SFits}
use Rattle.std.specs.Prelude.{◌==◌, ◌||◌, nat_lt, nat_le, IsTrue, codes}
use Rattle.std.specs.Char.{is_ascii_alphanumeric, is_ascii_whitespace}
use Rattle.std.specs.Fmt.{decimal, signed_decimal}
use Rattle.std.specs.List.{flat_map, list_all, list_any, slice_split}
use Rattle.std.proofs.lemmas.Bool.{and_from, and_parts, or_from}
use Rattle.std.proofs.lemmas.Bool.Decides.{nat_tests}
use Rattle.std.proofs.lemmas.List.{append-nil}
use Rattle.std.proofs.lemmas.List.Elements.{All-cons, All-head, All-tail}
use Rattle.std.proofs.lemmas.List.Folds.{list_all-append}
use Rattle.std.proofs.lemmas.List.Splits.{slice_split_at, slice_split_none}
use Rattle.csv.specs.Records.{trimmed}
use Rattle.dbp_plan.specs.Name.{IsName, is_name_byte}
use Rattle.dia_lines.specs.Lines.{SaysInTrace, a_row, row}
use Rattle.dia_lines.specs.Sections.{IsAlone, is_space, is_trace_byte}
use Rattle.dia_read.specs.Printable.{KeepsItself}
use Rattle.dia_tokens.specs.Kinds.{is_digit}
use Rattle.dia_tokens.specs.Lexes.{Passes}
use Rattle.dia_tokens.specs.Values.{digits_value, number_of}
use Rattle.dia_tokens.proofs.ByteLaws.{digit-bounds}
use Rattle.dia_tokens.proofs.TokenTexts.{digits, some-digit, value}
use Rattle.trace_rows.specs.declared.cell.Kind.{Kind}
use Rattle.trace_rows.specs.declared.cell.Kind.TheVariants.{Value, Mark}
use Rattle.trace_rows.specs.Cells.{are_digits, is_empty, is_number, is_time}
use Rattle.trace_rows.specs.Records.{cells_of, records_of}
use Rattle.trace_rows.specs.Written.{AreCellsOf, CanWrite, IsCellOf, WrittenCell, WrittenRow, cell_text, line_of_cells, nothing, mark, written_cells, written_header, written_row, written_section}
use Rattle.trace_rows.specs.Written as written
use Rattle.trace_rows.proofs.BareCells.{bare-field}
use Rattle.trace_rows.proofs.CellNumbers.{digits-alone, time-there}
use Rattle.trace_rows.proofs.LineRecords.{lines-back}

-- ---- bytes

-- a byte of a cell
abbrev is_cell_byte : ℕ → Bool
is_cell_byte b = is_ascii_alphanumeric b || b == 95 || b == 45

abbrev IsPlain : List ℕ → Type 0
IsPlain cell = list_all is_cell_byte cell ≡ true

abbrev ArePlain : List (List ℕ) → Type 0
ArePlain [] = Unit {0}
ArePlain (cell ∷ cells) = IsPlain cell × ArePlain cells

no-comma-byte : (b : ℕ) → is_cell_byte b ≡ true → (b == 44) ≡ false
no-comma-byte b h = grind (arith, nat_tests)

no-space-byte : (b : ℕ) → is_cell_byte b ≡ true → is_ascii_whitespace b ≡ false
no-space-byte b h = grind (arith, nat_tests)

trace-byte : (b : ℕ) → is_cell_byte b ≡ true → is_trace_byte b ≡ true
trace-byte b h = grind (arith, nat_tests)

digit-byte : (b : ℕ) → is_digit b ≡ true → is_cell_byte b ≡ true
digit-byte b h = let bounds = digit-bounds b h in grind (arith, nat_tests)

name-byte : (b : ℕ) → IsTrue (is_name_byte b) → is_cell_byte b ≡ true
name-byte b h = grind (arith, nat_tests)

plain-digits : (cell : List ℕ) → Passes is_digit cell → IsPlain cell
plain-digits [] p = refl
plain-digits (b ∷ cell) p = and_from (is_cell_byte b) (list_all is_cell_byte cell) (digit-byte b p.0) (plain-digits cell p.1)

plain-name-bytes : (cell : List ℕ) → All (λ b. IsTrue (is_name_byte b)) cell → IsPlain cell
plain-name-bytes [] each = refl
plain-name-bytes (b ∷ cell) each =
    and_from (is_cell_byte b) (list_all is_cell_byte cell) (name-byte b (All-head (λ x. IsTrue (is_name_byte x)) b cell each)) (plain-name-bytes cell (All-tail (λ x. IsTrue (is_name_byte x)) b cell each))

plain-names : (names : List (List ℕ)) → All IsName names → ArePlain names
plain-names [] each = tt
plain-names (name ∷ names) each = (plain-name-bytes name (All-head IsName name names each).each, plain-names names (All-tail IsName name names each))

-- ---- the cells of a line

no-comma : (cell : List ℕ) → IsPlain cell → All (λ b. (b == 44) ≡ false) cell
no-comma [] p = λ k d inside. absurd (omega arith)
no-comma (b ∷ cell) p =
    let both = and_parts (is_cell_byte b) (list_all is_cell_byte cell) p in
    All-cons (λ x. (x == 44) ≡ false) b cell (no-comma-byte b both.0) (no-comma cell both.1)

split-line : (first : List ℕ) (cells : List (List ℕ)) → IsPlain first → ArePlain cells → slice_split (λ b. b == 44) (line_of_cells first cells) ≡ first ∷ cells
split-line first [] p ps = ap (slice_split (λ b. b == 44)) (append-nil first) ∙ slice_split_none (λ b. b == 44) first (no-comma first p)
split-line first (cell ∷ cells) p ps =
    slice_split_at (λ b. b == 44) first 44 (line_of_cells cell cells) (no-comma first p) refl ∙ ap (λ (cs : List (List ℕ)). first ∷ cs) (split-line cell cells ps.0 ps.1)

no-space : (cell : List ℕ) → IsPlain cell → list_any is_ascii_whitespace cell ≡ false
no-space [] p = refl
no-space (b ∷ cell) p =
    let both = and_parts (is_cell_byte b) (list_all is_cell_byte cell) p in
    or_from (is_ascii_whitespace b) (list_any is_ascii_whitespace cell) (no-space-byte b both.0) (no-space cell both.1)

all-trimmed : (cells : List (List ℕ)) → ArePlain cells → map trimmed cells ≡ cells
all-trimmed [] ps = refl
all-trimmed (cell ∷ cells) ps = λ j. bare-field cell (no-space cell ps.0) j ∷ all-trimmed cells ps.1 j

cells-of-line : (first : List ℕ) (cells : List (List ℕ)) → IsPlain first → ArePlain cells → cells_of (line_of_cells first cells) ≡ first ∷ cells
cells-of-line first cells p ps = ap (map trimmed) (split-line first cells p ps) ∙ all-trimmed (first ∷ cells) (p, ps)

-- ---- the line is kept

trace-bytes : (cell : List ℕ) → IsPlain cell → list_all is_trace_byte cell ≡ true
trace-bytes [] p = refl
trace-bytes (b ∷ cell) p =
    let both = and_parts (is_cell_byte b) (list_all is_cell_byte cell) p in
    and_from (is_trace_byte b) (list_all is_trace_byte cell) (trace-byte b both.0) (trace-bytes cell both.1)

line-bytes : (first : List ℕ) (cells : List (List ℕ)) → IsPlain first → ArePlain cells → list_all is_trace_byte (line_of_cells first cells) ≡ true
line-bytes first [] p ps = ap (list_all is_trace_byte) (append-nil first) ∙ trace-bytes first p
line-bytes first (cell ∷ cells) p ps =
    list_all-append is_trace_byte first (44 ∷ line_of_cells cell cells)
    ∙ and_from (list_all is_trace_byte first) (list_all is_trace_byte (44 ∷ line_of_cells cell cells)) (trace-bytes first p) (line-bytes cell cells ps.0 ps.1)

-- a line that begins with another byte than the word isn't the word alone
not-alone : (w b : ℕ) (word line : List ℕ) → is_space b ≡ false → (b == w) ≡ false → IsAlone (w ∷ word) (b ∷ line) → ⊥
not-alone w b word line full other ([], after, before_is, after_is, is) =
    let same : b ≡ w = ap (λ (bs : List ℕ). get_or bs 0 0) is in
    let own : (w == w) ≡ true = search rules in
    cc (own, other, same)
not-alone w b word line full other (s ∷ before, after, before_is, after_is, is) =
    let same : b ≡ s = ap (λ (bs : List ℕ). get_or bs 0 0) is in
    let space = (and_parts (is_space s) (list_all is_space before) before_is).0 in
    cc (full, same, space)

kept-line : (b : ℕ) (line : List ℕ) → is_space b ≡ false → (b == 115) ≡ false → (b == 100) ≡ false → list_all is_trace_byte (b ∷ line) ≡ true → SaysInTrace (b ∷ line) (row (b ∷ line))
kept-line b line full no_script no_done bytes =
    a_row (b ∷ line) bytes (record {
      full = rw full refl;
      inside = λ ends. elim ends [ inl a ↦ not-alone 115 b _ line full no_script a | inr a ↦ not-alone 100 b _ line full no_done a ];
    })

digit-line : (first more : List ℕ) → 0 < length first → Passes is_digit first → list_all is_trace_byte (first ++ more) ≡ true → SaysInTrace (first ++ more) (row (first ++ more))
digit-line [] more some p bytes = absurd (omega arith)
digit-line (b ∷ first) more some p bytes =
    let bounds = digit-bounds b p.0 in
    let full : is_space b ≡ false = grind (arith, nat_tests) in
    let no_script : (b == 115) ≡ false = grind (arith, nat_tests) in
    let no_done : (b == 100) ≡ false = grind (arith, nat_tests) in
    kept-line b (first ++ more) full no_script no_done bytes

-- ---- numbers in cells

all-digits : (cell : List ℕ) → Passes is_digit cell → list_all is_digit cell ≡ true
all-digits [] p = refl
all-digits (b ∷ cell) p = and_from (is_digit b) (list_all is_digit cell) p.0 (all-digits cell p.1)

some-bytes : (cell : List ℕ) → 0 < length cell → is_empty cell ≡ false
some-bytes [] some = absurd (omega arith)
some-bytes (b ∷ cell) some = grind (arith, nat_tests)

decimal-digits : (n : ℕ) → n ≤ 2 ^ 63 → are_digits (decimal n) ≡ true
decimal-digits n h = rw (some-bytes (decimal n) (some-digit n h), all-digits (decimal n) (digits n h)) refl

pub time-cell : (n : ℕ) → n < 2 ^ 63 → is_time (decimal n) ≡ true
time-cell n h = time-there (decimal n) n (decimal-digits n (omega (arith, h))) (sym (value n (omega (arith, h)))) h

pub time-value : (n : ℕ) → n < 2 ^ 63 → digits_value (decimal n) ≡ n
time-value n h = value n (omega (arith, h))

pub number-cell : (v : ℤ) → SFits w64 v → (is_number (signed_decimal v) ≡ true) × (number_of (signed_decimal v) ≡ v)
number-cell (pos n) fits =
    let below : n < 2 ^ 63 = fits.sfits in
    let all = decimal-digits n (omega (arith, below)) in
    let is = value n (omega (arith, below)) in
    let test : nat_lt n (2 ^ 63) ≡ true = grind (arith, nat_tests) in
    (rw (digits-alone (decimal n) all, all, is) test, rw (digits-alone (decimal n) all, is) refl)
number-cell (negsuc n) fits =
    let below : n < 2 ^ 63 = fits.sfits in
    let all = decimal-digits (suc n) (omega (arith, below)) in
    let is = value (suc n) (omega (arith, below)) in
    let test : nat_le (suc n) (2 ^ 63) ≡ true = grind (arith, nat_tests) in
    (rw (all, is) test, rw is refl)

plain-number : (v : ℤ) → SFits w64 v → IsPlain (signed_decimal v)
plain-number (pos n) fits = let below : n < 2 ^ 63 = fits.sfits in plain-digits (decimal n) (digits n (omega (arith, below)))
plain-number (negsuc n) fits = let below : n < 2 ^ 63 = fits.sfits in plain-digits (decimal (suc n)) (digits (suc n) (omega (arith, below)))

plain-cell : (kind : Kind) (cell : WrittenCell) → IsCellOf kind cell → IsPlain (cell_text cell)
plain-cell kind nothing is = refl
plain-cell Value (written.value v) is = plain-number v is
plain-cell Mark mark is = refl
plain-cell Value mark is = absurd is
plain-cell Mark (written.value v) is = absurd is

plain-cells : (kinds : List Kind) (cells : List WrittenCell) → AreCellsOf kinds cells → ArePlain (map cell_text cells)
plain-cells [] [] are = tt
plain-cells (kind ∷ kinds) (cell ∷ cells) are = (plain-cell kind cell are.0, plain-cells kinds cells are.1)
plain-cells [] (cell ∷ cells) are = absurd are
plain-cells (kind ∷ kinds) [] are = absurd are

-- ---- all lines

module _ (kinds : List Kind) where
  abbrev pub IsRow : WrittenRow → Type 0
  IsRow r = (r.time < 2 ^ 63) × AreCellsOf kinds r.cells

  row-kept : (r : WrittenRow) → IsRow r → SaysInTrace (written_row r) (row (written_row r))
  row-kept r (below, are) =
      let d = digits r.time (omega (arith, below)) in
      digit-line (decimal r.time) (flat_map (λ cell. 44 ∷ cell) (map cell_text r.cells)) (some-digit r.time (omega (arith, below))) d
      (line-bytes (decimal r.time) (map cell_text r.cells) (plain-digits (decimal r.time) d) (plain-cells kinds r.cells are))

  row-cells : (r : WrittenRow) → IsRow r → cells_of (written_row r) ≡ written_cells r
  row-cells r (below, are) =
      cells-of-line (decimal r.time) (map cell_text r.cells) (plain-digits (decimal r.time) (digits r.time (omega (arith, below)))) (plain-cells kinds r.cells are)

  rows-kept : (rows : List WrittenRow) → All IsRow rows → All (λ line. SaysInTrace line (row line)) (map written_row rows)
  rows-kept [] each = λ k d inside. absurd (omega arith)
  rows-kept (r ∷ rows) each =
      All-cons (λ line. SaysInTrace line (row line)) (written_row r) (map written_row rows) (row-kept r (All-head IsRow r rows each)) (rows-kept rows (All-tail IsRow r rows each))

  rows-cells : (rows : List WrittenRow) → All IsRow rows → map cells_of (map written_row rows) ≡ map written_cells rows
  rows-cells [] each = refl
  rows-cells (r ∷ rows) each = λ j. row-cells r (All-head IsRow r rows each) j ∷ rows-cells rows (All-tail IsRow r rows each) j

  module _ (columns : List (List ℕ)) (rows : List WrittenRow) (names : All IsName columns) (each : All IsRow rows) where
    header-kept : SaysInTrace (written_header columns) (row (written_header columns))
    header-kept = kept-line 116 _ refl refl refl (line-bytes (codes "time") columns refl (plain-names columns names))

    lines-kept : All (λ line. SaysInTrace line (row line)) (written_header columns ∷ map written_row rows)
    lines-kept = All-cons (λ line. SaysInTrace line (row line)) (written_header columns) (map written_row rows) header-kept (rows-kept rows each)

    pub section-kept : KeepsItself SaysInTrace row (written_section columns rows)
    section-kept = (written_header columns ∷ map written_row rows, refl, lines-kept)

    pub section-records : records_of (Some (written_section columns rows)) ≡ (codes "time" ∷ columns) ∷ map written_cells rows
    section-records =
        ap (map cells_of) (lines-back (written_header columns ∷ map written_row rows) lines-kept)
        ∙ λ j. cells-of-line (codes "time") columns refl (plain-names columns names) j ∷ rows-cells rows each j
