-- A record without white space is its own trimmed one.
use Rattle.std.proofs.Common.{◌≡◌, ℕ, zero, suc, ◌-◌, false, List, [], ◌∷◌, length, map, take, drop, refl, sym, ap, ◌∙◌, arith}
use Rattle.std.specs.Prelude.{◌==◌, ◌&&◌, nat_le}
use Rattle.std.specs.Char.{is_ascii_whitespace}
use Rattle.std.specs.List.{list_any}
use Rattle.std.proofs.Math.Bool.{and-false}
use Rattle.std.proofs.lemmas.Bool.{or_from, or_parts}
use Rattle.std.proofs.lemmas.Bool.Decides.{nat_tests}
use Rattle.std.proofs.lemmas.List.{take_all}
use Rattle.csv.specs.Records.{Row, cut_from, fields_of, text_of, trim_end, trim_start, trimmed}

-- there is no white space among the bytes
abbrev pub IsBare : List ℕ → Type 0
IsBare bytes = list_any is_ascii_whitespace bytes ≡ false

bare-drop : (n : ℕ) (bytes : List ℕ) → IsBare bytes → IsBare (drop n bytes)
bare-drop zero bytes bare = bare
bare-drop (suc n) [] bare = refl
bare-drop (suc n) (b ∷ bytes) bare = bare-drop n bytes (or_parts (is_ascii_whitespace b) (list_any is_ascii_whitespace bytes) bare).1

bare-take : (n : ℕ) (bytes : List ℕ) → IsBare bytes → IsBare (take n bytes)
bare-take zero bytes bare = refl
bare-take (suc n) [] bare = refl
bare-take (suc n) (b ∷ bytes) bare =
    let both = or_parts (is_ascii_whitespace b) (list_any is_ascii_whitespace bytes) bare in
    or_from (is_ascii_whitespace b) (list_any is_ascii_whitespace (take n bytes)) both.0 (bare-take n bytes both.1)

bare-start : (bytes : List ℕ) → IsBare bytes → trim_start bytes ≡ bytes
unfolding trim_start
bare-start [] bare = refl
bare-start (b ∷ bytes) bare = rw (or_parts (is_ascii_whitespace b) (list_any is_ascii_whitespace bytes) bare).0 refl

bare-end : (bytes : List ℕ) → IsBare bytes → trim_end bytes ≡ length bytes
unfolding trim_end
bare-end [] bare = refl
bare-end (b ∷ bytes) bare =
    let both = or_parts (is_ascii_whitespace b) (list_any is_ascii_whitespace bytes) bare in
    let last : ((trim_end bytes == 0) && is_ascii_whitespace b) ≡ false = ap (λ x. (trim_end bytes == 0) && x) both.0 ∙ and-false (trim_end bytes == 0) in
    rw last (omega (arith, bare-end bytes both.1))

pub bare-field : (bytes : List ℕ) → IsBare bytes → trimmed bytes ≡ bytes
bare-field bytes bare =
    let start = bare-start bytes bare in
    rw start (ap (λ n. take n bytes) (bare-end bytes bare) ∙ take_all (length bytes) bytes (omega arith))

bare-cut : (start : ℕ) (ends bytes : List ℕ) → IsBare bytes → map trimmed (cut_from start ends bytes) ≡ cut_from start ends bytes
unfolding cut_from
bare-cut start [] bytes bare = refl
bare-cut start (end ∷ ends) bytes bare =
    let first = bare-field (take (end - start) (drop start bytes)) (bare-take (end - start) (drop start bytes) (bare-drop start bytes bare)) in
    λ j. first j ∷ bare-cut end ends bytes bare j

-- ---- records without a byte up to the space

high-byte : (b : ℕ) → nat_le b 32 ≡ false → is_ascii_whitespace b ≡ false
high-byte b high = grind (arith, nat_tests)

pub bare-above-space : (bytes : List ℕ) → list_any (λ b. nat_le b 32) bytes ≡ false → IsBare bytes
bare-above-space [] high = refl
bare-above-space (b ∷ bytes) high =
    let both = or_parts (nat_le b 32) (list_any (λ b. nat_le b 32) bytes) high in
    or_from (is_ascii_whitespace b) (list_any is_ascii_whitespace bytes) (high-byte b both.0) (bare-above-space bytes both.1)

pub bare-cells : (row : Row) → list_any is_ascii_whitespace (text_of row) ≡ false → fields_of row ≡ map trimmed (fields_of row)
bare-cells row bare = sym (bare-cut 0 row.ends row.bytes bare)
