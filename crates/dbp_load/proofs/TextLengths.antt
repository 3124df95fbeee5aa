-- How long the text of a generated document is.
use Rattle.std.proofs.Common.{◌≡◌, ℕ, pos, ◌+◌, ◌*◌, ◌^◌, ◌<◌, ◌≤◌, List, [], ◌∷◌, ◌++◌, All, length, map, ap, sym, subst, ◌∙◌, arith}
use Rattle.std.specs.Fmt.{decimal, signed_decimal}
use Rattle.std.specs.List.{AllByRecursion}
use Rattle.std.proofs.lemmas.Fmt.{length-decimal-le, length_signed_le}
use Rattle.std.proofs.lemmas.List.{length-append}
use Rattle.std.proofs.lemmas.List.Elements.{recursion_from_All}
use Rattle.std.proofs.Math.Nat.{mul-le-mul_left}
use Rattle.dbp_plan.specs.declared.limits.TheConstants.{MAX_TEXT}
use Rattle.dia_read.specs.Canonical.{canonical_text}
use Rattle.dia_read.specs.Printable.{ended_lines}
use Rattle.dia_read.proofs.TextLengths.{text-length}
use Rattle.trace_rows.specs.Written.{written_header, written_row}
use Rattle.dbp_load.specs.Bodies.{generated_body, trace_row, trace_text}
use Rattle.dbp_load.specs.Listed.{first_items}
use Rattle.dbp_load.proofs.GeneratedBodies.{printable}
use Rattle.dbp_load.proofs.GeneratedTraces.{the_columns}
use Rattle.dbp_load.proofs.ListedItems.{all-listed, length-listed, map-listed}

ended-short : (most : ℕ) (lines : List (List ℕ)) → AllByRecursion (λ line. length line ≤ most) lines → length (ended_lines lines) ≤ (most + 1) * length lines
ended-short most [] short = omega arith
ended-short most (line ∷ lines) short = omega (arith, length-append line (10 ∷ ended_lines lines), short.0, ended-short most lines short.1)

row-short : (size r : ℕ) → size ≤ 32 → r < 10 → length (written_row (trace_row size r)) ≤ 60
row-short size r few below =
    let most : size * r ≤ size * 9 = mul-le-mul_left size (omega arith) in
    let time : 50 * size * r < 2 ^ 20 = omega (arith, most) in
    let value = signed_decimal (pos (37 * r)) in
    omega (
      arith,
      length-append (decimal (50 * size * r)) (44 ∷ (value ++ [])),
      length-append value [],
      length-decimal-le 20 (50 * size * r) (omega arith) (omega (arith, time)) (omega (arith, time)),
      length_signed_le 20 (pos (37 * r)) (omega arith) (omega arith),
    )

trace-short : (size : ℕ) → size ≤ 32 → length (trace_text size) ≤ 700
trace-short size few =
    let rows = map written_row (first_items (trace_row size) 10) in
    let count : length rows ≡ 10 = ap length (map-listed written_row (trace_row size) 10) ∙ length-listed (λ r. written_row (trace_row size r)) 10 in
    let each = all-listed (λ r. written_row (trace_row size r)) (λ line. length line ≤ 60) 10 (λ r below. row-short size r few below) in
    let short = recursion_from_All (λ line. length line ≤ 60) rows (subst (All (λ line. length line ≤ 60)) (sym (map-listed written_row (trace_row size) 10)) each) in
    omega (arith, length-append (written_header the_columns) (10 ∷ ended_lines rows), ended-short 60 rows short, count)

-- it can be read again
pub text-fits : (seed size : ℕ) → 1 ≤ size → size ≤ 32 → length (canonical_text (generated_body seed size)) ≤ MAX_TEXT
text-fits seed size some few = omega (arith, text-length (generated_body seed size) (printable seed size some few), trace-short size few)
