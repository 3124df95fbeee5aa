-- The lines and records of a trace section.
use Rattle.std.proofs.Common.{◌≡◌, ℕ, ◌+◌, ◌==◌, cond, All, List, [], ◌∷◌, ◌++◌, length, Option, Some, None, refl, sym, ap, ◌∙◌, arith, take, drop, ◌-◌}
use Rattle.std.specs.Prelude.{IfSome}
use Rattle.std.proofs.lemmas.List.{length-map, length-drop, take_all}
use Rattle.std.proofs.lemmas.List.Sums.{sum_by-append}
use Rattle.std.proofs.lemmas.List.Elements.{All-head, All-tail}
use Rattle.dia_lines.specs.Lines.{row, SaysInTrace}
use Rattle.dia_lines.specs.Text.{lines_of}
use Rattle.dia_read.proofs.Paired.{feeds, row-has-no-feed}
use Rattle.dia_read.specs.declared.document.Doc.{Doc}
use Rattle.dia_read.specs.Printable.{IsPrintable, HasItemLines, KeepsItself, ended_lines, line_count}
use Rattle.trace_rows.specs.Records.{records_of, cells_of}
use Rattle.dia_lines.proofs.TraceLaws.{all_allowed}
use Rattle.trace_rows.proofs.LineRecords.{lines-back}

is_feed : ℕ → ℕ
is_feed b = cond (b == 10) 1 0

-- a line has no line feed inside
feeds-line : (line after : List ℕ) → SaysInTrace line (row line) → feeds (line ++ 10 ∷ after) ≡ 1 + feeds after
unfolding is_feed
feeds-line line after kept = omega (arith, sum_by-append is_feed line (10 ∷ after), sum_by-append is_feed (10 ∷ []) after, row-has-no-feed line (all_allowed line (row line) kept))

ended-count : (lines : List (List ℕ)) → All (λ line. SaysInTrace line (row line)) lines → feeds (ended_lines lines) ≡ length lines
ended-count [] kept = refl
ended-count (line ∷ lines) kept =
    let first = feeds-line line (ended_lines lines) (All-head (λ l. SaysInTrace l (row l)) line lines kept) in
    omega (arith, first, ended-count lines (All-tail (λ l. SaysInTrace l (row l)) line lines kept))

section-count : (text : List ℕ) → KeepsItself SaysInTrace row text → length (lines_of text) ≡ feeds text
section-count text (lines, is, kept) = rw is (ap (λ (ls : List (List ℕ)). length ls) (lines-back lines kept) ∙ sym (ended-count lines kept))

pub record-count : (trace : Option (List ℕ)) → IfSome trace (KeepsItself SaysInTrace row) → length (records_of trace) ≡ line_count trace
record-count None kept = refl
record-count (Some text) kept = length-map (lines_of text) cells_of ∙ section-count text kept

-- each record has a line
pub record-lines : (doc : Doc) → IsPrintable doc.body → HasItemLines doc → length (records_of doc.body.trace) ≡ length doc.lines.trace
record-lines doc printable items = record-count doc.body.trace printable.trace ∙ sym items.trace

pub few-lines : (doc : Doc) (text : List ℕ) → IsPrintable doc.body → HasItemLines doc → doc.body.trace ≡ Some text → length (records_of (Some text)) ≡ length doc.lines.trace
few-lines doc text printable items is = ap (λ t. length (records_of t)) (sym is) ∙ record-lines doc printable items

-- the lines after the first
pub rest-whole : (lines : List ℕ) → take (length lines - 1) (drop 1 lines) ≡ drop 1 lines
rest-whole lines = take_all (length lines - 1) (drop 1 lines) (omega (arith, length-drop 1 lines))
