-- The lines of one batch.
use Rattle.std.proofs.Common.{◌≡◌, ℕ, ℤ, ◌+◌, ◌<◌, false, List, [], ◌∷◌, ◌++◌, length, take, get_or, set, slice_get, Some, arith, refl, sym, ap, ◌∙◌, inl, inr}
use Rattle.std.specs.Prelude.{◌==◌}
use Rattle.std.specs.List.{list_any}
use Rattle.std.proofs.Math.Bool.{or-false, or-true}
use Rattle.std.proofs.lemmas.Bool.{cases_eq}
use Rattle.std.proofs.lemmas.List.{flat_map_more, get_or-set_other, get_or-set_same, length-set, take_more}
use Rattle.dbp_plan.specs.declared.diagram.Task.{Task}
use Rattle.dbp_plan.specs.declared.table.Table.{Table}
use Rattle.dbp_plan.specs.Table.{HasRow, IsRow}
use Rattle.trace_io.specs.Lines.{line_text, numbered_line}
use Rattle.trace_io.specs.Printing.{CanPrint, Counts, numbered_lines}
use Rattle.dbp_plan.proofs.BatchTasks.{not_before}
use Rattle.trace_io.proofs.Due.{named-push, one-name, own-name}

-- one more task is counted
pub counts-more : (before after named : List ℕ) (i : ℕ) → Counts before after named → i < length before → list_any (λ n. n == i) named ≡ false → Counts before (set after i (get_or after i 0 + 1)) (named ++ i ∷ [])
counts-more before after named i c fits new = record {
  places = length-set after i (get_or after i 0 + 1) ∙ c.places;
  each = λ j less. elim (cases_eq j i) [
    | inl same ↦
        rw same (
        get_or-set_same after i (get_or after i 0 + 1) 0 (omega (arith, c.places))
        ∙ rw (named-push named i i, own-name i, or-true (list_any (λ n. n == i) named)) (omega (arith, rw new at (c.each i fits)))
        )
    | inr other ↦
        get_or-set_other after i j (get_or after i 0 + 1) 0 other
        ∙ rw (named-push named i j, one-name i j (λ e. other (sym e)), or-false (list_any (λ n. n == j) named)) (c.each j less)
  ];
}

-- a place before which it isn't named still has its count
pub not-counted : (before after named : List ℕ) (i : ℕ) → Counts before after named → i < length before → list_any (λ n. n == i) named ≡ false → get_or after i 0 ≡ get_or before i 0
not-counted before after named i c fits new = omega (arith, rw new at (c.each i fits))

-- the first k of the batch's tasks have their lines, and are counted
pub record LinesTo (tasks : List Task) (table : Table) (time : ℕ) (before named start text after : List ℕ) (k : ℕ) : Type 0 where
  pub lines : text ≡ start ++ numbered_lines tasks table time before (take k named)
  pub counted : Counts before after (take k named)

-- the next task's count is the one before the batch, so it has a row
pub same-count : (tasks : List Task) (table : Table) (time : ℕ) (before named start text after : List ℕ) (k : ℕ) → CanPrint tasks table before named
    → LinesTo tasks table time before named start text after k → k < length named → get_or after (get_or named k 0) 0 ≡ get_or before (get_or named k 0) 0
same-count tasks table time before named start text after k can l fits =
    not-counted before after (take k named) (get_or named k 0) l.counted (rw can.places (can.there k 0 fits)) (not_before named k can.in_order fits)

pub has-next : (tasks : List Task) (table : Table) (time : ℕ) (before named start text after : List ℕ) (k : ℕ) → CanPrint tasks table before named
    → LinesTo tasks table time before named start text after k → k < length named → HasRow table (get_or named k 0) (get_or after (get_or named k 0) 0 + 1)
has-next tasks table time before named start text after k can l fits = rw (same-count tasks table time before named start text after k can l fits) (can.rows k 0 fits)

pub lines-more : (tasks : List Task) (table : Table) (time : ℕ) (before named start text after more : List ℕ) (k n : ℕ) (task : Task) (row : List ℤ) → CanPrint tasks table before named
    → LinesTo tasks table time before named start text after k → k < length named → slice_get tasks (get_or named k 0) ≡ Some task
    → n ≡ get_or after (get_or named k 0) 0 + 1 → IsRow table (get_or named k 0) n row → more ≡ text ++ line_text time task.name n row
    → LinesTo tasks table time before named start more (set after (get_or named k 0) n) (k + 1)
lines-more tasks table time before named start text after more k n task row can l fits is_task is_number is_row told =
    let i = get_or named k 0 in
    let room : i < length before = rw can.places (can.there k 0 fits) in
    let number : n ≡ get_or before i 0 + 1 = is_number ∙ ap (λ m. m + 1) (same-count tasks table time before named start text after k can l fits) in
    let line : line_text time task.name n row ≡ numbered_line tasks table time i (get_or before i 0 + 1) = rw (sym number, is_task, is_row.has_rows, is_row.is) refl in
    record {
      lines = rw (take_more named k 0 fits, told, l.lines, line) (flat_map_more (λ j. numbered_line tasks table time j (get_or before j 0 + 1)) start (take k named) i);
      counted = rw (take_more named k 0 fits, is_number) (counts-more before after (take k named) i l.counted room (not_before named k can.in_order fits));
    }
