use Rattle.std.proofs.Common.{◌≡◌, ℕ, ◌+◌, ◌*◌, ◌≤◌, List, length, slice_get, Some, refl, sym, ap, ◌∙◌, subst, arith}
use Rattle.std.proofs.lemmas.Option.{slice_get-get_or}
use Rattle.dbp_plan.specs.Table.{row_at}
use Rattle.dbp_plan.specs.declared.table.TaskRows.{TaskRows}
use Rattle.run_tests.proofs.word.meant.word_of.Goals as goal

pub row-row-requires : goal.row-row-requires
row-row-requires c =
    let rows : TaskRows = c.in-Some.rows.now in
    let there = c.in-Some.ensures.lookup.3 in
    let at : slice_get c.items.result.now c.args.task ≡ Some rows = slice_get-get_or c.items.result.now c.args.task rows there.0 ∙ ap (λ (x : TaskRows). Some x) (sym (there.1 rows)) in
    let room : (c.from-2.result + 1) * c.from-3.result ≤ length rows.words = let product = c.in-Some-checked_mul.ensures.1 in omega (arith, product, c.if-end-from.false, c.from-4.ensures, c.len.ensures) in (
      row_at rows c.args.number,
      record {
        rows = rows;
        has_rows = subst (λ (l : List TaskRows). slice_get l c.args.task ≡ Some rows) c.items.ensures.value at;
        there = subst (λ (y : ℕ × ℕ). (y.0 + 1) * y.1 ≤ length rows.words) (λ i. (c.from-2.ensures i, c.from-3.ensures i)) room;
        is = refl;
      },
    )
