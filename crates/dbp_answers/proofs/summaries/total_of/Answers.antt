use Rattle.std.proofs.Common.{◌≡◌, ℕ, ◌+◌, ◌<◌, List, length, take, fold, get_or, refl, sym, ap, ◌∙◌, arith}
use Rattle.std.proofs.lemmas.List.{take_all}
use Rattle.std.proofs.lemmas.List.Sums.{fold_more}
use Rattle.dbp_plan.specs.declared.table.TaskRows.{TaskRows}
use Rattle.dbp_answers.specs.Summaries.{with_rows}
use Rattle.dbp_answers.proofs.summaries.total_of.Goals as goal

-- the rows of one task more
more : (tasks : List TaskRows) (i : ℕ) (rows : TaskRows) → i < length tasks → rows ≡ get_or tasks i rows → with_rows (fold with_rows 0 (take i tasks)) rows ≡ fold with_rows 0 (take (i + 1) tasks)
more tasks i rows below is = ap (λ (x : TaskRows). with_rows (fold with_rows 0 (take i tasks)) x) is ∙ sym (fold_more with_rows 0 tasks i rows below)

pub loop-rows-init : goal.loop-rows-init
loop-rows-init c = refl

pub loop-rows-preserved : goal.loop-rows-preserved
loop-rows-preserved c =
    let tasks = c.args.table.now.tasks in
    let rows = c.rows-item.result in
    let below : c.loop-rows.rows-index < length tasks = rw c.items-rows-items.ensures.value at c.loop-rows-test.true in
    let is : rows ≡ get_or tasks c.loop-rows.rows-index rows = rw c.items-rows-items.ensures.value at c.rows-item.is in
    c.with_rows-total.ensures ∙ ap (λ (t : ℕ). with_rows t rows) c.loop-rows.invariant ∙ more tasks c.loop-rows.rows-index rows below is

pub returns : goal.returns
returns c =
    let tasks = c.args.table.now.tasks in
    c.loop-rows.invariant
    ∙ ap (λ (l : List TaskRows). fold with_rows 0 l) (take_all c.loop-rows.rows-index tasks (omega (arith, ap length c.items-rows-items.ensures.value, c.loop-rows-test.false)))
