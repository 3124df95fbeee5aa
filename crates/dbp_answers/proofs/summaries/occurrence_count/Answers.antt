use Rattle.std.proofs.Common.{◌≡◌, ℕ, ◌+◌, ◌<◌, List, length, take, get_or, refl, sym, ap, ◌∙◌, arith}
use Rattle.std.proofs.lemmas.List.{take_all}
use Rattle.std.proofs.lemmas.List.Sums.{sum_by_more, sum_by-take-le}
use Rattle.dbp_plan.specs.Occurrences.{occurrence_count}
use Rattle.dbp_plan.specs.declared.schedule.Batch.{Batch}
use Rattle.dbp_answers.proofs.summaries.occurrence_count.Goals as goal

-- one batch more
more : (batches : List Batch) (i : ℕ) (b : Batch) → i < length batches → b ≡ get_or batches i b → occurrence_count (take (i + 1) batches) ≡ occurrence_count (take i batches) + length b.tasks
more batches i b below is =
    sum_by_more (λ (x : Batch). length x.tasks) batches i b below ∙ ap (λ (x : Batch). occurrence_count (take i batches) + length x.tasks) (sym is)

pub loop-batch-init : goal.loop-batch-init
loop-batch-init c = refl

pub overflow_add-count : goal.overflow_add-count
overflow_add-count c =
    let batches = c.args.plan.now.batches in
    let i = c.loop-batch.batch-index in
    let b = c.batch-item.result in
    let below : i < length batches = rw c.items-batch-items.ensures.value at c.loop-batch-test.true in
    let is : b ≡ get_or batches i b = rw c.items-batch-items.ensures.value at c.batch-item.is in
    omega (
      arith,
      more batches i b below is,
      sum_by-take-le (λ (x : Batch). length x.tasks) batches (i + 1),
      c.args.plan.now.rules.few,
      c.loop-batch.invariant,
      c.from-count.ensures,
      c.len.ensures,
    )

pub loop-batch-preserved : goal.loop-batch-preserved
loop-batch-preserved c =
    let batches = c.args.plan.now.batches in
    let i = c.loop-batch.batch-index in
    let b = c.batch-item.result in
    let below : i < length batches = rw c.items-batch-items.ensures.value at c.loop-batch-test.true in
    let is : b ≡ get_or batches i b = rw c.items-batch-items.ensures.value at c.batch-item.is in
    omega (arith, more batches i b below is, c.loop-batch.invariant, c.from-count.ensures, c.len.ensures)

pub returns : goal.returns
returns c =
    let batches = c.args.plan.now.batches in
    let i = c.loop-batch.batch-index in
    c.loop-batch.invariant ∙ ap occurrence_count (take_all i batches (omega (arith, ap length c.items-batch-items.ensures.value, c.loop-batch-test.false)))
