use Rattle.std.proofs.Common.{◌≡◌, ℕ, suc, ◌+◌, ◌++◌, ◌∷◌, [], length, ap, sym, ◌∙◌, arith}
use Rattle.dia_read.specs.declared.document.RawTask.{RawTask}
use Rattle.dbp_load.specs.Bodies.{early_count, generated_task, words_before}
use Rattle.drawn_numbers.specs.Draws.{after_draws}
use Rattle.drawn_numbers.proofs.DrawLaws.{draws-add}
use Rattle.dbp_load.proofs.ListedItems.{length-listed, listed-more}
use Rattle.dbp_load.proofs.tasks.generated_tasks.Goals as goal

pub push-requires : goal.push-requires
push-requires c =
    let task : ℕ → RawTask = λ i. generated_task c.args.size (after_draws (words_before i) c.args.seed) i in
    omega (arith, ap length c.loop-number.invariant.tasks, length-listed task c.loop-number.number, c.requires, c.loop-number-test.true)

pub loop-number-preserved : goal.loop-number-preserved
loop-number-preserved c =
    let size = c.args.size in
    let seed = c.args.seed in
    let n = c.loop-number.number in
    let inv = c.loop-number.invariant in
    let task : ℕ → RawTask = λ i. generated_task size (after_draws (words_before i) seed) i in
    let now : c.loop-number.draws ≡ after_draws (words_before n) seed = inv.draws c.loop-number-test.true in
    let made : c.in_ok-generated_task.field-0 ≡ task n = c.in_ok-generated_task.ensures.task ∙ ap (λ (d : ℕ). generated_task size d n) now in
    let next : n + 1 ≡ suc n = omega arith in
    let words : words_before (n + 1) ≡ words_before n + (early_count n + 2) = ap words_before next in
    record {
      tasks = c.in_ok-push.ensures.ok ∙ (λ j. inv.tasks j ++ made j ∷ []) ∙ sym (listed-more task n);
      draws = λ more. c.in_ok-generated_task.ensures.draws more ∙ ap (after_draws (early_count n + 2)) now
          ∙ draws-add (early_count n + 2) (words_before n) seed ∙ ap (λ (k : ℕ). after_draws k seed) (sym words);
    }
