use Rattle.std.proofs.Common.{◌≡◌, ◌<◌}
use Rattle.dbp_load.specs.Bodies.{generated_task, words_before}
use Rattle.drawn_numbers.specs.Draws.{after_draws}
use Rattle.dbp_load.specs.Listed.{first_items}
use Rattle.dbp_load.proofs.tasks.generated_tasks.Given as goal

abbrev pub invariant-loop-number : goal.invariant-loop-number
invariant-loop-number l = record {
  tasks : l.tasks ≡ first_items (λ i. generated_task l.size (after_draws (words_before i) l.seed) i) l.number;
  draws : l.number < l.size → l.draws ≡ after_draws (words_before l.number) l.seed;
}
