use Rattle.std.proofs.Common.{◌≡◌, ℕ, ◌+◌, ap, ◌∙◌, arith}
use Rattle.dbp_load.specs.Bodies.{early_count}
use Rattle.drawn_numbers.specs.Draws.{after_draws}
use Rattle.drawn_numbers.proofs.DrawLaws.{draws-add}
use Rattle.dbp_load.proofs.tasks.generated_task.Goals as goal

pub returns-clause-draws : goal.returns-clause-draws
returns-clause-draws c more =
    let early = early_count c.args.number in
    let start = c.args.draws.now in
    let words : 1 + (early + 1) ≡ early + 2 = omega arith in
    c.in_ok-parts.ensures.draws more ∙ ap (after_draws (early + 1)) c.draw.ensures.draws
    ∙ draws-add (early + 1) 1 start ∙ ap (λ (n : ℕ). after_draws n start) words
