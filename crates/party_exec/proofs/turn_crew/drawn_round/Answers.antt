use Rattle.std.proofs.Common.{◌-◌, ℕ, length, ap, refl, ◌∙◌, subst}
use Rattle.drawn_numbers.specs.Draws.{after_draws}
use Rattle.party_turns.proofs.SameParties.{all_belong}
use Rattle.party_exec.specs.Draws.{MakeTurnsBetween}
use Rattle.party_exec.proofs.DrawnRounds.{between_same, drawn_round_is, round_draws}
use Rattle.party_exec.proofs.turn_crew.drawn_round.Goals as goal

pub turns_between-requires-2-clause-here : goal.turns_between-requires-2-clause-here
turns_between-requires-2-clause-here c =
    let turns = c.turns_between.ensures.turns in
    all_belong c.args.words.now c.args.parties.now c.turns_between.new.parties turns.size c.requires.here (between_same c.args.words.now _ _ _ c.args.parties.now c.turns_between.new.parties turns)

pub returns-clause-round : goal.returns-clause-round
returns-clause-round c =
    let w = c.args.words.now in
    let count = length c.args.parties.now in
    let first = c.draw_place-first.result in
    let one = c.draw_place-first.ensures.draws in
    let head = subst (λ (n : ℕ). MakeTurnsBetween w first count n c.args.parties.now c.turns_between.new.parties) one c.turns_between.ensures.turns in
    let words = c.turns_between.ensures.draws ∙ ap (λ (n : ℕ). after_draws (count - first) n) one in
    let rest = subst (λ (n : ℕ). MakeTurnsBetween w 0 first n c.turns_between.new.parties c.turns_between-2.new.parties) words c.turns_between-2.ensures.turns in
    drawn_round_is w c.args.draws.now count first c.args.parties.now c.turns_between.new.parties c.turns_between-2.new.parties head rest refl c.draw_place-first.ensures.place c.draw_place-first.ensures.below

pub returns-clause-draws : goal.returns-clause-draws
returns-clause-draws c =
    let count = length c.args.parties.now in
    let first = c.draw_place-first.result in
    c.turns_between-2.ensures.draws
    ∙ ap (λ (n : ℕ). after_draws (first - 0) n) (c.turns_between.ensures.draws ∙ ap (λ (n : ℕ). after_draws (count - first) n) c.draw_place-first.ensures.draws)
    ∙ round_draws count first c.args.draws.now c.draw_place-first.ensures.below
