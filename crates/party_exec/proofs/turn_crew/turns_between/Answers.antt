use Rattle.std.proofs.Common.{◌≡◌, ℕ, ◌+◌, ◌-◌, ◌<◌, ◌≤◌, length, get_or, set, subst, ◌∙◌, arith}
use Rattle.std.proofs.lemmas.List.{get_or_default}
use Rattle.party_turns.proofs.SameParties.{all_belong}
use Rattle.party_exec.specs.Draws.{MakesDrawnTurns, turn_count}
use Rattle.party_exec.specs.Jobs.{MakesTurns}
use Rattle.party_exec.proofs.DrawnRounds.{between_same, one_draw, one_turned}
use Rattle.party_exec.proofs.turn_crew.turns_between.Goals as goal

pub loop-place-preserved : goal.loop-place-preserved
loop-place-preserved c =
    let w = c.args.words.now in
    let ps = c.args.parties.now in
    let now = c.loop-place.parties in
    let place = c.loop-place.place in
    let before = c.loop-place.invariant in
    let new = c.turns_drawn.new.party in
    let old = get_or now place c.index-parties-place.result in
    let low : c.args.from ≤ place = omega (arith, c.loop-place.auto.place) in
    let inside : place < length now = omega (arith, before.turns.size, c.requires.there, c.loop-place-test.true) in
    let read : old ≡ get_or now place old = get_or_default now place c.index-parties-place.result old inside in
    let made : MakesDrawnTurns w (place - c.args.from) c.args.draws.now old new = subst (λ (n : ℕ). MakesTurns w old (turn_count n) new) before.draws c.turns_drawn.ensures.turns in
    let turns = one_turned w c.args.from place c.args.draws.now ps now old new low inside read before.turns made in
    record {
      here = all_belong w ps (set now place new) turns.size c.requires.here (between_same w c.args.from (place + 1) c.args.draws.now ps (set now place new) turns);
      turns = turns;
      draws = c.turns_drawn.ensures.draws ∙ one_draw c.args.from place c.args.draws.now c.loop-place.draws low before.draws;
    }
