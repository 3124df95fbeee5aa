use Rattle.std.proofs.Common.{ℕ, All, sym, subst, arith}
use Rattle.party_turns.specs.Parties.{HasFinished}
use Rattle.party_turns.proofs.Places.{fresh_parties}
use Rattle.party_turns.proofs.SameParties.{all_belong, all_there_belong, places_stay, same_parties}
use Rattle.party_exec.specs.Draws.{HaveDrawnRounds, no_round, one_round}
use Rattle.party_exec.proofs.DrawnRounds.{rounds_same, rounds_size}
use Rattle.party_exec.proofs.turn_crew.run_drawn_rounds.Goals as goal

pub loop-init : goal.loop-init
loop-init g c = record {
  here = all_there_belong c.args.words.now c.args.parties.now (fresh_parties c.args.words.now c.args.parties.now c.requires);
  rounds = subst (λ (n : ℕ). HaveDrawnRounds c.args.words.now c.args.seed c.args.parties.now n c.args.parties.now) (sym c.first_draws-draws.ensures) no_round;
}

pub returns-then-have_finished-clause-rounds : goal.returns-then-have_finished-clause-rounds
returns-then-have_finished-clause-rounds g c = (c.loop.draws, c.loop.invariant.rounds)

pub returns-then-have_finished-clause-same : goal.returns-then-have_finished-clause-same
returns-then-have_finished-clause-same g c =
    let rounds = c.loop.invariant.rounds in
    same_parties c.args.parties.now c.loop.parties (rounds_size c.args.words.now _ c.args.parties.now _ c.loop.parties rounds) (rounds_same c.args.words.now _ c.args.parties.now _ c.loop.parties rounds)

pub returns-then-have_finished-clause-finished : goal.returns-then-have_finished-clause-finished
returns-then-have_finished-clause-finished g c =
    let rounds = c.loop.invariant.rounds in record {
      parties = places_stay c.args.words.now c.args.parties.now c.loop.parties (rounds_size c.args.words.now _ c.args.parties.now _ c.loop.parties rounds)
          (rounds_same c.args.words.now _ c.args.parties.now _ c.loop.parties rounds) (fresh_parties c.args.words.now c.args.parties.now c.requires);
      finished = c.have_finished.ensures.0 c.if-have_finished.true;
    }

pub drawn_round-requires-clause-some : goal.drawn_round-requires-clause-some
drawn_round-requires-clause-some g c = omega (arith, rounds_size c.args.words.now _ c.args.parties.now _ c.loop.parties c.loop.invariant.rounds, c.requires.size)

pub loop-preserved : goal.loop-preserved
loop-preserved g c =
    let w = c.args.words.now in
    let ps = c.args.parties.now in
    let more : All (HasFinished w) c.loop.parties → ⊥ = λ all. let no = c.if-have_finished.false in let yes = c.have_finished.ensures.1 all in absurd (cc (no, yes)) in
    let rounds = one_round c.loop.draws c.loop.parties c.drawn_round.new.parties c.loop.invariant.rounds more c.drawn_round.ensures.round in
    let here = all_there_belong w ps (fresh_parties w ps c.requires) in record {
      here = all_belong w ps c.drawn_round.new.parties (rounds_size w _ ps _ c.drawn_round.new.parties rounds) here (rounds_same w _ ps _ c.drawn_round.new.parties rounds);
      rounds = subst (λ (n : ℕ). HaveDrawnRounds w c.args.seed ps n c.drawn_round.new.parties) (sym c.drawn_round.ensures.draws) rounds;
    }
