use Rattle.std.proofs.Common.{◌≡◌, ◌-◌, All}
use Rattle.drawn_numbers.specs.Draws.{after_draws}
use Rattle.party_turns.specs.Parties.{Belongs}
use Rattle.party_exec.specs.Draws.{MakeTurnsBetween}
use Rattle.party_exec.proofs.turn_crew.turns_between.Given as goal

abbrev pub invariant-loop-place : goal.invariant-loop-place
invariant-loop-place l = record {
  here : All (Belongs l.words) l.parties;
  turns : MakeTurnsBetween l.words l.from l.place l.initial.draws l.initial.parties l.parties;
  draws : l.draws ≡ after_draws (l.place - l.from) l.initial.draws;
}
