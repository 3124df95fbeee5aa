use Rattle.std.proofs.Common.{ℤ, List, length, ap, ◌∙◌, refl, arith}
use Rattle.dbp_rules.specs.PartyRules.{no_word}
use Rattle.dbp_rules.specs.Lookups.{wired_task}
use Rattle.dbp_rules.specs.declared.step.Step.TheVariants.{Put}
use Rattle.party_turns.proofs.Seats.{may_put}
use Rattle.party_turns.proofs.Turned.{has_put, port_inside}
use Rattle.party_turns.proofs.task_party.TaskParty.put.Goals as goal

pub bounds-words-port : goal.bounds-words-port
bounds-words-port c = let row = ap (λ (x : List ℤ). length x) (c.words.ensures.value ∙ c.row.ensures) in omega (arith, row, port_inside c.args.words.now c.args.self.now c.requires.here c.args.port c.requires.place)

pub put-requires-clause-allowed : goal.put-requires-clause-allowed
put-requires-clause-allowed c = may_put (wired_task c.args.words.now.wiring c.args.self.now.seat.task) c.args.self.now.seat.part c.args.self.now.seat.task c.args.port c.requires.place

pub invariant_of-self : goal.invariant_of-self
invariant_of-self c = record { computed = has_put c.args.words.now c.args.self.now c.requires.here c.put.new.seat c.put.ensures.step c.args.port c.requires.place c.put.ensures.part }

pub returns-clause-turn : goal.returns-clause-turn
returns-clause-turn c = record {
  made = Put c.args.self.now.seat.task c.args.port;
  loaded = no_word;
  own = refl;
  seat = c.put.ensures.step;
  turns = refl;
  allowed = may_put (wired_task c.args.words.now.wiring c.args.self.now.seat.task) c.args.self.now.seat.part c.args.self.now.seat.task c.args.port c.requires.place;
  part = c.put.ensures.part;
  answer = refl;
  delayed = λ r is late. refl;
}
