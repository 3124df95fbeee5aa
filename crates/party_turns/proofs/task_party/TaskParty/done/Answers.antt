use Rattle.std.proofs.Common.{refl}
use Rattle.dbp_rules.specs.PartyRules.{no_word}
use Rattle.dbp_rules.specs.Lookups.{wired_task}
use Rattle.dbp_rules.specs.declared.step.Step.TheVariants.{Done}
use Rattle.party_turns.proofs.Seats.{may_finish}
use Rattle.party_turns.proofs.Turned.{has_finished}
use Rattle.party_turns.proofs.task_party.TaskParty.done.Goals as goal

pub done-requires-clause-allowed : goal.done-requires-clause-allowed
done-requires-clause-allowed c = may_finish (wired_task c.args.words.now.wiring c.args.self.now.seat.task) c.args.self.now.seat.part c.args.self.now.seat.task c.requires.place

pub invariant_of-self : goal.invariant_of-self
invariant_of-self c = record { computed = has_finished c.args.words.now c.args.self.now c.requires.here c.done.new.seat c.done.ensures.step c.requires.place c.done.ensures.part }

pub returns-clause-turn : goal.returns-clause-turn
returns-clause-turn c = record {
  made = Done c.args.self.now.seat.task;
  loaded = no_word;
  own = refl;
  seat = c.done.ensures.step;
  turns = refl;
  allowed = may_finish (wired_task c.args.words.now.wiring c.args.self.now.seat.task) c.args.self.now.seat.part c.args.self.now.seat.task c.requires.place;
  part = c.done.ensures.part;
  answer = refl;
  delayed = λ r is late. refl;
}
