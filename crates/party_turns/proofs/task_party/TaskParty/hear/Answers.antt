use Rattle.std.proofs.Common.{refl}
use Rattle.dbp_rules.specs.PartyRules.{an_order}
use Rattle.dbp_rules.specs.Lookups.{wired_task}
use Rattle.dbp_rules.specs.declared.step.Step.TheVariants.{Hear}
use Rattle.party_turns.proofs.Seats.{may_hear}
use Rattle.party_turns.proofs.Turned.{has_heard}
use Rattle.party_turns.proofs.task_party.TaskParty.hear.Goals as goal

pub hear-requires-clause-allowed : goal.hear-requires-clause-allowed
hear-requires-clause-allowed c = may_hear (wired_task c.args.words.now.wiring c.args.self.now.seat.task) c.args.self.now.seat.part c.args.self.now.seat.task c.requires.place.0 c.requires.place.1

pub invariant_of-self : goal.invariant_of-self
invariant_of-self c = record { computed = has_heard c.args.words.now c.args.self.now c.requires.here c.hear.new.seat c.hear.ensures.step c.requires.place.0 c.hear.result c.requires.place.1 c.hear.ensures.part }

pub returns-clause-turn : goal.returns-clause-turn
returns-clause-turn c = record {
  made = Hear c.args.self.now.seat.task;
  loaded = an_order c.hear.result;
  own = refl;
  seat = c.hear.ensures.step;
  turns = refl;
  allowed = may_hear (wired_task c.args.words.now.wiring c.args.self.now.seat.task) c.args.self.now.seat.part c.args.self.now.seat.task c.requires.place.0 c.requires.place.1;
  part = c.hear.ensures.part;
  answer = refl;
  delayed = λ r is late. refl;
}
