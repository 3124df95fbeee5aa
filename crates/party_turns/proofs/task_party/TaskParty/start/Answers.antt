use Rattle.std.proofs.Common.{refl}
use Rattle.dbp_rules.specs.PartyRules.{a_number, is_opened_by}
use Rattle.dbp_rules.specs.Lookups.{wired_task}
use Rattle.dbp_rules.specs.declared.step.Step.TheVariants.{Start}
use Rattle.party_turns.proofs.Seats.{may_start}
use Rattle.party_turns.proofs.Turned.{has_started, not_started, started}
use Rattle.party_turns.proofs.task_party.TaskParty.start.Goals as goal

pub start-requires-clause-allowed : goal.start-requires-clause-allowed
start-requires-clause-allowed c = may_start (wired_task c.args.words.now.wiring c.args.self.now.seat.task) c.args.self.now.seat.part c.args.self.now.seat.task c.requires.place

pub invariant_of-self : goal.invariant_of-self
invariant_of-self c = record { computed = has_started c.args.words.now c.args.self.now c.requires.here c.start.new.seat c.start.ensures.step c.start.ensures.part.0 c.requires.place c.start.ensures.part.1 }

pub returns-in-Started-clause-turn : goal.returns-in-Started-clause-turn
returns-in-Started-clause-turn c = record {
  made = Start c.args.self.now.seat.task;
  loaded = a_number c.start.ensures.part.0;
  own = refl;
  seat = c.start.ensures.step;
  turns = refl;
  allowed = may_start (wired_task c.args.words.now.wiring c.args.self.now.seat.task) c.args.self.now.seat.part c.args.self.now.seat.task c.requires.place;
  part = c.start.ensures.part.1;
  answer = started (is_opened_by c.args.self.now.seat.part c.start.ensures.part.0) c.start.ensures.part.0 c.start.result c.start.ensures.part.2 c.in-Started.is;
  delayed = λ r is late. refl;
}

pub returns-in-Closed-clause-turn : goal.returns-in-Closed-clause-turn
returns-in-Closed-clause-turn c = record {
  made = Start c.args.self.now.seat.task;
  loaded = a_number c.start.ensures.part.0;
  own = refl;
  seat = c.start.ensures.step;
  turns = refl;
  allowed = may_start (wired_task c.args.words.now.wiring c.args.self.now.seat.task) c.args.self.now.seat.part c.args.self.now.seat.task c.requires.place;
  part = c.start.ensures.part.1;
  answer = not_started (is_opened_by c.args.self.now.seat.part c.start.ensures.part.0) c.start.ensures.part.0 _ c.start.result c.start.ensures.part.2 c.in-Closed.is;
  delayed = λ r is late. absurd (cc (is));
}
