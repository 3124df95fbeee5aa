use Rattle.std.proofs.Common.{refl}
use Rattle.dbp_rules.specs.PartyRules.{no_word}
use Rattle.dbp_rules.specs.Lookups.{wired_task}
use Rattle.dbp_rules.specs.declared.step.Step.TheVariants.{Shut}
use Rattle.party_turns.proofs.Seats.{may_shut}
use Rattle.party_turns.proofs.Turned.{has_shut}
use Rattle.party_turns.proofs.task_party.TaskParty.shut.Goals as goal

pub shut-requires-clause-allowed : goal.shut-requires-clause-allowed
shut-requires-clause-allowed c = may_shut (wired_task c.args.words.now.wiring c.args.self.now.seat.task) c.args.self.now.seat.part c.args.self.now.seat.task c.requires.place

pub invariant_of-self : goal.invariant_of-self
invariant_of-self c = record { computed = has_shut c.args.words.now c.args.self.now c.requires.here c.shut.new.seat c.shut.ensures.step c.compute.new.work c.compute.new.rows c.compute.ensures c.shut.ensures.part }

pub returns-clause-turn : goal.returns-clause-turn
returns-clause-turn c = record {
  made = Shut c.args.self.now.seat.task;
  loaded = no_word;
  own = refl;
  seat = c.shut.ensures.step;
  turns = refl;
  allowed = may_shut (wired_task c.args.words.now.wiring c.args.self.now.seat.task) c.args.self.now.seat.part c.args.self.now.seat.task c.requires.place;
  part = c.shut.ensures.part;
  answer = refl;
  delayed = λ r is late. refl;
}
