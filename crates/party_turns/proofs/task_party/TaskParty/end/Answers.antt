use Rattle.std.proofs.Common.{refl, sym, subst}
use Rattle.dbp_rules.specs.PartyRules.{no_word}
use Rattle.dbp_rules.specs.Lookups.{wired_task}
use Rattle.dbp_rules.specs.Work.{WorkWords}
use Rattle.dbp_rules.specs.declared.step.Step.TheVariants.{End}
use Rattle.party_turns.specs.Computed.{HasComputed, plan_of_task}
use Rattle.party_turns.proofs.Seats.{may_end}
use Rattle.party_turns.proofs.Turned.{has_ended}
use Rattle.party_turns.proofs.task_party.TaskParty.end.Goals as goal

pub end-requires-clause-allowed : goal.end-requires-clause-allowed
end-requires-clause-allowed c = may_end (wired_task c.args.words.now.wiring c.args.self.now.seat.task) c.args.self.now.seat.part c.args.self.now.seat.task c.requires.place

pub invariant_of-self : goal.invariant_of-self
invariant_of-self c = record { computed = subst (λ (x : WorkWords). HasComputed (plan_of_task c.end.new.seat) c.end.new.seat.task c.end.new.seat.part x c.args.self.now.rows) (sym c.advance.ensures) (has_ended c.args.words.now c.args.self.now c.requires.here c.end.new.seat c.end.ensures.step c.requires.place c.end.ensures.part) }

pub returns-clause-turn : goal.returns-clause-turn
returns-clause-turn c = record {
  made = End c.args.self.now.seat.task;
  loaded = no_word;
  own = refl;
  seat = c.end.ensures.step;
  turns = refl;
  allowed = may_end (wired_task c.args.words.now.wiring c.args.self.now.seat.task) c.args.self.now.seat.part c.args.self.now.seat.task c.requires.place;
  part = c.end.ensures.part;
  answer = refl;
  delayed = λ r is late. refl;
}
