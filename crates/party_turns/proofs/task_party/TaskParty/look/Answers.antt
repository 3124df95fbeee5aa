use Rattle.std.proofs.Common.{refl, ap, sym, ◌∙◌}
use Rattle.dbp_rules.specs.PartyRules.{a_number, is_stamp_of, read_order_in, turn_at}
use Rattle.dbp_rules.specs.Lookups.{read_at, wired_task}
use Rattle.dbp_rules.specs.declared.step.Step.TheVariants.{Look}
use Rattle.dbp_rules.specs.declared.wiring.TaskWiring.{TaskWiring}
use Rattle.party_turns.proofs.Seats.{look_inside, may_look}
use Rattle.party_turns.proofs.Turned.{has_looked, looked, never_late, not_ready}
use Rattle.party_turns.proofs.task_party.TaskParty.look.Goals as goal

pub read_number-read-requires : goal.read_number-read-requires
read_number-read-requires c = rw c.wired_of.ensures (look_inside c.args.words.now c.args.self.now.seat c.requires.here c.args.turn c.requires.place)

pub look-requires-clause-allowed : goal.look-requires-clause-allowed
look-requires-clause-allowed c =
    let read = c.read_number-read.ensures ∙ ap (λ (x : TaskWiring). (read_at x c.args.turn).read) c.wired_of.ensures in
    may_look (wired_task c.args.words.now.wiring c.args.self.now.seat.task) c.args.self.now.seat.part c.args.self.now.seat.task c.args.turn c.read_number-read.result c.requires.place (sym read)

pub invariant_of-self : goal.invariant_of-self
invariant_of-self c = record { computed = has_looked c.args.words.now c.args.self.now c.requires.here c.look.new.seat c.look.ensures.step c.args.turn c.read_number-read.result c.look.ensures.part.0 c.requires.place c.look.ensures.part.1 }

pub returns-in-Ready-clause-turn : goal.returns-in-Ready-clause-turn
returns-in-Ready-clause-turn c =
    let w = wired_task c.args.words.now.wiring c.args.self.now.seat.task in
    let part = c.args.self.now.seat.part in
    let read = c.read_number-read.ensures ∙ ap (λ (x : TaskWiring). (read_at x c.args.turn).read) c.wired_of.ensures in
    record {
      made = Look c.args.self.now.seat.task c.read_number-read.result;
      loaded = a_number c.look.ensures.part.0;
      own = refl;
      seat = c.look.ensures.step;
      turns = refl;
      allowed = may_look w part c.args.self.now.seat.task c.args.turn c.read_number-read.result c.requires.place (sym read);
      part = c.look.ensures.part.1;
      answer = looked (is_stamp_of (read_order_in w part (turn_at part.place)) c.look.ensures.part.0) c.look.ensures.part.0 c.look.result c.look.ensures.part.2 c.in-Ready.is;
      delayed = λ r is late. refl;
    }

pub returns-in-NotYet-clause-turn : goal.returns-in-NotYet-clause-turn
returns-in-NotYet-clause-turn c =
    let w = wired_task c.args.words.now.wiring c.args.self.now.seat.task in
    let part = c.args.self.now.seat.part in
    let read = c.read_number-read.ensures ∙ ap (λ (x : TaskWiring). (read_at x c.args.turn).read) c.wired_of.ensures in
    record {
      made = Look c.args.self.now.seat.task c.read_number-read.result;
      loaded = a_number c.look.ensures.part.0;
      own = refl;
      seat = c.look.ensures.step;
      turns = refl;
      allowed = may_look w part c.args.self.now.seat.task c.args.turn c.read_number-read.result c.requires.place (sym read);
      part = c.look.ensures.part.1;
      answer = not_ready (is_stamp_of (read_order_in w part (turn_at part.place)) c.look.ensures.part.0) c.look.ensures.part.0 _ c.look.result c.look.ensures.part.2 c.in-NotYet.is;
      delayed = λ r is late. never_late c.args.words.now c.args.self.now.seat.task c.read_number-read.result r c.look.result _ _ c.look.ensures.delayed c.in-NotYet.is is late;
    }
