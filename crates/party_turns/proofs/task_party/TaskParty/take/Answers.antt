use Rattle.std.proofs.Common.{ℤ, ◌+◌, ◌<◌, FitsSigned, w64, length, refl, ap, sym, subst, ◌∙◌, rules}
use Rattle.std.proofs.lemmas.Int.{to_z-of_z}
use Rattle.dbp_plan.specs.declared.diagram.Task.{Task}
use Rattle.dbp_rules.specs.Moves as move
use Rattle.dbp_rules.specs.PartyRules.{a_value}
use Rattle.dbp_rules.specs.Lookups.{read_at, wired_task}
use Rattle.dbp_rules.specs.Work.{WorkWords}
use Rattle.dbp_rules.specs.declared.step.Step.TheVariants.{Take}
use Rattle.dbp_rules.specs.declared.wiring.TaskWiring.{TaskWiring}
use Rattle.party_turns.specs.Computed.{HasComputed, plan_of_task}
use Rattle.party_turns.proofs.Seats.{may_take, take_inside}
use Rattle.party_turns.proofs.Turned.{has_taken, spot_inside}
use Rattle.party_turns.proofs.task_party.TaskParty.take.Goals as goal

pub read_number-read-requires : goal.read_number-read-requires
read_number-read-requires c = rw c.wired_of.ensures (take_inside c.args.words.now c.args.self.now.seat c.requires.here c.args.turn c.requires.place)

pub take-word-requires-clause-allowed : goal.take-word-requires-clause-allowed
take-word-requires-clause-allowed c =
    let read = c.read_number-read.ensures ∙ ap (λ (x : TaskWiring). (read_at x c.args.turn).read) c.wired_of.ensures in
    may_take (wired_task c.args.words.now.wiring c.args.self.now.seat.task) c.args.self.now.seat.part c.args.self.now.seat.task c.args.turn c.read_number-read.result c.requires.place (sym read)

pub set_read-requires : goal.set_read-requires
set_read-requires c =
    let read = c.read_number-read.ensures ∙ ap (λ (x : TaskWiring). (read_at x c.args.turn).read) c.wired_of.ensures in
    let few = take_inside c.args.words.now c.args.self.now.seat c.requires.here c.args.turn c.requires.place in
    subst (λ (x : Task). length x.states + length x.senses + c.read_number-read.result < length c.args.self.now.work.now) (sym c.declared_of-task.ensures)
    (spot_inside c.args.words.now c.args.self.now c.requires.here c.args.turn c.read_number-read.result few read)

pub invariant_of-self : goal.invariant_of-self
invariant_of-self c =
    let read = c.read_number-read.ensures ∙ ap (λ (x : TaskWiring). (read_at x c.args.turn).read) c.wired_of.ensures in
    let few = take_inside c.args.words.now c.args.self.now.seat c.requires.here c.args.turn c.requires.place in
    let fits : FitsSigned w64 c.take-word.result = search rules in
    let work = c.set_read.ensures ∙ ap (λ (x : Task × ℤ). move.with_read x.0 c.args.self.now.work c.read_number-read.result x.1) (λ j. (c.declared_of-task.ensures j, to_z-of_z w64 c.take-word.result fits j)) in
    record {
      computed = subst (λ (x : WorkWords). HasComputed (plan_of_task c.take-word.new.seat) c.take-word.new.seat.task c.take-word.new.seat.part x c.args.self.now.rows) (sym work)
          (has_taken c.args.words.now c.args.self.now c.requires.here c.take-word.new.seat c.take-word.ensures.step c.args.turn c.read_number-read.result c.take-word.result c.requires.place few read c.take-word.ensures.meant c.take-word.ensures.part);
    }

pub returns-clause-turn : goal.returns-clause-turn
returns-clause-turn c =
    let read = c.read_number-read.ensures ∙ ap (λ (x : TaskWiring). (read_at x c.args.turn).read) c.wired_of.ensures in
    record {
      made = Take c.args.self.now.seat.task c.read_number-read.result;
      loaded = a_value c.take-word.result;
      own = refl;
      seat = c.take-word.ensures.step;
      turns = refl;
      allowed = may_take (wired_task c.args.words.now.wiring c.args.self.now.seat.task) c.args.self.now.seat.part c.args.self.now.seat.task c.args.turn c.read_number-read.result c.requires.place (sym read);
      part = c.take-word.ensures.part;
      answer = refl;
      delayed = λ r is late. refl;
    }
