use Rattle.std.proofs.Common.{◌≢◌, ◌<◌, length, sym, ◌∙◌, subst, rules}
use Rattle.dbp_rules.specs.declared.parts.ReleaserPart.{ReleaserPart}
use Rattle.release_book.specs.declared.release_step.ReleaseStep.TheVariants as release
use Rattle.party_turns.proofs.Releasers.{allowed_here, is_book, may_here, named_here, next_here, seen_inside, still_booked, unfinished}
use Rattle.party_turns.proofs.releaser_party.ReleaserParty.turn.Goals as goal

pub next-step-requires : goal.next-step-requires
next-step-requires c = is_book c.args.words.now c.args.self.now c.requires c.plan.result.now c.plan.ensures

pub make_step-heard-requires-clause-named : goal.make_step-heard-requires-clause-named
make_step-heard-requires-clause-named c = named_here c.args.words.now c.args.self.now c.requires c.plan.result.now c.plan.ensures c.next-step.result c.next-step.ensures.named

pub make_step-heard-requires-clause-allowed : goal.make_step-heard-requires-clause-allowed
make_step-heard-requires-clause-allowed c = allowed_here c.args.words.now c.args.self.now c.requires c.plan.result.now c.plan.ensures c.next-step.result c.next-step.ensures.allowed

pub made-requires-clause-book : goal.made-requires-clause-book
made-requires-clause-book c = is_book c.args.words.now c.args.self.now c.requires c.plan-2.result.now c.plan-2.ensures

pub made-requires-clause-heard : goal.made-requires-clause-heard
made-requires-clause-heard c = may_here c.args.words.now c.args.self.now c.requires c.plan.result.now c.plan.ensures c.next-step.result c.make_step-heard.result c.make_step-heard.ensures.may

pub invariant_of-self : goal.invariant_of-self
invariant_of-self c = record {
  booked = still_booked c.args.words.now c.args.self.now c.requires c.plan-2.result.now c.plan-2.ensures c.next-step.result c.make_step-heard.result c.make_step-heard.new.seat c.made.new.self
      c.make_step-heard.ensures.step c.make_step-heard.ensures.part c.made.ensures.book c.made.ensures.part;
}

pub answer_of-requires : goal.answer_of-requires
answer_of-requires c = λ i is.
    let steps = c.make_step-heard.ensures.step in
    let named = named_here c.args.words.now c.args.self.now c.requires c.plan.result.now c.plan.ensures c.next-step.result c.next-step.ensures.named in
    subst (λ (r : ReleaserPart). i < length r.tasks) (sym c.part.ensures)
    (seen_inside c.args.words.now c.make_step-heard.new.seat c.next-step.result (steps.table ∙ c.requires.0, steps.plan ∙ c.requires.1) named i is)

pub returns-clause-finished : goal.returns-clause-finished
returns-clause-finished c =
    let some : c.next-step.result ≢ release.Finished = search rules in
    unfinished c.args.words.now c.args.self.now c.next-step.result c.part.result.now c.answer_of.result c.requires
    (next_here c.args.words.now c.args.self.now c.requires c.plan.result.now c.plan.ensures c.next-step.result c.next-step.ensures.next) some c.answer_of.ensures
