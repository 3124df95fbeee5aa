use Rattle.std.proofs.Common.{ap, sym, subst}
use Rattle.dbp_rules.specs.declared.parts.ReleaserPart.{ReleaserPart}
use Rattle.dbp_rules.specs.declared.step.Step.TheVariants as step
use Rattle.release_book.specs.NextStep.{step_of}
use Rattle.release_book.specs.Releasers.{IsReleaserIn}
use Rattle.release_book.proofs.BookSteps.{aimed_fits, kept_there, link_there, may, part_stays, place_fits, reader_there, task_there, writer_there}
use Rattle.release_book.proofs.book.Book.made.Goals as goal

-- ---- a seen

pub see-requires : goal.see-requires
see-requires c =
    task_there c.args.plan.now c.args.self.now c.requires.book c.in-Seen.task
    (may c.args.plan.now c.args.self.now c.requires.book c.args.step (step.Seen c.in-Seen.task) c.requires.next (ap step_of c.in-Seen.is)).named

-- ---- an aim

pub aim-requires-clause-aimed : goal.aim-requires-clause-aimed
aim-requires-clause-aimed c =
    aimed_fits c.args.plan.now c.args.self.now c.requires.book c.in-Aim.task
    (may c.args.plan.now c.args.self.now c.requires.book c.args.step (step.Aim c.in-Aim.task c.in-Aim.slot) c.requires.next (ap step_of c.in-Aim.is)).named

pub aim-requires-clause-place : goal.aim-requires-clause-place
aim-requires-clause-place c = place_fits c.args.plan.now c.args.self.now c.requires.book

pub invariant_of-self-in-Aim : goal.invariant_of-self-in-Aim
invariant_of-self-in-Aim c = record {
  releaser =
      subst (λ (r : ReleaserPart). IsReleaserIn c.args.self.now.wiring r) (sym c.aim.ensures.next)
      (part_stays c.args.plan.now c.args.self.now c.requires.book c.args.step (step.Aim c.in-Aim.task c.in-Aim.slot) c.args.heard c.requires.next (ap step_of c.in-Aim.is) c.requires.heard);
}

-- ---- a claim

pub claim-requires-clause-link : goal.claim-requires-clause-link
claim-requires-clause-link c = (may c.args.plan.now c.args.self.now c.requires.book c.args.step (step.Claim c.in-Claim.link) c.requires.next (ap step_of c.in-Claim.is)).named

pub claim-requires-clause-claims : goal.claim-requires-clause-claims
claim-requires-clause-claims c = link_there c.args.plan.now c.args.self.now c.requires.book c.in-Claim.link (claim-requires-clause-link c)

pub claim-requires-clause-writer : goal.claim-requires-clause-writer
claim-requires-clause-writer c = writer_there c.args.plan.now c.args.self.now c.requires.book c.in-Claim.link (claim-requires-clause-link c)

pub claim-requires-clause-reader : goal.claim-requires-clause-reader
claim-requires-clause-reader c = reader_there c.args.plan.now c.args.self.now c.requires.book c.in-Claim.link (claim-requires-clause-link c)

pub claim-requires-clause-kept : goal.claim-requires-clause-kept
claim-requires-clause-kept c = kept_there c.args.plan.now c.args.self.now c.requires.book c.in-Claim.link (claim-requires-clause-link c)

pub claim-requires-clause-place : goal.claim-requires-clause-place
claim-requires-clause-place c = place_fits c.args.plan.now c.args.self.now c.requires.book

pub invariant_of-self-in-Claim : goal.invariant_of-self-in-Claim
invariant_of-self-in-Claim c = record {
  releaser =
      subst (λ (r : ReleaserPart). IsReleaserIn c.args.self.now.wiring r) (sym c.claim.ensures.next)
      (part_stays c.args.plan.now c.args.self.now c.requires.book c.args.step (step.Claim c.in-Claim.link) c.args.heard c.requires.next (ap step_of c.in-Claim.is) c.requires.heard);
}

-- ---- an open

pub open-requires-clause-task : goal.open-requires-clause-task
open-requires-clause-task c =
    task_there c.args.plan.now c.args.self.now c.requires.book c.in-OpenGate.task
    (may c.args.plan.now c.args.self.now c.requires.book c.args.step (step.OpenGate c.in-OpenGate.task) c.requires.next (ap step_of c.in-OpenGate.is)).named

pub open-requires-clause-place : goal.open-requires-clause-place
open-requires-clause-place c = place_fits c.args.plan.now c.args.self.now c.requires.book

pub invariant_of-self-in-OpenGate : goal.invariant_of-self-in-OpenGate
invariant_of-self-in-OpenGate c = record {
  releaser =
      subst (λ (r : ReleaserPart). IsReleaserIn c.args.self.now.wiring r) (sym c.open.ensures.next)
      (part_stays c.args.plan.now c.args.self.now c.requires.book c.args.step (step.OpenGate c.in-OpenGate.task) c.args.heard c.requires.next (ap step_of c.in-OpenGate.is) c.requires.heard);
}
