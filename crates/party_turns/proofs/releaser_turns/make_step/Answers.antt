use Rattle.std.proofs.Common.{ap}
use Rattle.dbp_rules.specs.declared.step.Step.TheVariants as step
use Rattle.release_book.specs.NextStep.{step_of}
use Rattle.party_turns.proofs.releaser_turns.make_step.Goals as goal

pub seen-requires-clause-task : goal.seen-requires-clause-task
seen-requires-clause-task c = c.requires.named (step.Seen c.in-Seen.task) (ap step_of c.in-Seen.is)

pub aim-requires-clause-task : goal.aim-requires-clause-task
aim-requires-clause-task c = c.requires.named (step.Aim c.in-Aim.task c.in-Aim.slot) (ap step_of c.in-Aim.is)

pub aim-requires-clause-allowed : goal.aim-requires-clause-allowed
aim-requires-clause-allowed c = c.requires.allowed (step.Aim c.in-Aim.task c.in-Aim.slot) (ap step_of c.in-Aim.is)

pub claim-requires-clause-link : goal.claim-requires-clause-link
claim-requires-clause-link c = c.requires.named (step.Claim c.in-Claim.link) (ap step_of c.in-Claim.is)

pub claim-requires-clause-allowed : goal.claim-requires-clause-allowed
claim-requires-clause-allowed c = c.requires.allowed (step.Claim c.in-Claim.link) (ap step_of c.in-Claim.is)

pub open_gate-requires-clause-task : goal.open_gate-requires-clause-task
open_gate-requires-clause-task c = c.requires.named (step.OpenGate c.in-OpenGate.task) (ap step_of c.in-OpenGate.is)

pub open_gate-requires-clause-allowed : goal.open_gate-requires-clause-allowed
open_gate-requires-clause-allowed c = c.requires.allowed (step.OpenGate c.in-OpenGate.task) (ap step_of c.in-OpenGate.is)
