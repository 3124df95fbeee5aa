use Rattle.std.proofs.Common.{◌<◌}
use Rattle.party_turns.specs.Parties.{Belongs}
use Rattle.party_exec.specs.Jobs.{HasWorked}
use Rattle.party_exec.proofs.job.make_turns.Given as goal

abbrev pub invariant-loop : goal.invariant-loop
invariant-loop g l = record {
  here : Belongs l.words l.party;
  quiet : l.idle < 64;
  turns : HasWorked l.words l.initial.party l.counter l.idle l.party;
}
