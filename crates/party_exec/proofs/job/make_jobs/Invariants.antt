use Rattle.party_turns.specs.Parties.{Belongs}
use Rattle.party_exec.specs.Jobs.{MakesJobs}
use Rattle.party_exec.proofs.job.make_jobs.Given as goal

abbrev pub invariant-loop : goal.invariant-loop
invariant-loop g l = record {
  here : Belongs l.words l.party;
  jobs : MakesJobs l.words l.initial.party l.counter l.party;
}
