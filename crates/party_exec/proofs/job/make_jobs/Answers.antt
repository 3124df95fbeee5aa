use Rattle.party_turns.proofs.SameParties.{still_belongs}
use Rattle.party_exec.specs.Jobs.{no_job, one_job}
use Rattle.party_exec.proofs.SameJobs.{next_job_same}
use Rattle.party_exec.proofs.job.make_jobs.Goals as goal

pub loop-init : goal.loop-init
loop-init g c = record { here = c.requires; jobs = no_job }

pub loop-preserved : goal.loop-preserved
loop-preserved g c =
    let before = c.loop.invariant in record {
      here = still_belongs c.args.words.now c.loop.party c.next_job.new.party before.here (next_job_same c.args.words.now c.loop.party c.next_job.new.party c.next_job.ensures);
      jobs = one_job c.loop.counter c.loop.party c.next_job.new.party before.jobs c.next_job.ensures;
    }
