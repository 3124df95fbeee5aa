use Rattle.party_turns.proofs.SameParties.{still_belongs}
use Rattle.party_exec.proofs.SameJobs.{made_jobs_same}
use Rattle.party_exec.proofs.job.jobs.Goals as goal

pub has_finished-requires : goal.has_finished-requires
has_finished-requires g c =
    let w = c.args.words.now in
    still_belongs w c.args.party.now c.make_jobs.new.party c.requires (made_jobs_same w c.args.party.now 64 c.make_jobs.new.party c.make_jobs.ensures)
