use Rattle.trace_io.proofs.OneSchedule.{one-schedule}
use Rattle.trace_io.proofs.laws.one_schedule.Goals as goal

pub returns : goal.returns
returns c = one-schedule
