use Rattle.trace_io.proofs.WrittenTraces.{events-written, samples-written, written-plan}
use Rattle.trace_io.proofs.laws.a_written_trace_makes_a_plan.Goals as goal

pub returns-clause-samples : goal.returns-clause-samples
returns-clause-samples c = samples-written

pub returns-clause-events : goal.returns-clause-events
returns-clause-events c = events-written

pub returns-clause-plan : goal.returns-clause-plan
returns-clause-plan c = written-plan
