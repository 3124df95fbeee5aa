use Rattle.trace_io.proofs.TextLaws.{accepted-once, accepted-not-refused, refused-once}
use Rattle.trace_io.proofs.laws.one_plan.Goals as goal

pub returns-clause-one : goal.returns-clause-one
returns-clause-one c = accepted-once c.one_document.ensures c.one_first_fault.ensures.none c.one_first_fault.ensures.one c.one_check.ensures.one c.one_check.ensures.none c.one_check.ensures.one_fault c.one_schedule.ensures

pub returns-clause-none : goal.returns-clause-none
returns-clause-none c = accepted-not-refused c.one_document.ensures c.one_first_fault.ensures.none c.one_first_fault.ensures.one c.one_check.ensures.one c.one_check.ensures.none c.one_check.ensures.one_fault c.one_schedule.ensures

pub returns-clause-one_fault : goal.returns-clause-one_fault
returns-clause-one_fault c = refused-once c.one_document.ensures c.one_first_fault.ensures.none c.one_first_fault.ensures.one c.one_check.ensures.one c.one_check.ensures.none c.one_check.ensures.one_fault c.one_schedule.ensures
