-- The simulations that commands make of a plan: of tasks on one processor, or each on its own.
use Rattle.std.specs.Prelude.{ℕ, Bool, true, false, List}
use Rattle.cpu_sim.specs.Processors.{left_on}
use Rattle.cpu_sim.specs.Record.{IsCpuRecord}
use Rattle.cpu_sim.specs.Services.{services}
use Rattle.dbp_plan.specs.declared.plan.Plan.{Plan}
use Rattle.dbp_rules.specs.declared.step.Step.{Step}
use Rattle.rank_order.specs.Ends.{NoOverrun}
use Rattle.rank_order.specs.Instances.{Instance}
use Rattle.rank_order.specs.Service.{left_of}
use Rattle.rank_order.specs.ServiceOf.{service}
use Rattle.virtual_sim.specs.Record.{IsRecord}
use Rattle.virtual_time.specs.Outcomes.{IsFailBy}
use Rattle.virtual_time.specs.declared.outcome.SimFail.{SimFail}
use Rattle.dbp_answers.specs.declared.processors.Processors.{Processors}
use Rattle.dbp_answers.specs.declared.processors.Processors.TheVariants.{One, Declared}

-- what is left of each instance at each time
abbrev pub left_in : Plan → Processors → Instance → ℕ → ℕ
left_in plan One = left_of plan (service plan)
left_in plan Declared = left_on plan (services plan)

-- no release of the plan meets an unfinished instance
abbrev pub IsInTime : Plan → Processors → Type 0
IsInTime plan processors = NoOverrun plan (left_in plan processors)

-- the overrun, or that memory ran out
abbrev pub IsFailOn : Plan → Processors → SimFail → Type 0
IsFailOn plan processors why = IsFailBy plan (left_in plan processors) why

-- the steps are the recorded ones
abbrev pub IsRecordIn : Plan → Processors → List Step → Type 0
IsRecordIn plan One steps = IsRecord plan steps
IsRecordIn plan Declared steps = IsCpuRecord plan steps

-- whether the recorded steps may also be taken by ranks: on one processor no instance begins before each of a higher rank
-- has ended
abbrev pub steps_by_rank : Processors → Bool
steps_by_rank One = true
steps_by_rank Declared = false
