-- What a simulation on several processors gives.
use Rattle.std.specs.Prelude.{ℕ, List}
use Rattle.dbp_plan.specs.declared.plan.Plan.{Plan}
use Rattle.dbp_plan.specs.declared.table.Table.{Table}
use Rattle.virtual_time.specs.Outcomes.{AreEndsBy, IsFailBy, IsRunBy, IsTableBy}
use Rattle.virtual_time.specs.declared.outcome.SimFail.{SimFail}
use Rattle.virtual_time.specs.declared.outcome.SimRun.{SimRun}
use Rattle.cpu_sim.specs.Processors.{cpu_of, left_on}
use Rattle.cpu_sim.specs.Record.{IsCpuRecord}
use Rattle.cpu_sim.specs.Services.{services}

-- of each task the ends of its instances, in order, each on its processor
abbrev pub AreCpuEnds : Plan → List (List ℕ) → Type 0
AreCpuEnds p ends = AreEndsBy p (λ x. services p (cpu_of p x)) ends

-- the meaning's table, the recorded list, and the ends
abbrev pub IsSimRun : Plan → SimRun → Type 0
IsSimRun p run = IsRunBy p (λ x. services p (cpu_of p x)) (IsCpuRecord p) run

-- the meaning's table alone, of a plan in which no release comes too early on the processors
abbrev pub IsSimTable : Plan → Table → Type 0
IsSimTable p table = IsTableBy p (left_on p (services p)) table

-- the overrun on the processors, or that memory ran out
abbrev pub IsSimFail : Plan → SimFail → Type 0
IsSimFail p why = IsFailBy p (left_on p (services p)) why
