-- What a simulation on one processor gives.
use Rattle.std.specs.Prelude.{ℕ, List}
use Rattle.dbp_plan.specs.declared.plan.Plan.{Plan}
use Rattle.dbp_plan.specs.declared.table.Table.{Table}
use Rattle.rank_order.specs.Service.{left_of}
use Rattle.rank_order.specs.ServiceOf.{service}
use Rattle.virtual_time.specs.Outcomes.{AreEndsBy, IsFailBy, IsRunBy, IsTableBy}
use Rattle.virtual_time.specs.declared.outcome.SimFail.{SimFail}
use Rattle.virtual_time.specs.declared.outcome.SimRun.{SimRun}
use Rattle.virtual_sim.specs.Record.{IsRecord}

-- of each task the ends of its instances, in order
abbrev pub AreEnds : Plan → List (List ℕ) → Type 0
AreEnds p ends = AreEndsBy p (λ x. service p) ends

-- the meaning's table, the recorded list, and the ends
abbrev pub IsSimRun : Plan → SimRun → Type 0
IsSimRun p run = IsRunBy p (λ x. service p) (IsRecord p) run

-- the meaning's table alone, of a plan in which no release comes too early
abbrev pub IsSimTable : Plan → Table → Type 0
IsSimTable p table = IsTableBy p (left_of p (service p)) table

-- the overrun, or that memory ran out
abbrev pub IsSimFail : Plan → SimFail → Type 0
IsSimFail p why = IsFailBy p (left_of p (service p)) why
