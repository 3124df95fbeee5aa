-- What a simulation gives, whichever service its instances have: who serves an instance in each tick, and what is left of it.
use Rattle.std.specs.Prelude.{◌≡◌, ℕ, ◌+◌, ◌<◌, List, [], length, slice_index, slice_index_or, Option}
use Rattle.dbp_plan.specs.declared.plan.Plan.{Plan}
use Rattle.dbp_plan.specs.declared.table.Table.{Table}
use Rattle.dbp_plan.specs.Occurrences.{times_of}
use Rattle.dbp_rules.specs.declared.step.Step.{Step}
use Rattle.rank_order.specs.Ends.{IsEnd, IsOverrun, NoOverrun}
use Rattle.rank_order.specs.Instances.{Instance}
use Rattle.sync_meaning.specs.SomeMeaning.{meaning_of}
use Rattle.virtual_time.specs.declared.outcome.SimFail.{SimFail}
use Rattle.virtual_time.specs.declared.outcome.SimFail.TheVariants.{Overrun, NoMemory}
use Rattle.virtual_time.specs.declared.outcome.SimRun.{SimRun}

-- of each task the ends of its instances, in order
pub record AreEndsBy (p : Plan) (serve : Instance → ℕ → Option Instance) (ends : List (List ℕ)) : Type 0 where
  pub tasks : length ends ≡ length p.diagram.tasks
  pub numbers : (i : ℕ) → i < length p.diagram.tasks
      → length (slice_index_or ends i []) ≡ length (times_of p.batches i)
  pub each : (i k : ℕ) → i < length p.diagram.tasks → k < length (slice_index_or ends i [])
      → IsEnd (serve (record { task = i; number = k + 1 })) (record { task = i; number = k + 1 })
      (slice_index (slice_index_or ends i []) k)

-- the meaning's table, a list of steps that is recorded, and the ends
pub record IsRunBy (p : Plan) (serve : Instance → ℕ → Option Instance) (Recorded : List Step → Type 0) (run : SimRun) : Type 0 where
  pub table : run.table ≡ meaning_of p
  pub script : Recorded run.script
  pub ends : AreEndsBy p serve run.ends

-- the meaning's table alone, of a plan in which no release comes too early
pub record IsTableBy (p : Plan) (left : Instance → ℕ → ℕ) (table : Table) : Type 0 where
  pub meant : table ≡ meaning_of p
  pub in_time : NoOverrun p left

-- the overrun, or that memory ran out
abbrev pub IsFailBy : Plan → (Instance → ℕ → ℕ) → SimFail → Type 0
IsFailBy p left (Overrun task instance time) = IsOverrun p left time (record { task = task; number = instance })
IsFailBy p left NoMemory = Unit {0}
