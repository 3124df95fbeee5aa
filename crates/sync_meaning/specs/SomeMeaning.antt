-- Each plan has a meaning.
use Rattle.dbp_plan.specs.declared.plan.Plan.{Plan}
use Rattle.dbp_plan.specs.declared.table.Table.{Table}
use Rattle.sync_meaning.specs.Meaning.{IsMeaning}
use Rattle.sync_meaning.specs.SomeMeaningStreams.{some_table}

pub some_meaning : (p : Plan) → (y : Table) × IsMeaning p.diagram p.samples p.batches y
some_meaning p = some_table p.diagram p.samples p.batches p.rules

-- the zero-time meaning of the plan
pub meaning_of : Plan → Table
meaning_of p = (some_meaning p).0

pub meaning_of-is : (p : Plan) → IsMeaning p.diagram p.samples p.batches (meaning_of p)
unfolding meaning_of
meaning_of-is p = (some_meaning p).1
