-- A table that is the meaning's.
use Rattle.std.proofs.Common.{◌≡◌, sym, subst}
use Rattle.dbp_plan.specs.declared.plan.Plan.{Plan}
use Rattle.dbp_plan.specs.declared.table.Table.{Table}
use Rattle.sync_meaning.specs.Meaning.{IsMeaning}
use Rattle.sync_meaning.specs.SomeMeaning.{meaning_of, meaning_of-is}

-- it meets the equations
pub meant : (p : Plan) (t : Table) → t ≡ meaning_of p → IsMeaning p.diagram p.samples p.batches t
meant p t is = subst (λ (u : Table). IsMeaning p.diagram p.samples p.batches u) (sym is) (meaning_of-is p)
