-- A wiring with the list of the releaser's actions, and one with an empty list in its place.
use Rattle.std.specs.Prelude.{[]}
use Rattle.dbp_plan.specs.declared.plan.Plan.{Plan}
use Rattle.release_list.specs.Releases.{releases_of}
use Rattle.dbp_rules.specs.declared.wiring.Wiring.{Wiring}

-- with the actions of the plan
abbrev pub with_releases : Plan → Wiring → Wiring
with_releases p w = record w { releases = releases_of p.diagram.links p.batches }

-- with none
abbrev pub without_releases : Wiring → Wiring
without_releases w = record w { releases = [] }
