-- The releaser's actions, in order.
use Rattle.std.specs.Prelude.{ℕ, ◌==◌, List, ◌++◌, length, map, filter, take}
use Rattle.std.specs.List.{flat_map, range_with_len}
use Rattle.dbp_plan.specs.declared.diagram.Link.{Link}
use Rattle.dbp_plan.specs.declared.schedule.Batch.{Batch}
use Rattle.dbp_plan.specs.Lookups.{link_at}
use Rattle.release_list.specs.declared.release.Release.{Release}
use Rattle.release_list.specs.declared.release.Release.TheVariants.{Aim, Claim, OpenGate}

-- the numbers of the links into the task among the first so many links, and among all, in order
abbrev pub into_among : List Link → ℕ → ℕ → List ℕ
into_among links task count = filter (λ k. (link_at links k).reader == task) (range_with_len 0 count)

abbrev pub links_into : List Link → ℕ → List ℕ
links_into links task = into_among links task (length links)

-- the claims for the task's next instance, and for those of all these tasks
abbrev pub claims_into : List Link → ℕ → List Release
claims_into links task = map Claim (links_into links task)

abbrev pub claims_of : List Link → List ℕ → List Release
claims_of links tasks = flat_map (claims_into links) tasks

-- the claims for an instance of each of so many tasks
abbrev pub claims_by_task : List Link → ℕ → List (List Release)
claims_by_task links tasks = map (claims_into links) (range_with_len 0 tasks)

-- a batch: all aims, then all claims, then all gates
abbrev pub releases_at : List Link → Batch → List Release
releases_at links batch = map Aim batch.tasks ++ (claims_of links batch.tasks ++ map OpenGate batch.tasks)

-- the whole plan, batch by batch
abbrev pub releases_of : List Link → List Batch → List Release
releases_of links batches = flat_map (releases_at links) batches

-- the index in the whole plan's list at which the batch with this number begins; after the last batch, the list's length
abbrev pub batch_start : List Link → List Batch → ℕ → ℕ
batch_start links batches number = length (releases_of links (take number batches))
