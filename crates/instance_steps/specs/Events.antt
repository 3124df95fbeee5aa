-- The pieces that a recorded list of steps is made of, as lists of events. An event is a step; of an aim the slot is
-- left open.
use Rattle.std.specs.Prelude.{ℕ, ◌+◌, ◌==◌, List, [], ◌∷◌, ◌++◌, filter, length, map, replicate, slice_index_or, if◌then◌else◌}
use Rattle.std.specs.List.{flat_map, range_with_len}
use Rattle.dbp_plan.specs.declared.diagram.Read.{Read}
use Rattle.dbp_plan.specs.declared.plan.Plan.{Plan}
use Rattle.dbp_plan.specs.declared.schedule.Batch.{Batch}
use Rattle.dbp_plan.specs.Lookups.{declared_task, no_read}
use Rattle.dbp_plan.specs.Occurrences.{time_of}
use Rattle.release_list.specs.Releases.{links_into}
use Rattle.dbp_rules.specs.declared.step.Step.{Step}
use Rattle.dbp_rules.specs.declared.step.Step.TheVariants.{Seen, Claim, OpenGate, Start, Hear, Look, Take, Shut, Put, Done, End}

-- this step; or an aim of the task, at the least slot that is allowed when it is made
pub data Event : Type 0 where
  step_of : Step → Event
  aim_of : ℕ → Event

-- ---- the release of a batch

-- the aim of a task at the time; from its second instance on, the releaser first loads how many have ended
abbrev pub seen_events : Plan → ℕ → ℕ → List Event
seen_events p time i = if time_of p.batches i 1 == time then [] else step_of (Seen i) ∷ []

abbrev pub aim_events : Plan → ℕ → ℕ → List Event
aim_events p time i = seen_events p time i ++ aim_of i ∷ []

abbrev pub claim_events : Plan → ℕ → List Event
claim_events p i = map (λ k. step_of (Claim k)) (links_into p.diagram.links i)

-- all aims, then all claims, then all gates
abbrev pub batch_events : Plan → Batch → List Event
batch_events p batch =
    flat_map (aim_events p batch.time) batch.tasks
    ++ (flat_map (claim_events p) batch.tasks ++ map (λ i. step_of (OpenGate i)) batch.tasks)

-- ---- an instance

-- it starts, and hears its own order and that of each link into its task
abbrev pub begin_events : Plan → ℕ → List Event
begin_events p i = step_of (Start i) ∷ replicate (1 + length (links_into p.diagram.links i)) (step_of (Hear i))

-- the numbers of the reads that are made when the instance has been served so many ticks, in order of declaration
abbrev pub reads_at : List Read → ℕ → List ℕ
reads_at reads served = filter (λ r. (slice_index_or reads r no_read).at == served) (range_with_len 0 (length reads))

-- a read looks, and takes
abbrev pub look_events : ℕ → ℕ → List Event
look_events i r = step_of (Look i r) ∷ step_of (Take i r) ∷ []

abbrev pub read_events : Plan → ℕ → ℕ → List Event
read_events p i served = flat_map (look_events i) (reads_at (declared_task p i).reads served)

-- it shuts its slot, puts its outs in order of declaration, stamps the slot, and ends
abbrev pub put_events : ℕ → ℕ → List Event
put_events i outs = map (λ port. step_of (Put i port)) (range_with_len 0 outs)

abbrev pub end_events : Plan → ℕ → List Event
end_events p i = step_of (Shut i) ∷ (put_events i (length (declared_task p i).outs) ++ step_of (Done i) ∷ step_of (End i) ∷ [])
