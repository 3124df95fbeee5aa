-- The events of one tick on one processor, in their order: an end, the release of a batch, a begin and reads.
use Rattle.std.specs.Prelude.{ℕ, ◌++◌, ◌==◌, if◌then◌else◌, List, [], filter, Option, Some, None}
use Rattle.std.specs.List.{flat_map}
use Rattle.dbp_plan.specs.declared.plan.Plan.{Plan}
use Rattle.dbp_plan.specs.declared.schedule.Batch.{Batch}
use Rattle.rank_order.specs.Instances.{Instance}
use Rattle.rank_order.specs.Service.{left_of, served_ticks}
use Rattle.instance_steps.specs.Events.{Event, batch_events, begin_events, end_events, read_events}

-- 1. the instance that was served in the tick before ends, if nothing is left of it
abbrev pub end_events_of : Plan → (ℕ → Option Instance) → Option Instance → ℕ → List Event
end_events_of p serve None t = []
end_events_of p serve (Some x) t = if left_of p serve x t == 0 then end_events p x.task else []

-- 2. the batch of the tick is released
abbrev pub release_events_at : Plan → List Batch → ℕ → List Event
release_events_at p batches t = flat_map (batch_events p) (filter (λ b. b.time == t) batches)

-- 3. the instance that is served begins, if it hasn't been served before, and then makes each read whose tick of service
-- this is
abbrev pub begin_events_at : Plan → ℕ → ℕ → List Event
begin_events_at p i served = if served == 0 then begin_events p i else []

abbrev pub service_events_of : Plan → (ℕ → Option Instance) → Option Instance → ℕ → List Event
service_events_of p serve None t = []
service_events_of p serve (Some x) t =
    begin_events_at p x.task (served_ticks serve x t)
    ++ read_events p x.task (served_ticks serve x t)
