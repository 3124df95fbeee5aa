-- The recorded list of a simulation on several processors, tick by tick.
use Rattle.std.specs.Prelude.{◌≡◌, ℕ, zero, suc, ◌+◌, ◌≤◌, All, List, [], ◌++◌, take, Option}
use Rattle.std.specs.List.{flat_map, range_with_len}
use Rattle.dbp_plan.specs.declared.limits.TheConstants.{MAX_CPU}
use Rattle.dbp_plan.specs.declared.plan.Plan.{Plan}
use Rattle.rank_order.specs.Ends.{NoOverrun}
use Rattle.rank_order.specs.Instances.{Instance, IsInstance}
use Rattle.dbp_rules.specs.Start.{start_of}
use Rattle.dbp_rules.specs.Wired.{wiring_of}
use Rattle.dbp_rules.specs.declared.state.State.{State}
use Rattle.dbp_rules.specs.declared.step.Count.TheVariants.{All as AllTasks}
use Rattle.dbp_rules.specs.declared.step.Step.{Step}
use Rattle.instance_steps.specs.Events.{Event}
use Rattle.instance_steps.specs.Plays.{Plays}
use Rattle.virtual_time.specs.Pieces.{end_events_of, release_events_at, service_events_of}
use Rattle.cpu_sim.specs.Processors.{left_on}
use Rattle.cpu_sim.specs.Services.{services}

-- how many processors there are
abbrev pub cpu_count : ℕ
cpu_count = MAX_CPU + 1

module _ (p : Plan) (serve : ℕ → ℕ → Option Instance) where
  -- on each of the first n processors, the end of the instance that was served there in the tick before
  abbrev pub ends_below : ℕ → ℕ → List Event
  ends_below n zero = []
  ends_below n (suc t) = flat_map (λ c. end_events_of p (serve c) (serve c t) (suc t)) (range_with_len 0 n)

  -- on each of the first n processors, the begin and the reads of the one that is served there
  abbrev pub services_below : ℕ → ℕ → List Event
  services_below n t = flat_map (λ c. service_events_of p (serve c) (serve c t) t) (range_with_len 0 n)

  -- those of the tick: the ends on all processors, the release of its batch, and the services on all processors
  abbrev pub events_at : ℕ → List Event
  events_at t = ends_below cpu_count t ++ (release_events_at p p.batches t ++ services_below cpu_count t)

  -- those of all ticks before t
  unfoldable pub events_before : ℕ → List Event
  events_before zero = []
  events_before (suc t) = events_before t ++ events_at t

  -- those so far at t: all of the ticks before, and of this tick the ends on the first m processors, the releases of the
  -- first b batches and the services on the first n processors
  abbrev pub events_so_far : ℕ → ℕ → ℕ → ℕ → List Event
  events_so_far m b n t = events_before t ++ (ends_below m t ++ (release_events_at p (take b p.batches) t ++ services_below n t))

-- No release comes too early, and under `All` the steps play the events of all ticks up to one at which all batches are
-- released and nothing is left of any instance. Later ticks have no events.
pub record IsCpuRecord (p : Plan) (script : List Step) : Type 0 where
  pub in_time : NoOverrun p (left_on p (services p))
  pub last : ℕ
  pub released : All (λ b. b.time ≤ last) p.batches
  pub ended : (x : Instance) → IsInstance p x → left_on p (services p) x last ≡ 0
  pub state : State
  pub plays : Plays p (wiring_of p AllTasks) (start_of p (wiring_of p AllTasks))
      (events_before p (services p) (last + 1)) script state
