-- The recorded list of a simulation, tick by tick.
use Rattle.std.specs.Prelude.{◌≡◌, ℕ, zero, suc, ◌+◌, ◌≤◌, All, List, [], ◌++◌, take, Option}
use Rattle.dbp_plan.specs.declared.plan.Plan.{Plan}
use Rattle.rank_order.specs.Ends.{NoOverrun}
use Rattle.rank_order.specs.Instances.{Instance, IsInstance}
use Rattle.rank_order.specs.Service.{left_of}
use Rattle.rank_order.specs.ServiceOf.{service}
use Rattle.dbp_rules.specs.Start.{start_of}
use Rattle.dbp_rules.specs.Wired.{wiring_of}
use Rattle.dbp_rules.specs.declared.state.State.{State}
use Rattle.dbp_rules.specs.declared.step.Count.TheVariants.{Ranked}
use Rattle.dbp_rules.specs.declared.step.Step.{Step}
use Rattle.instance_steps.specs.Events.{Event, end_events}
use Rattle.instance_steps.specs.Plays.{Plays}
use Rattle.instance_steps.specs.Releases.{HasReleased}
use Rattle.virtual_time.specs.Pieces.{end_events_of, release_events_at, service_events_of}

module _ (p : Plan) (serve : ℕ → Option Instance) where
  -- the end of the tick is that of the instance that was served in the tick before
  abbrev pub end_events_at : ℕ → List Event
  end_events_at zero = []
  end_events_at (suc t) = end_events_of p serve (serve t) (suc t)

  -- those of the tick: its end, the release of its batch, and the begin and the reads of the one that is served
  abbrev pub events_at : ℕ → List Event
  events_at t = end_events_at t ++ (release_events_at p p.batches t ++ service_events_of p serve (serve t) t)

  -- those of all ticks before t
  unfoldable pub events_before : ℕ → List Event
  events_before zero = []
  events_before (suc t) = events_before t ++ events_at t

  -- those so far at t, if the first b batches are released: those of the ticks before, and of this tick its end and the
  -- releases of these batches
  abbrev pub events_so_far : ℕ → ℕ → List Event
  events_so_far b t = events_before t ++ (end_events_at t ++ release_events_at p (take b p.batches) t)

-- In the list stand the steps of all ticks before the time, and right after them those by which the task's instance ends.
pub record HasEndAt (p : Plan) (script : List Step) (task time : ℕ) : Type 0 where
  pub earlier : List Step
  pub ending : List Step
  pub later : List Step
  pub list : script ≡ earlier ++ (ending ++ later)
  pub before : State
  pub after : State
  pub ticks : Plays p (wiring_of p Ranked) (start_of p (wiring_of p Ranked))
      (events_before p (service p) time) earlier before
  pub ends : Plays p (wiring_of p Ranked) before (end_events p task) ending after

-- The number and the time are those of a batch. A front of the list plays the events of all ticks before the time, then
-- those of the tick's end, and then those of the batch. It leads from the start to a state in which the batches up to this
-- one are released, and no others.
pub record StandsAfterBatch (p : Plan) (script : List Step) (number time : ℕ) : Type 0 where
  pub front : List Step
  pub rest : List Step
  pub list : script ≡ front ++ rest
  pub state : State
  pub plays : Plays p (wiring_of p Ranked) (start_of p (wiring_of p Ranked))
      (events_so_far p (service p) (number + 1) time) front state
  pub released : HasReleased p state (number + 1)

-- No release comes too early, and the steps play the events of all ticks up to one at which all batches are released and
-- nothing is left of any instance. Later ticks have no events.
pub record IsRecord (p : Plan) (script : List Step) : Type 0 where
  pub in_time : NoOverrun p (left_of p (service p))
  pub last : ℕ
  pub released : All (λ b. b.time ≤ last) p.batches
  pub ended : (x : Instance) → IsInstance p x → left_of p (service p) x last ≡ 0
  pub state : State
  pub plays : Plays p (wiring_of p Ranked) (start_of p (wiring_of p Ranked))
      (events_before p (service p) (last + 1)) script state
