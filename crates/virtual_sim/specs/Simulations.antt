-- What a simulation keeps from one event to the next.
use Rattle.std.specs.Prelude.{◌≡◌, ℕ, ◌+◌, ◌*◌, ◌<◌, ◌≤◌, is_some, length, slice_index, take}
use Rattle.dbp_plan.specs.declared.plan.Plan.{Plan}
use Rattle.dbp_plan.specs.Occurrences.{occurrence_count}
use Rattle.rank_order.specs.ServiceOf.{service}
use Rattle.dbp_rules.specs.declared.step.Count.TheVariants.{Ranked}
use Rattle.instance_steps.specs.Recorders.{first_record, record_in}
use Rattle.instance_steps.specs.declared.recorder.Keeping.{Keeping}
use Rattle.virtual_sim.specs.declared.simulation.Simulation.{Simulation}
use Rattle.virtual_time.specs.Budgets.{steps_below}
use Rattle.virtual_sim.specs.Record.{events_so_far}
use Rattle.virtual_time.specs.Recordings.{IsRecorded, place_of}
use Rattle.virtual_time.specs.Runs.{IsRun, Processors}

-- one processor has all tasks, serves by the plan's service, and has come to this time
abbrev pub one_processor : Plan → ℕ → Processors
one_processor p t = record { on = λ i. 0; serve = λ c. service p; now = λ c. t }

-- its time is right, the protocol stands where the time has it, and its steps are not too many
pub record IsSimulation (p : Plan) (s : Simulation) : Type 0 where
  pub run : IsRun p (one_processor p s.run.time) s.run
  pub recorded : IsRecorded p Ranked s.run.released (events_so_far p (service p) s.run.released s.run.time) (λ i. place_of p i (slice_index s.run.rest.items i)) s.run.ends s.recorder
  pub few : length (events_so_far p (service p) s.run.released s.run.time)
      ≤ 131 * occurrence_count (take s.run.released p.batches)
      + steps_below p s.run.rest.items s.run.ends (length p.diagram.tasks)

-- it has come to its end: all batches are released, and nothing is left of any instance; its steps are kept if they were to be
pub record IsFinished (p : Plan) (keeping : Keeping) (s : Simulation) : Type 0 where
  pub simulation : IsSimulation p s
  pub released : s.run.released ≡ length p.batches
  pub idle : (i : ℕ) → i < length p.diagram.tasks → slice_index s.run.rest.items i ≡ 0
  pub keeps : is_some (record_in s.recorder) ≡ is_some (first_record keeping)
