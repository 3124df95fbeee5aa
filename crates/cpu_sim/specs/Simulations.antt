-- What a simulation on several processors keeps from one event to the next, and inside of one, from processor to processor.
use Rattle.std.specs.Prelude.{◌≡◌, ℕ, zero, suc, ◌+◌, ◌-◌, ◌*◌, ◌<◌, ◌≤◌, ◌==◌, ◌&&◌, not, nat_lt, Bool, false, if◌then◌else◌, is_some, List, ◌++◌, length, slice_index, slice_index_or, take, Option, Some, None}
use Rattle.dbp_plan.specs.declared.plan.Plan.{Plan}
use Rattle.dbp_plan.specs.Lookups.{declared_task, no_read}
use Rattle.dbp_plan.specs.Occurrences.{occurrence_count}
use Rattle.dbp_rules.specs.declared.parts.Place.{Place}
use Rattle.dbp_rules.specs.declared.step.Count.TheVariants.{All}
use Rattle.instance_steps.specs.Events.{read_events}
use Rattle.instance_steps.specs.Recorders.{first_record, record_in}
use Rattle.instance_steps.specs.TaskPieces.{place_after}
use Rattle.instance_steps.specs.declared.recorder.Keeping.{Keeping}
use Rattle.virtual_time.specs.Budgets.{steps_below}
use Rattle.virtual_time.specs.Pieces.{begin_events_at}
use Rattle.virtual_time.specs.Recordings.{IsRecorded, place_of}
use Rattle.virtual_time.specs.Runs.{IsRun}
use Rattle.virtual_time.specs.State.{NoBatchBefore}
use Rattle.virtual_time.specs.declared.run.Run.{Run}
use Rattle.cpu_sim.specs.Choices.{AreChoices, all_cpus_at, cpus_at}
use Rattle.cpu_sim.specs.Record.{cpu_count, events_so_far}
use Rattle.cpu_sim.specs.Services.{services}
use Rattle.cpu_sim.specs.declared.simulation.Simulation.{Simulation}

-- the most steps of which something is known by the batches and by what the instances have done
abbrev pub most_steps : Plan → Run → ℕ
most_steps p r = 131 * occurrence_count (take r.released p.batches) + steps_below p r.rest.items r.ends (length p.diagram.tasks)

-- its time is right, the protocol stands where the time has it, and its steps are not too many
pub record IsSimulation (p : Plan) (s : Simulation) : Type 0 where
  pub run : IsRun p (all_cpus_at p s.run.time) s.run
  pub recorded : IsRecorded p All s.run.released (events_so_far p (services p) cpu_count s.run.released 0 s.run.time)
      (λ i. place_of p i (slice_index s.run.rest.items i)) s.run.ends s.recorder
  pub few : length (events_so_far p (services p) cpu_count s.run.released 0 s.run.time) ≤ most_steps p s.run

-- ---- an event

-- how many ticks the task's last released instance was served before
abbrev pub served_before : Plan → Run → ℕ → ℕ
served_before p r i = (declared_task p i).cost - slice_index r.rest.items i

-- each instance that is chosen has d ticks left, and is due to make no read inside of them; no batch is
pub record IsJump (p : Plan) (r : Run) (chosen : List (Option ℕ)) (d : ℕ) : Type 0 where
  pub some : 0 < d
  pub until : NoBatchBefore p r.released (r.time + d)
  pub fits : (c i : ℕ) → c < cpu_count → slice_index_or chosen c None ≡ Some i → d ≤ slice_index r.rest.items i
  pub no_read : (c i k : ℕ) → c < cpu_count → slice_index_or chosen c None ≡ Some i → k < length (declared_task p i).reads
      → served_before p r i < (slice_index_or (declared_task p i).reads k no_read).at
      → served_before p r i + d ≤ (slice_index_or (declared_task p i).reads k no_read).at

-- the same of those that are chosen for processors below n
pub record FitsBelow (p : Plan) (r : Run) (chosen : List (Option ℕ)) (n d : ℕ) : Type 0 where
  pub fits : (c i : ℕ) → c < n → slice_index_or chosen c None ≡ Some i → d ≤ slice_index r.rest.items i
  pub no_read : (c i k : ℕ) → c < n → slice_index_or chosen c None ≡ Some i → k < length (declared_task p i).reads
      → served_before p r i < (slice_index_or (declared_task p i).reads k no_read).at
      → served_before p r i + d ≤ (slice_index_or (declared_task p i).reads k no_read).at

-- whether the task is chosen for its processor
abbrev pub is_task : ℕ → Option ℕ → Bool
is_task i None = false
is_task i (Some j) = j == i

abbrev pub is_chosen : Plan → List (Option ℕ) → ℕ → Bool
is_chosen p chosen i = is_task i (slice_index_or chosen (declared_task p i).cpu None)

-- whether it is, and its processor is below c, or isn't
abbrev pub is_done : Plan → List (Option ℕ) → ℕ → ℕ → Bool
is_done p chosen c i = is_chosen p chosen i && nat_lt (declared_task p i).cpu c

abbrev pub is_open : Plan → List (Option ℕ) → ℕ → ℕ → Bool
is_open p chosen c i = is_chosen p chosen i && not (nat_lt (declared_task p i).cpu c)

-- where the task stands: after the reads of this tick of service if it has made its steps, else before them
abbrev pub place_in : Plan → Run → ℕ → Bool → Place
place_in p r i stepped = if stepped then place_after p i (served_before p r i + 1) else place_of p i (slice_index r.rest.items i)

-- how many steps one that is chosen makes in the tick, and all on the first c processors
abbrev pub own_steps : Plan → Run → Option ℕ → ℕ
own_steps p r None = 0
own_steps p r (Some i) = length (begin_events_at p i (served_before p r i)) + length (read_events p i (served_before p r i))

abbrev pub chosen_steps : Plan → Run → List (Option ℕ) → ℕ → ℕ
chosen_steps p r chosen zero = 0
chosen_steps p r chosen (suc c) = chosen_steps p r chosen c + own_steps p r (slice_index_or chosen c None)

-- at an event, whom the processors serve is chosen
pub record IsEvent (p : Plan) (s : Simulation) (chosen : List (Option ℕ)) : Type 0 where
  pub simulation : IsSimulation p s
  pub until : NoBatchBefore p s.run.released (s.run.time + 1)
  pub choices : AreChoices p s.run chosen
  pub long : length chosen ≡ cpu_count

-- since that event the processors below c have made the steps of this tick
pub record HasStepped (p : Plan) (first : Simulation) (chosen : List (Option ℕ)) (c : ℕ) (s : Simulation) : Type 0 where
  pub event : IsEvent p first chosen
  pub run : s.run ≡ first.run
  pub recorded : IsRecorded p All first.run.released (events_so_far p (services p) cpu_count first.run.released c first.run.time)
      (λ i. place_in p first.run i (is_done p chosen c i)) first.run.ends s.recorder
  pub few : length (events_so_far p (services p) cpu_count first.run.released c first.run.time)
      ≤ most_steps p first.run + chosen_steps p first.run chosen c
  pub keeps : is_some (record_in s.recorder) ≡ is_some (record_in first.recorder)

-- the times to which the processors have come, of which those below c have gone on for d ticks
abbrev pub times_below : ℕ → ℕ → ℕ → ℕ → ℕ
times_below c t d k = if nat_lt k c then t + d else t

-- since that event all have made their steps, and the processors below c have served for d ticks
pub record HasServed (p : Plan) (first : Simulation) (chosen : List (Option ℕ)) (d c : ℕ) (s : Simulation) : Type 0 where
  pub event : IsEvent p first chosen
  pub jump : IsJump p first.run chosen d
  pub run : IsRun p (cpus_at p (times_below c first.run.time d)) s.run
  pub time : s.run.time ≡ first.run.time
  pub released : s.run.released ≡ first.run.released
  pub rest : (i : ℕ) → slice_index s.run.rest.items i
      ≡ (if is_done p chosen c i then slice_index first.run.rest.items i - d else slice_index first.run.rest.items i)
  pub recorded : IsRecorded p All first.run.released (events_so_far p (services p) c first.run.released 0 (first.run.time + d))
      (λ i. place_in p s.run i (is_open p chosen c i)) s.run.ends s.recorder
  pub few : length (events_so_far p (services p) c first.run.released 0 (first.run.time + d)) + chosen_steps p first.run chosen c
      ≤ most_steps p s.run + chosen_steps p first.run chosen cpu_count
  pub keeps : is_some (record_in s.recorder) ≡ is_some (record_in first.recorder)

-- the task is chosen for this processor
pub record IsNext (chosen : List (Option ℕ)) (c i : ℕ) : Type 0 where
  pub small : c < cpu_count
  pub there : slice_index_or chosen c None ≡ Some i

-- the processors below c have made their steps, and the instance of the task on c has begun
pub record HasBegun (p : Plan) (first : Simulation) (chosen : List (Option ℕ)) (c i : ℕ) (s : Simulation) : Type 0 where
  pub recorded : IsRecorded p All first.run.released
      (events_so_far p (services p) cpu_count first.run.released c first.run.time ++ begin_events_at p i (served_before p first.run i))
      (λ j. if j == i then place_after p i (served_before p first.run i) else place_in p first.run j (is_done p chosen c j)) first.run.ends s.recorder
  pub keeps : is_some (record_in s.recorder) ≡ is_some (record_in first.recorder)

-- some stage of some event in which the processor c, for which the task is chosen, comes next
pub record StepsNext (p : Plan) (s : Simulation) (i : ℕ) : Type 0 where
  pub first : Simulation
  pub choices : List (Option ℕ)
  pub cpu : ℕ
  pub stepped : HasStepped p first choices cpu s
  pub next : IsNext choices cpu i

pub record ServesNext (p : Plan) (s : Simulation) (i d : ℕ) : Type 0 where
  pub first : Simulation
  pub choices : List (Option ℕ)
  pub cpu : ℕ
  pub served : HasServed p first choices d cpu s
  pub next : IsNext choices cpu i

-- it has come to its end: all batches are released, and nothing is left of any instance; its steps are kept if they were to be
pub record IsFinished (p : Plan) (keeping : Keeping) (s : Simulation) : Type 0 where
  pub simulation : IsSimulation p s
  pub released : s.run.released ≡ length p.batches
  pub idle : (i : ℕ) → i < length p.diagram.tasks → slice_index s.run.rest.items i ≡ 0
  pub keeps : is_some (record_in s.recorder) ≡ is_some (first_record keeping)
