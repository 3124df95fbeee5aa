-- Between events: no processor serves until the next batch, and a batch is released.
use Rattle.std.proofs.Common.{◌≡◌, ℕ, ◌+◌, ◌-◌, ◌<◌, true, false, List, [], ◌∷◌, ◌++◌, length, take, get_or, Option, Some, None, refl, sym, ap, ◌∙◌, subst, ⊎_elim, arith, length-append}
use Rattle.std.proofs.lemmas.Bool.{cases_Bool}
use Rattle.std.proofs.lemmas.List.{take_more}
use Rattle.std.proofs.lemmas.List.Sums.{sum_by-append, sum_by-cons}
use Rattle.dbp_plan.specs.declared.plan.Plan.{Plan}
use Rattle.dbp_plan.specs.declared.schedule.Batch.{Batch}
use Rattle.dbp_plan.specs.Lookups.{declared_task}
use Rattle.dbp_plan.specs.Occurrences.{names, occurrence_count}
use Rattle.rank_order.specs.Instances.{Instance}
use Rattle.rank_order.specs.Service.{GoesBefore, IsFirst}
use Rattle.rank_order.proofs.Jump.{IsQuiet}
use Rattle.dbp_rules.specs.declared.step.Count.TheVariants.{All}
use Rattle.instance_steps.specs.Events.{Event, batch_events}
use Rattle.instance_steps.specs.Recorders.{AddsSteps, plan_in, state_in, table_in}
use Rattle.instance_steps.specs.Releases.{HasEnded, ReleasesBatch, batch_at, no_batch}
use Rattle.virtual_time.specs.Budgets.{step_bound}
use Rattle.virtual_time.specs.Recordings.{IsRecorded, place_of}
use Rattle.virtual_time.specs.Runs.{IsRun}
use Rattle.virtual_time.specs.State.{NoBatchBefore, Renewed}
use Rattle.virtual_time.proofs.Budgets.{bound_all, length-batch, same_steps}
use Rattle.virtual_time.proofs.Recordings.{adds_batch, has_ended}
use Rattle.virtual_time.proofs.Steps.{busy_count_none, quiet, waits_is}
use Rattle.virtual_time.proofs.Whole.{named_there}
use Rattle.cpu_sim.specs.Choices.{all_cpus_at}
use Rattle.cpu_sim.specs.Processors.{MayBeServed, served_on}
use Rattle.cpu_sim.specs.Record.{cpu_count, events_so_far}
use Rattle.cpu_sim.specs.Services.{services}
use Rattle.cpu_sim.specs.Simulations.{IsSimulation}
use Rattle.cpu_sim.specs.declared.simulation.Simulation.{Simulation}
use Rattle.cpu_sim.proofs.ProcessorJump.{RunsFor}
use Rattle.cpu_sim.proofs.RecordTicks.{idle_made, one_batch_more}
use Rattle.cpu_sim.proofs.SomeServiceOn.{services-are}

-- ---- none serves

pub idles : (p : Plan) (s s' : Simulation) → IsSimulation p s → (limit : ℕ) → NoBatchBefore p s.run.released limit → s.run.time < limit → ((i : ℕ) → i < length p.diagram.tasks → get_or s.run.rest.items i 0 ≡ 0)
    → IsRun p (all_cpus_at p s'.run.time) s'.run → s'.run.time ≡ limit → s'.run.released ≡ s.run.released → s'.run.rest ≡ s.run.rest → s'.run.ends ≡ s.run.ends → s'.recorder ≡ s.recorder → IsSimulation p s'
idles p s s' h limit until ahead idle run time released rest ends recorder =
    let d : ℕ = limit - s.run.time in
    let reach : limit ≡ s.run.time + d = omega (arith, ahead) in
    let until' : NoBatchBefore p s.run.released (s.run.time + d) = subst (λ (t : ℕ). NoBatchBefore p s.run.released t) reach until in
    let quiet' : IsQuiet p s.run.time d = quiet p (λ j. (declared_task p j).cpu) (services p) s.run.released (λ c. s.run.time) s.run.rest.items s.run.ends h.run.at (s.run.time + d) until' 0 d (omega arith) in
    let none : (c : ℕ) → services p c s.run.time ≡ None = λ c. go c (services p c s.run.time) refl in
    let runs : (c : ℕ) (x : Instance) → services p c s.run.time ≡ Some x → RunsFor p x.task (served_on p (services p) s.run.time x) d = λ c x is. let z : None ≡ Some x = sym (none c) ∙ is in absurd (cc) in
    let events : events_so_far p (services p) cpu_count s.run.released 0 s'.run.time ≡ events_so_far p (services p) cpu_count s.run.released 0 s.run.time =
    ap (events_so_far p (services p) cpu_count s.run.released 0) (time ∙ reach)
    ∙ idle_made p (services p) (services-are p) s.run.released s.run.time d (omega (arith, ahead)) (h.run.at.early 0) until'.later quiet' runs none in
    record {
      run = run;
      recorded = rw (released, rest, ends, recorder, events) h.recorded;
      few = rw (released, rest, ends, events) h.few;
    }
  where
    go : (c : ℕ) (o : Option Instance) → services p c s.run.time ≡ o → services p c s.run.time ≡ None
    go c None is = is
    go c (Some x) is =
        let first : IsFirst (GoesBefore p) (MayBeServed p (services p) c s.run.time) (Some x) = subst (IsFirst (GoesBefore p) (MayBeServed p (services p) c s.run.time)) is ((services-are p).each c s.run.time) in
        let w = waits_is p (λ j. (declared_task p j).cpu) (services p) s.run.released (λ k. s.run.time) s.run.rest.items s.run.ends h.run.at limit until x ahead first.0.waits in
        let z = idle x.task first.0.waits.instance.task in
        absurd (omega (arith, w.0, z))

-- ---- a batch

pub batch_ended : (p : Plan) (s : Simulation) → IsSimulation p s → s.run.released < length p.batches → ((i : ℕ) → names i (batch_at p s.run.released) ≡ true → get_or s.run.rest.items i 0 ≡ 0) → HasEnded (state_in s.recorder) (batch_at p s.run.released)
batch_ended p s h more free =
    has_ended p All s.recorder s.run.released (events_so_far p (services p) cpu_count s.run.released 0 s.run.time) (λ i. place_of p i (get_or s.run.rest.items i 0)) s.run.ends h.recorded (λ i named.
    let il = named_there p s.run.released more i named in
    let count = h.run.at.counts i il in
    let none = busy_count_none (get_or s.run.rest.items i 0) (free i named) in
    (il, omega (arith, count, none)))

-- ---- a batch is released

pub renews : (p : Plan) (s s' : Simulation) → IsSimulation p s → s.run.released < length p.batches → s.run.time ≡ (batch_at p s.run.released).time
    → ((i : ℕ) → names i (batch_at p s.run.released) ≡ true → get_or s.run.rest.items i 0 ≡ 0)
    → IsRun p (all_cpus_at p s'.run.time) s'.run → s'.run.time ≡ s.run.time → s'.run.released ≡ s.run.released + 1 → Renewed p (batch_at p s.run.released) s.run.rest.items s'.run.rest.items → s'.run.ends ≡ s.run.ends
    → AddsSteps s.recorder s'.recorder (batch_events (plan_in s.recorder) (batch_at (plan_in s.recorder) s.run.released))
    → ReleasesBatch (plan_in s.recorder) (state_in s.recorder) (state_in s'.recorder) s.run.released (batch_at (plan_in s.recorder) s.run.released) → table_in s'.recorder ≡ table_in s.recorder → IsSimulation p s'
renews p s s' h more due free run time released renewed ends adds releases table =
    let adds' : AddsSteps s.recorder s'.recorder (batch_events p (batch_at p s.run.released)) = subst (λ (q : Plan). AddsSteps s.recorder s'.recorder (batch_events q (batch_at q s.run.released))) h.recorded.plan adds in
    let releases' : ReleasesBatch p (state_in s.recorder) (state_in s'.recorder) s.run.released (batch_at p s.run.released) =
    subst (λ (q : Plan). ReleasesBatch q (state_in s.recorder) (state_in s'.recorder) s.run.released (batch_at q s.run.released)) h.recorded.plan releases in
    let events : events_so_far p (services p) cpu_count (s.run.released + 1) 0 s.run.time ≡ events_so_far p (services p) cpu_count s.run.released 0 s.run.time ++ batch_events p (batch_at p s.run.released) =
    one_batch_more p (services p) cpu_count s.run.released s.run.time no_batch more (sym due) in
    let after = adds_batch p All s.recorder s'.recorder s.run.released (events_so_far p (services p) cpu_count s.run.released 0 s.run.time) s.run.rest.items s'.run.rest.items s.run.ends h.recorded adds' releases' table renewed free in
    record {
      run = run;
      recorded = rw (released, time, ends) (subst (λ (l : List Event). IsRecorded p All (s.run.released + 1) l (λ i. place_of p i (get_or s'.run.rest.items i 0)) s.run.ends s'.recorder) (sym events) after);
      few =
          let bounds = same_steps p s.run.rest.items s'.run.rest.items s.run.ends (length p.diagram.tasks) (λ j. ⊎_elim
          (λ (e : names j (batch_at p s.run.released) ≡ true). ap (step_bound p j) (renewed.named j e) ∙ bound_all p j ∙ sym (ap (step_bound p j) (free j e)))
          (λ (e : names j (batch_at p s.run.released) ≡ false). ap (step_bound p j) (renewed.others j e))
          (cases_Bool (names j (batch_at p s.run.released)))) in
          let batch = length-batch p (batch_at p s.run.released) in
          let occurrences = ap occurrence_count (take_more p.batches s.run.released no_batch more) ∙ sum_by-append (λ (a : Batch). length a.tasks) (take s.run.released p.batches) (batch_at p s.run.released ∷ []) in
          let long = ap length events in
          let one = length-append (events_so_far p (services p) cpu_count s.run.released 0 s.run.time) (batch_events p (batch_at p s.run.released)) in
          let last = sum_by-cons (λ (a : Batch). length a.tasks) (batch_at p s.run.released) [] in
          rw (released, time, ends) (omega (arith, h.few, bounds, batch, occurrences, long, one, last));
    }
