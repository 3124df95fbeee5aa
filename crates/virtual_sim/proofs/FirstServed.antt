-- The queue's first instance is served on the one processor.
use Rattle.std.specs.Prelude.{IsTrue}
use Rattle.std.proofs.Common.{◌≡◌, ℕ, ◌+◌, ◌<◌, ◌≤◌, length, get_or, set, sum, Some, refl, sym, ap, ◌∙◌, subst, inl, inr, ⊎_elim, arith}
use Rattle.dbp_plan.specs.declared.plan.Plan.{Plan}
use Rattle.rank_order.specs.Instances.{Instance, release_of}
use Rattle.rank_order.specs.Order.{goes_before}
use Rattle.rank_order.specs.Queue.{Holds, IsServedFirst}
use Rattle.rank_order.specs.Service.{GoesBefore, IsFirst, Waits, left_of}
use Rattle.rank_order.specs.ServiceOf.{service}
use Rattle.rank_order.proofs.Choices.{same_instance}
use Rattle.rank_order.proofs.Jump.{runs}
use Rattle.rank_order.proofs.SomeService.{service_is}
use Rattle.virtual_time.specs.Runs.{IsRun, IsServedFor, latest}
use Rattle.virtual_time.specs.State.{GoesOn, NoBatchBefore, instance, release_count}
use Rattle.virtual_time.specs.declared.run.Run.{Run}
use Rattle.virtual_time.proofs.Running.{less_left}
use Rattle.virtual_time.proofs.Steps.{quiet, waits_from, waits_is}
use Rattle.virtual_sim.specs.Simulations.{one_processor}

-- the one processor goes on
pub all_go_on : (t d : ℕ) → GoesOn (λ i. 0) 0 d (λ c. t) (λ c. t + d)
all_go_on t d = record { own = refl; others = λ i apart. absurd (apart refl); up = λ k. omega arith }

module _ (P : Plan) (r : Run) (run : IsRun P (one_processor P r.time) r) (i : ℕ) (first : IsServedFirst r.ready i) where
  pub first_small : i < length P.diagram.tasks
  first_small = ((run.tracks.held i first.release).0 first.held).0

  pub first_some : 0 < get_or r.rest.items i 0
  first_some = ((run.tracks.held i first.release).0 first.held).1

  first_at : first.release ≡ release_of P (instance i (release_count P.batches r.released i))
  first_at = ((run.tracks.held i first.release).0 first.held).2

  -- the queue's choice is that of the definition
  pub is_choice : (limit : ℕ) → NoBatchBefore P r.released limit → r.time < limit → IsFirst (GoesBefore P) (Waits P (left_of P (service P)) r.time) (Some (instance i (release_count P.batches r.released i)))
  is_choice limit until lt = (
    waits_from P (λ k. 0) (λ c. service P) r.released (λ c. r.time) r.rest.items r.ends run.at i first_small first_some,
    λ y w.
        let is = waits_is P (λ k. 0) (λ c. service P) r.released (λ c. r.time) r.rest.items r.ends run.at limit until y lt w in
        let same : y ≡ instance y.task (release_count P.batches r.released y.task) = same_instance y (instance y.task (release_count P.batches r.released y.task)) refl is.1 in
        let a : ℕ = release_of P (instance y.task (release_count P.batches r.released y.task)) in
        let held : Holds r.ready y.task a = (run.tracks.held y.task a).1 (w.instance.task, is.0, refl) in
        ⊎_elim
        (λ (e : y.task ≡ i). inl (same ∙ ap (λ (j : ℕ). instance j (release_count P.batches r.released j)) e))
        (λ (h : IsTrue (goes_before P.diagram i first.release y.task a)).
        inr (subst (λ (z : Instance). GoesBefore P (instance i (release_count P.batches r.released i)) z) (sym same)
        (subst (λ (c : ℕ). IsTrue (goes_before P.diagram i c y.task a)) first_at h)))
        (first.others P.diagram y.task a run.tracks.made held),
  )

  -- so it is served until its end or until the next batch
  pub served_for : (d : ℕ) → NoBatchBefore P r.released (r.time + d) → 0 < d → d ≤ get_or r.rest.items i 0 → IsServedFor P (one_processor P r.time) r i d
  served_for d until some fits =
      let u = run.at.under i first_small first_some in
      runs P (service P) (service_is P) r.time d (quiet P (λ k. 0) (λ c. service P) r.released (λ c. r.time) r.rest.items r.ends run.at (r.time + d) until 0 d (omega arith))
      (instance i (release_count P.batches r.released i)) (is_choice (r.time + d) until (omega (arith, some))) (omega (arith, fits, u)) d (omega arith)

  -- after this, with so much left, the time of the run may go on
  pub may_advance : (r' : Run) (d v : ℕ) → NoBatchBefore P r.released (r.time + d) → v + d ≤ get_or r.rest.items i 0
      → r'.time ≡ r.time → r'.released ≡ r.released → r'.rest.items ≡ set r.rest.items i v → IsRun P (one_processor P (r.time + d)) r'
      → IsRun P (one_processor P (r'.time + d)) r' × (NoBatchBefore P r'.released (r'.time + d) × (r'.time + d + sum r'.rest.items ≤ latest r'.released))
  may_advance r' d v until fits time released rest run' = (
    subst (λ (t : ℕ). IsRun P (one_processor P (t + d)) r') (sym time) run',
    (
      rw (released, time) until,
      rw (released, time, rest) (less_left P (one_processor P r.time) r run i d v first_small fits),
    ),
  )
