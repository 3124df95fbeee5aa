-- The events so far: after one tick more, after one batch more, and with the service of the tick.
use Rattle.std.proofs.Common.{◌≡◌, ◌≢◌, ℕ, suc, ◌+◌, ◌<◌, ◌≤◌, List, ◌++◌, length, take, get_or, Option, refl, sym, ap, ◌∙◌, append_assoc}
use Rattle.dbp_plan.specs.declared.plan.Plan.{Plan}
use Rattle.dbp_plan.specs.declared.schedule.Batch.{Batch}
use Rattle.rank_order.specs.Instances.{Instance}
use Rattle.instance_steps.specs.Events.{Event, batch_events}
use Rattle.virtual_time.specs.Pieces.{release_events_at, service_events_of}
use Rattle.virtual_time.proofs.PieceEvents.{release_more, releases_so_far}
use Rattle.virtual_sim.specs.Record.{end_events_at, events_at, events_before, events_so_far}

module _ (p : Plan) (serve : ℕ → Option Instance) where
  pub next_events : (t : ℕ) → events_before p serve (suc t) ≡ events_before p serve t ++ events_at p serve t
  unfolding events_before
  next_events t = refl

  -- a batch is released
  pub one_batch_more : (b t : ℕ) (d : Batch) → b < length p.batches → (get_or p.batches b d).time ≡ t → events_so_far p serve (b + 1) t ≡ events_so_far p serve b t ++ batch_events p (get_or p.batches b d)
  one_batch_more b t d small due =
      ap (λ (l : List Event). events_before p serve t ++ (end_events_at p serve t ++ l)) (release_more p b t d small due)
      ∙ ap (λ (l : List Event). events_before p serve t ++ l) (sym (append_assoc (end_events_at p serve t) (release_events_at p (take b p.batches) t) (batch_events p (get_or p.batches b d))))
      ∙ sym (append_assoc (events_before p serve t) (end_events_at p serve t ++ release_events_at p (take b p.batches) t) (batch_events p (get_or p.batches b d)))

  -- all of a tick but its service
  pub with_service : (b t : ℕ) → ((k : ℕ) (d : Batch) → b ≤ k → k < length p.batches → (get_or p.batches k d).time ≢ t)
      → events_so_far p serve b t ++ service_events_of p serve (serve t) t ≡ events_before p serve (suc t)
  with_service b t none =
      let ends = end_events_at p serve t in
      let released = release_events_at p (take b p.batches) t in
      let steps = service_events_of p serve (serve t) t in
      append_assoc (events_before p serve t) (ends ++ released) steps
      ∙ ap (λ (l : List Event). events_before p serve t ++ l) (append_assoc ends released steps ∙ ap (λ (l : List Event). ends ++ (l ++ steps)) (sym (releases_so_far p b t none)))
      ∙ sym (next_events t)
