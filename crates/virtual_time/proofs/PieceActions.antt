-- Neither an end nor a service has an action of the releaser among its events.
use Rattle.std.specs.Prelude.{◌==◌}
use Rattle.std.proofs.Common.{◌≡◌, ℕ, List, Option, Some, None, inl, inr, refl, arith}
use Rattle.std.proofs.lemmas.Bool.{cases_Bool}
use Rattle.dbp_plan.specs.declared.plan.Plan.{Plan}
use Rattle.rank_order.specs.Instances.{Instance}
use Rattle.rank_order.specs.Service.{left_of, served_ticks}
use Rattle.instance_steps.specs.Events.{Event, read_events}
use Rattle.instance_steps.proofs.ReleasedPlaces.{actions, actions-append, begin_actions, end_actions, read_actions}
use Rattle.virtual_time.specs.Pieces.{begin_events_at, end_events_of, service_events_of}

module _ (p : Plan) (serve : ℕ → Option Instance) where
  pub end_none : (o : Option Instance) (t : ℕ) → actions (end_events_of p serve o t) ≡ 0
  end_none None t = refl
  end_none (Some x) t = elim (cases_Bool (left_of p serve x t == 0)) [
    | inl done ↦ rw done (end_actions p x.task)
    | inr left ↦ rw left refl
  ]

  pub service_none : (o : Option Instance) (t : ℕ) → actions (service_events_of p serve o t) ≡ 0
  service_none None t = refl
  service_none (Some x) t =
      let begins : List Event = begin_events_at p x.task (served_ticks serve x t) in
      let reads : List Event = read_events p x.task (served_ticks serve x t) in
      let first : actions begins ≡ 0 = elim (cases_Bool (served_ticks serve x t == 0)) [
        | inl new ↦ rw new (begin_actions p x.task)
        | inr old ↦ rw old refl
      ] in
      omega (arith, first, read_actions p x.task (served_ticks serve x t), actions-append begins reads)
