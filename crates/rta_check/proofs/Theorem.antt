-- Each plan that differs from a diagram in phase keeps the diagram's response times.
use Rattle.std.proofs.Common.{ℕ, ◌<◌, length, refl, sym, ap, ◌∙◌, arith}
use Rattle.dbp_plan.specs.declared.diagram.Diagram.{Diagram}
use Rattle.dbp_plan.specs.declared.plan.Plan.{Plan}
use Rattle.rank_order.specs.Ends.{NoOverrun}
use Rattle.dbp_plan.specs.Policies.{served_by}
use Rattle.rank_order.specs.Order.{ServesByRank}
use Rattle.rank_order.specs.Service.{left_of}
use Rattle.rank_order.specs.ServiceOf.{service}
use Rattle.rta_check.specs.Periods.{IsPeriodic}
use Rattle.rta_check.specs.Phases.{DiffersInPhase}
use Rattle.rta_check.specs.Responses.{IsResponse, KeepsBound}
use Rattle.rta_check.proofs.KeptBounds.{keeps_bound}
use Rattle.rta_check.proofs.OtherPhases.{same_count, same_policy, still_periodic, still_solves}

pub kept_in_each_phase : (d : Diagram) (p : Plan) (i r : ℕ) → ServesByRank d → IsPeriodic d → IsResponse d i r → DiffersInPhase d p.diagram → KeepsBound p i r
kept_in_each_phase d p i r ranked periodic response differs =
    let e = p.diagram in
    keeps_bound p (ap served_by (sym (same_policy d e differs)) ∙ ranked) (still_periodic d e differs periodic) i r (still_solves d e differs i r response.solves)

pub no_overrun : (d : Diagram) (p : Plan) → ServesByRank d → IsPeriodic d → ((i : ℕ) → i < length d.tasks → (r : ℕ) × IsResponse d i r) → DiffersInPhase d p.diagram
    → NoOverrun p (left_of p (service p))
no_overrun d p ranked periodic responses differs = record {
  none = λ t x late.
      let (r, response) = responses x.task (omega (arith, late.instance.task, same_count d p.diagram differs)) in
      (kept_in_each_phase d p x.task r ranked periodic response differs).none_late t x refl late;
}
