-- Periods of clocks.
use Rattle.std.specs.Prelude.{ℕ, Bool, true, false, IsTrue, All}
use Rattle.dbp_plan.specs.declared.diagram.Clock.{Clock}
use Rattle.dbp_plan.specs.declared.diagram.Clock.TheVariants.{Every, On}
use Rattle.dbp_plan.specs.declared.diagram.Diagram.{Diagram}

-- the period of the clock; an event has none
abbrev pub period_of : Clock → ℕ
period_of (Every period offset) = period
period_of (On event) = 0

-- whether it has one
abbrev pub is_periodic : Clock → Bool
is_periodic (Every period offset) = true
is_periodic (On event) = false

-- no task is on an event
abbrev pub IsPeriodic : Diagram → Type 0
IsPeriodic d = All (λ t. IsTrue (is_periodic t.clock)) d.tasks
