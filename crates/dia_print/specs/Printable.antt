-- Items of a document that a text can have.
use Rattle.std.specs.Prelude.{ℕ, ◌≤◌, All, List}
use Rattle.std.specs.Option.{IfSome}
use Rattle.dbp_plan.specs.declared.expr.Expr.{Expr}
use Rattle.dbp_plan.specs.declared.limits.TheConstants.{MAX_TIME, MAX_PRIO, MAX_CPU}
use Rattle.dbp_plan.specs.Limits.{max_delay}
use Rattle.dia_exprs.specs.Printable.{IsPrintableNode}
use Rattle.dia_tokens.specs.Printable.{IsPrintableName, IsPrintableNumber}
use Rattle.dia_lines.specs.declared.item.Decl.{Decl}
use Rattle.dia_lines.specs.declared.item.Decl.TheVariants.{Input, Event}
use Rattle.dia_lines.specs.declared.item.Part.{Part}
use Rattle.dia_lines.specs.declared.item.Part.TheVariants as part
use Rattle.dia_lines.specs.declared.item.RawClock.{RawClock}
use Rattle.dia_lines.specs.declared.item.RawClock.TheVariants.{Every, On}
use Rattle.dia_lines.specs.declared.item.TaskLine.{TaskLine}

-- each number and each name of the expression can be printed
abbrev pub IsPrintableExpr : Expr (List ℕ) → Type 0
IsPrintableExpr e = All IsPrintableNode e.nodes

abbrev pub IsPrintableDecl : Decl → Type 0
IsPrintableDecl (Input n v) = IsPrintableName n × IsPrintableNumber v
IsPrintableDecl (Event n) = IsPrintableName n

abbrev pub IsPrintableClock : RawClock → Type 0
IsPrintableClock (Every period offset) = (1 ≤ period) × (period ≤ MAX_TIME) × (offset ≤ MAX_TIME)
IsPrintableClock (On n) = IsPrintableName n

abbrev pub IsPrintablePart : Part → Type 0
IsPrintablePart (part.State n v) = IsPrintableName n × IsPrintableNumber v
IsPrintablePart (part.Sense n i) = IsPrintableName n × IsPrintableName i
IsPrintablePart (part.Read n d w p a) = IsPrintableName n × (d ≤ max_delay) × IsPrintableName w × IsPrintableName p × (a ≤ MAX_TIME)
IsPrintablePart (part.Let n e) = IsPrintableName n × IsPrintableExpr e
IsPrintablePart (part.Next n e) = IsPrintableName n × IsPrintableExpr e
IsPrintablePart (part.Out n v e) = IsPrintableName n × IsPrintableNumber v × IsPrintableExpr e

pub record IsPrintableTaskLine (t : TaskLine) : Type 0 where
  pub named : IsPrintableName t.name
  pub clock : IsPrintableClock t.clock
  pub when : IfSome t.when IsPrintableName
  pub prio : IfSome t.prio (λ p. p ≤ MAX_PRIO)
  pub deadline : IfSome t.deadline (λ d. (1 ≤ d) × (d ≤ MAX_TIME))
  pub cost : (1 ≤ t.cost) × (t.cost ≤ MAX_TIME)
  pub cpu : t.cpu ≤ MAX_CPU
