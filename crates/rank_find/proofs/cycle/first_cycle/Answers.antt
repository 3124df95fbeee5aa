use Rattle.std.proofs.Common.{ℕ, arith, below_more}
use Rattle.std.proofs.lemmas.Option.{MatchOption-at_none, MatchOption-at_some}
use Rattle.dbp_plan.specs.Cycles.{LiesOnCycle}
use Rattle.rank_find.specs.FirstCycles.{IsFirstCycleFrom}
use Rattle.rank_find.specs.Links.{IsWriter}
use Rattle.rank_find.proofs.cycle.first_cycle.Goals as goal

pub returns-in-Some : goal.returns-in-Some
returns-in-Some c =
    let R : ℕ → ℕ → Type 0 = IsWriter c.args.writers.now in
    let start : ℕ = c.loop-start.start in
    let from = MatchOption-at_some (LiesOnCycle R start → ⊥) (IsFirstCycleFrom R start) c.in-Some.cycle c.in-Some.is c.in_ok-cycle.ensures in
    (start, record { from = from; earliest = c.loop-start.invariant })

pub loop-start-preserved : goal.loop-start-preserved
loop-start-preserved c =
    let R : ℕ → ℕ → Type 0 = IsWriter c.args.writers.now in
    let start : ℕ = c.loop-start.start in
    below_more (λ i. LiesOnCycle R i → ⊥) start c.loop-start.invariant
    (MatchOption-at_none (LiesOnCycle R start → ⊥) (IsFirstCycleFrom R start) c.in_default.is c.in_ok-cycle.ensures)

pub returns : goal.returns
returns c = λ i below. c.loop-start.invariant i (omega arith)
