use Rattle.std.proofs.Common.{Contains, below_more, arith, inl, inr}
use Rattle.std.proofs.lemmas.Option.{slice_get_within}
use Rattle.expr_eval.specs.LetSearch.{UsesNoneOf}
use Rattle.dbp_plan.proofs.Listed.{contains_cases}
use Rattle.expr_eval.proofs.cycle.next_user.Goals as goal

pub loop-i-preserved : goal.loop-i-preserved
loop-i-preserved c =
    below_more (λ k. (Contains c.args.found.now k → ⊥) → UsesNoneOf c.args.base c.args.lets.now c.args.found.now k) c.loop-i.i c.loop-i.invariant c.if-is_new_user.ensures

pub returns : goal.returns
returns c = λ i j among used.
    elim (contains_cases c.args.found.now i) [
      | inl inside ↦ inside
      | inr outside ↦ absurd (c.loop-i.invariant i (omega (arith, slice_get_within c.args.lets.now i used.user used.is)) outside j among used)
    ]
