-- A plan has one overrun at most.
use Rattle.std.proofs.Common.{◌≡◌, ℕ, ◌≤◌, length, sym, ap, ◌∙◌, subst, inl, inr, arith}
use Rattle.std.proofs.lemmas.Bool.{cases_lt}
use Rattle.dbp_plan.specs.declared.plan.Plan.{Plan}
use Rattle.dbp_plan.specs.Occurrences.{times_of, time_of}
use Rattle.rank_order.specs.Instances.{Instance, IsInstance, release_of}
use Rattle.rank_order.specs.Ends.{IsOverrun, Late}
use Rattle.rank_order.proofs.Choices.{same_instance}
use Rattle.rank_order.proofs.PlanNumbers.{releases-rise, one-task}

pub one_time : (p : Plan) (left : Instance → ℕ → ℕ) (t u : ℕ) (x y : Instance) → IsOverrun p left t x → IsOverrun p left u y → t ≡ u
one_time p left t u x y h k = elim (cases_lt t u) [
  | inl less ↦ absurd (k.least t x less h.late)
  | inr no_less ↦ elim (cases_lt u t) [ inl less ↦ absurd (h.least u y less k.late) | inr no_more ↦ omega (arith, no_less, no_more) ]
]

-- instances of one task that are released at one time are one
pub same_release : (p : Plan) (x y : Instance) → IsInstance p x → IsInstance p y → x.task ≡ y.task → release_of p x ≡ release_of p y → x ≡ y
same_release p x y x_is y_is task release =
    let moved : time_of p.batches x.task y.number ≡ release_of p y = ap (λ (i : ℕ). time_of p.batches i y.number) task in
    let bound : y.number ≤ length (times_of p.batches x.task) = subst (λ (i : ℕ). y.number ≤ length (times_of p.batches i)) (sym task) y_is.within in
    same_instance x y task (elim (cases_lt x.number y.number) [
      | inl less ↦ absurd (omega (arith, releases-rise p x.task x.number y.number x_is.from_one less bound, moved, release))
      | inr no_less ↦ elim (cases_lt y.number x.number) [
        | inl less ↦ absurd (omega (arith, releases-rise p x.task y.number x.number y_is.from_one less x_is.within, moved, release))
        | inr no_more ↦ omega (arith, no_less, no_more)
      ]
    ])

pub one_overrun : (p : Plan) (left : Instance → ℕ → ℕ) (t u : ℕ) (x y : Instance) → IsOverrun p left t x → IsOverrun p left u y → x ≡ y
one_overrun p left t u x y h k =
    let time : t ≡ u = one_time p left t u x y h k in
    let there : Late p left t y = subst (λ v. Late p left v y) (sym time) k.late in
    let back : Late p left u x = subst (λ v. Late p left v x) time h.late in
    let task : x.task ≡ y.task =
    one-task p.diagram p.rules.ranked x.task y.task h.late.instance.task k.late.instance.task (omega (arith, h.highest y there, k.highest x back)) in
    same_release p x y h.late.instance k.late.instance task (h.late.at ∙ sym there.at)
