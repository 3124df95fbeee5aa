use Rattle.std.proofs.Common.{◌≡◌, sym, subst, ap, ◌∙◌}
use Rattle.dbp_plan.specs.declared.plan.Plan.{Plan}
use Rattle.dbp_rules.specs.Start.{start_of}
use Rattle.dbp_rules.specs.Wired.{wiring_of}
use Rattle.dbp_rules.specs.declared.state.State.{State}
use Rattle.dbp_rules.specs.declared.step.Count.{Count}
use Rattle.dbp_rules.specs.declared.wiring.Wiring.{Wiring}
use Rattle.dbp_rules.proofs.SoundStart.{first_sound}
use Rattle.dbp_rules.proofs.StartShape.{start_shape}
use Rattle.dbp_rules.proofs.Wirings.{wiring-whole}
use Rattle.dbp_core.specs.Unfinished.{HasUnfinished}
use Rattle.dbp_core.proofs.RankMasks.{start_unfinished}
use Rattle.dbp_core.proofs.machine.Core.of_shared.Goals as goal

-- what is made of the plan that is lent is made of the shared one
wiring_is : (p lent : Plan) (count : Count) (w : Wiring) → lent ≡ p → w ≡ wiring_of lent count → w ≡ wiring_of p count
wiring_is p lent count w same is = is ∙ ap (λ (q : Plan). wiring_of q count) same

state_is : (p lent : Plan) (count : Count) (w : Wiring) (s : State) → lent ≡ p → w ≡ wiring_of p count → s ≡ start_of lent w → s ≡ start_of p (wiring_of p count)
state_is p lent count w s same wired is = is ∙ ap (λ (q : Plan). start_of q w) same ∙ ap (start_of p) wired

pub invariant_of-result-clause-wired : goal.invariant_of-result-clause-wired
invariant_of-result-clause-wired c =
    let wired = wiring_is c.args.plan.value _ c.args.count c.in_ok-wiring.wiring c.deref.ensures c.in_ok-wiring.ensures.wiring in
    wired ∙ ap (λ (n : Count). wiring_of c.args.plan.value n) (sym (ap (λ (w : Wiring). w.count) wired))

pub invariant_of-result-clause-shape : goal.invariant_of-result-clause-shape
invariant_of-result-clause-shape c =
    let wired = wiring_is c.args.plan.value _ c.args.count c.in_ok-wiring.wiring c.deref.ensures c.in_ok-wiring.ensures.wiring in
    let state = state_is c.args.plan.value _ c.args.count c.in_ok-wiring.wiring c.in_ok-state.state c.deref-2.ensures wired c.in_ok-state.ensures in
    rw (state, wired) (start_shape c.args.plan.value (wiring_of c.args.plan.value c.args.count) (wiring-whole c.args.plan.value c.args.count))

pub invariant_of-result-clause-sound : goal.invariant_of-result-clause-sound
invariant_of-result-clause-sound c =
    let wired = wiring_is c.args.plan.value _ c.args.count c.in_ok-wiring.wiring c.deref.ensures c.in_ok-wiring.ensures.wiring in
    let state = state_is c.args.plan.value _ c.args.count c.in_ok-wiring.wiring c.in_ok-state.state c.deref-2.ensures wired c.in_ok-state.ensures in
    rw (state, wired) (∣ first_sound c.args.plan.value c.args.count ∣₁)

pub invariant_of-result-clause-ranks : goal.invariant_of-result-clause-ranks
invariant_of-result-clause-ranks c =
    let state = c.in_ok-state.ensures ∙ ap (λ (q : Plan). start_of q c.in_ok-wiring.wiring) c.deref-2.ensures in
    subst (λ (s : State). HasUnfinished c.in_ok-wiring.wiring s c.empty.result) (sym state)
    (start_unfinished c.args.plan.value c.in_ok-wiring.wiring c.empty.result (rw c.deref.ensures at c.in_ok-wiring.ensures.wired) c.empty.ensures)
