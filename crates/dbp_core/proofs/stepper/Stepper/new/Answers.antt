use Rattle.std.proofs.Common.{◌≡◌, sym, subst, ap, ◌∙◌}
use Rattle.dbp_plan.specs.declared.plan.Plan.{Plan}
use Rattle.dbp_rules.specs.Listing.{with_releases, without_releases}
use Rattle.dbp_rules.specs.Shapes.{IsWired}
use Rattle.dbp_rules.specs.Start.{start_of}
use Rattle.dbp_rules.specs.Wired.{wiring_of}
use Rattle.dbp_rules.specs.declared.state.State.{State}
use Rattle.dbp_rules.specs.declared.step.Count.{Count}
use Rattle.dbp_rules.specs.declared.wiring.Wiring.{Wiring}
use Rattle.dbp_rules.proofs.SoundStart.{first_sound}
use Rattle.dbp_rules.proofs.StartShape.{start_shape}
use Rattle.dbp_rules.proofs.Wirings.{wiring-whole}
use Rattle.dbp_core.proofs.stepper.Stepper.new.Goals as goal

-- what is made of the plan that is lent is made of the shared one
wiring_is : (p lent : Plan) (count : Count) (w : Wiring) → lent ≡ p → w ≡ without_releases (wiring_of lent count) → with_releases p w ≡ wiring_of p count
wiring_is p lent count w same is = ap (with_releases p) (is ∙ ap (λ (q : Plan). without_releases (wiring_of q count)) same)

state_is : (p lent : Plan) (count : Count) (w : Wiring) (s : State) → lent ≡ p → with_releases p w ≡ wiring_of p count → s ≡ start_of lent w → s ≡ start_of p (wiring_of p count)
state_is p lent count w s same wired is = is ∙ ap (λ (q : Plan). start_of q w) same ∙ ap (start_of p) wired

pub start_state-requires : goal.start_state-requires
start_state-requires c =
    let lent = c.deref-2.result.now in
    let wired = wiring_is lent _ c.args.count c.in_ok-wiring.wiring (c.deref.ensures ∙ sym c.deref-2.ensures) c.in_ok-wiring.ensures in
    subst (λ (w : Wiring). IsWired lent w) (sym wired) (wiring-whole lent c.args.count)

pub returns-clause-start : goal.returns-clause-start
returns-clause-start c =
    let wired = wiring_is c.args.plan.value _ c.args.count c.in_ok-wiring.wiring c.deref.ensures c.in_ok-wiring.ensures in
    state_is c.args.plan.value _ c.args.count c.in_ok-wiring.wiring c.in_ok-state.state c.deref-2.ensures wired c.in_ok-state.ensures

pub invariant_of-result-clause-wired : goal.invariant_of-result-clause-wired
invariant_of-result-clause-wired c =
    let wired = wiring_is c.args.plan.value _ c.args.count c.in_ok-wiring.wiring c.deref.ensures c.in_ok-wiring.ensures in
    wired ∙ ap (λ (n : Count). wiring_of c.args.plan.value n) (sym (ap (λ (w : Wiring). w.count) wired))

pub invariant_of-result-clause-shape : goal.invariant_of-result-clause-shape
invariant_of-result-clause-shape c =
    let wired = wiring_is c.args.plan.value _ c.args.count c.in_ok-wiring.wiring c.deref.ensures c.in_ok-wiring.ensures in
    let state = state_is c.args.plan.value _ c.args.count c.in_ok-wiring.wiring c.in_ok-state.state c.deref-2.ensures wired c.in_ok-state.ensures in
    rw (state, wired) (start_shape c.args.plan.value (wiring_of c.args.plan.value c.args.count) (wiring-whole c.args.plan.value c.args.count))

pub invariant_of-result-clause-sound : goal.invariant_of-result-clause-sound
invariant_of-result-clause-sound c =
    let wired = wiring_is c.args.plan.value _ c.args.count c.in_ok-wiring.wiring c.deref.ensures c.in_ok-wiring.ensures in
    let state = state_is c.args.plan.value _ c.args.count c.in_ok-wiring.wiring c.in_ok-state.state c.deref-2.ensures wired c.in_ok-state.ensures in
    rw (state, wired) (∣ first_sound c.args.plan.value c.args.count ∣₁)
