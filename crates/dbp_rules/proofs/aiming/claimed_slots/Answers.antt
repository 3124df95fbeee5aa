use Rattle.std.proofs.Common.{◌≡◌, ◌<◌, [], ◌∷◌, ◌++◌, length, take, ap, sym, ◌∙◌, arith}
use Rattle.std.proofs.lemmas.List.{length-take-le, take_all}
use Rattle.dbp_rules.specs.Wired.{links_at}
use Rattle.dbp_rules.specs.declared.parts.LinkEntry.{LinkEntry}
use Rattle.dbp_rules.specs.declared.wiring.LinkEnd.TheVariants.{Writer}
use Rattle.dbp_rules.proofs.IntoTask.{leaving_below}
use Rattle.dbp_rules.proofs.ClaimedSlots.{all_claimed, claimed_few, claimed_more, claimed_over, leaving_few, leaving_is, unclaimed_more}
use Rattle.dbp_rules.proofs.aiming.claimed_slots.Goals.{then-has_claim, else-has_claim}
use Rattle.dbp_rules.proofs.aiming.claimed_slots.Goals as goal

pub has_claim-requires-clause-link : goal.has_claim-requires-clause-link
has_claim-requires-clause-link c =
    let is : c.items-k-items.result.now ≡ links_at Writer c.args.wiring.now.links c.args.i =
    leaving_is c.args.wiring.now c.args.i c.task.result.now c.items-k-items.result.now c.requires.links c.requires.task c.items-k-items.ensures.value c.task.ensures in
    leaving_below c.args.wiring.now c.args.i c.loop-k.k-index c.items-k-items.result.now is c.loop-k-test.true

pub claim_over-requires : goal.claim_over-requires
claim_over-requires c =
    let is : c.items-k-items.result.now ≡ links_at Writer c.args.wiring.now.links c.args.i =
    leaving_is c.args.wiring.now c.args.i c.task.result.now c.items-k-items.result.now c.requires.links c.requires.task c.items-k-items.ensures.value c.task.ensures in
    omega (arith, leaving_below c.args.wiring.now c.args.i c.loop-k.k-index c.items-k-items.result.now is c.loop-k-test.true, c.requires.claims)

pub push-requires : goal.push-requires
push-requires c =
    let items = c.items-k-items.result.now in
    let is : c.items-k-items.result.now ≡ links_at Writer c.args.wiring.now.links c.args.i =
    leaving_is c.args.wiring.now c.args.i c.task.result.now c.items-k-items.result.now c.requires.links c.requires.task c.items-k-items.ensures.value c.task.ensures in
    let few = leaving_few c.args.wiring.now c.args.i c.items-k-items.result.now is in
    let size = claimed_few c.args.wiring.now c.args.part.now c.args.i (take c.loop-k.k-index c.items-k-items.result.now) in
    let front = length-take-le c.loop-k.k-index c.items-k-items.result.now (omega (arith, c.loop-k-test.true)) in
    let below : length c.loop-k.claimed.items < 129 = omega (arith, ap length c.loop-k.invariant, size, front, few, c.requires.few, c.loop-k-test.true) in
    (omega arith, below)

pub loop-k-preserved : goal.loop-k-preserved
loop-k-preserved c =
    elim c.if-has_claim.branch [
      | then-has_claim b ↦
          ap (λ v. v.items) b.claimed-is ∙ b.push.ensures.items ∙ ap (λ xs. xs ++ b.claim_over.result.slot ∷ []) c.loop-k.invariant
          ∙ ap (λ (e : LinkEntry). claimed_over c.args.wiring.now c.args.part.now c.args.i (take c.loop-k.k-index c.items-k-items.result.now) ++ e.slot ∷ []) b.claim_over.ensures
          ∙ sym (claimed_more c.args.wiring.now c.args.part.now c.args.i c.loop-k.k-index c.items-k-items.result.now c.loop-k-test.true (sym c.has_claim.ensures ∙ b.if-has_claim.true))
      | else-has_claim b ↦
          ap (λ v. v.items) b.claimed-is ∙ c.loop-k.invariant
          ∙ sym (unclaimed_more c.args.wiring.now c.args.part.now c.args.i c.loop-k.k-index c.items-k-items.result.now c.loop-k-test.true (sym c.has_claim.ensures ∙ b.if-has_claim.false))
    ]

pub returns-clause-slots : goal.returns-clause-slots
returns-clause-slots c =
    let is : c.items-k-items.result.now ≡ links_at Writer c.args.wiring.now.links c.args.i =
    leaving_is c.args.wiring.now c.args.i c.task.result.now c.items-k-items.result.now c.requires.links c.requires.task c.items-k-items.ensures.value c.task.ensures in
    c.loop-k.invariant ∙ ap (claimed_over c.args.wiring.now c.args.part.now c.args.i) (take_all c.loop-k.k-index c.items-k-items.result.now (omega arith))
    ∙ all_claimed c.args.wiring.now c.args.part.now c.args.i c.items-k-items.result.now is

pub returns-clause-few : goal.returns-clause-few
returns-clause-few c =
    let is : c.items-k-items.result.now ≡ links_at Writer c.args.wiring.now.links c.args.i =
    leaving_is c.args.wiring.now c.args.i c.task.result.now c.items-k-items.result.now c.requires.links c.requires.task c.items-k-items.ensures.value c.task.ensures in
    let few = leaving_few c.args.wiring.now c.args.i c.items-k-items.result.now is in
    let size = claimed_few c.args.wiring.now c.args.part.now c.args.i (take c.loop-k.k-index c.items-k-items.result.now) in
    let front = ap length (take_all c.loop-k.k-index c.items-k-items.result.now (omega arith)) in
    omega (arith, ap length c.loop-k.invariant, size, front, few, c.requires.few)
