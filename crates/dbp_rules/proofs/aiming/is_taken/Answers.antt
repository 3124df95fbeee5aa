use Rattle.std.proofs.Common.{◌≡◌, true, ap, sym, ◌∙◌, inl, inr}
use Rattle.dbp_rules.specs.PartyRules.{stays_kept}
use Rattle.dbp_rules.specs.Lookups.{entry_in}
use Rattle.dbp_rules.specs.declared.parts.TaskEntry.{TaskEntry}
use Rattle.dbp_rules.proofs.TakenSlots.{claims_answer, kept_answer}
use Rattle.dbp_rules.proofs.aiming.is_taken.Goals as goal

pub returns-then-stays_kept : goal.returns-then-stays_kept
returns-then-stays_kept c =
    let e = entry_in c.args.part.now c.args.i in
    let is : stays_kept e c.args.slot ≡ true = sym (ap (λ (t : TaskEntry). stays_kept t c.args.slot) c.entry.ensures) ∙ sym c.stays_kept.ensures ∙ c.if-stays_kept.true in
    (λ _. inr ((kept_answer e c.args.slot).0 is), λ _. c.if-stays_kept.true)

pub returns-else-stays_kept : goal.returns-else-stays_kept
returns-else-stays_kept c =
    let e = entry_in c.args.part.now c.args.i in
    let claims = claims_answer c.args.wiring.now c.args.part.now c.args.i c.args.slot c.claiming_link.result c.claiming_link.ensures in
    let other = c.stays_kept.ensures ∙ ap (λ (t : TaskEntry). stays_kept t c.args.slot) c.entry.ensures in (
      λ some. inl (claims.0 (sym c.is_some.ensures ∙ some)),
      λ taken. elim taken [
        | inl claimed ↦ c.is_some.ensures ∙ claims.1 claimed
        | inr keeps ↦ let stays : stays_kept e c.args.slot ≡ true = (kept_answer e c.args.slot).1 keeps in absurd (cc (stays, other, c.if-stays_kept.false))
      ],
    )
