use Rattle.std.proofs.Common.{arith, Contains, below_more, ◌⊎◌, inl, inr}
use Rattle.dbp_slots.proofs.FreeSlots.{listed-Decides, unlisted, one_free}
use Rattle.dbp_slots.proofs.free.first_unlisted.Goals.{else-not-contains-via-then-not-contains+else-not-contains-2, else-not-contains-via-else-not-contains}
use Rattle.dbp_slots.proofs.free.first_unlisted.Goals as goal

pub returns-then-not-contains-2 : goal.returns-then-not-contains-2
returns-then-not-contains-2 c = record {
  below = c.loop-slot-test.true;
  unclaimed = unlisted c.args.claims.now c.loop-slot.slot-counter c.contains.result c.contains.ensures.cases c.if-not-contains.true;
  unkept = unlisted c.args.kept.now c.loop-slot.slot-counter c.contains-then-not-contains.result c.contains-then-not-contains.ensures.cases c.if-not-contains-2.true;
  least = c.loop-slot.invariant;
}

pub loop-slot-preserved : goal.loop-slot-preserved
loop-slot-preserved c =
    let claims = c.args.claims.now in
    let kept = c.args.kept.now in
    let slot = c.loop-slot.slot-counter in
    below_more (λ s. Contains claims s ⊎ Contains kept s) slot c.loop-slot.invariant
    (elim c.else-not-contains.branch [
      | else-not-contains-via-then-not-contains+else-not-contains-2 w ↦
          inr ((listed-Decides kept slot w.contains-then-not-contains.result w.contains-then-not-contains.ensures.cases).0 w.if-not-contains-2.false)
      | else-not-contains-via-else-not-contains w ↦
          inl ((listed-Decides claims slot c.contains.result c.contains.ensures.cases).0 w.if-not-contains.false)
    ])

pub unreachable-requires : goal.unreachable-requires
unreachable-requires c =
    one_free c.args.claims.now c.args.kept.now c.args.slots c.requires (λ s below. c.loop-slot.invariant s (omega arith))
