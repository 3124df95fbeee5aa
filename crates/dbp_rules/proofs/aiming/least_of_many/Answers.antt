use Rattle.std.proofs.Common.{◌≡◌, [], ◌∷◌, ◌++◌, length, ap, ◌∙◌, arith, refl}
use Rattle.dbp_rules.specs.Lookups.{entry_in, wired_task}
use Rattle.dbp_rules.specs.PartyRules.{claimed_in}
use Rattle.dbp_rules.proofs.ClaimedSlots.{free_staying}
use Rattle.dbp_rules.proofs.aiming.least_of_many.Goals as goal

pub returns-in-len1-up : goal.returns-in-len1-up
returns-in-len1-up c =
    let kept : c.items.result.now ≡ (entry_in c.args.part.now c.args.i).kept = c.items.ensures.value ∙ ap (λ e. e.kept) c.entry-entry.ensures in
    let taken : c.as_slice-in-len1-up.result.now ≡ claimed_in c.args.wiring.now c.args.part.now c.args.i ++ (entry_in c.args.part.now c.args.i).current ∷ [] =
    c.as_slice-in-len1-up.ensures.value ∙ c.push.ensures.items ∙ rw (c.claimed_slots-taken.ensures.slots, c.entry-entry.ensures) refl in
    free_staying (entry_in c.args.part.now c.args.i) (claimed_in c.args.wiring.now c.args.part.now c.args.i) (wired_task c.args.wiring.now c.args.i).slots c.free_slot-in-len1-up.result
    (omega (arith, c.in-len1-up.len_at_least, ap length kept))
    (rw (taken, kept, c.task.ensures) at c.free_slot-in-len1-up.ensures)
