use Rattle.std.proofs.Common.{◌⊎◌, Contains, below_more, ap, arith}
use Rattle.dbp_slots.proofs.FreeSlots.{one_free}
use Rattle.dbp_rules.specs.PartyRules.{claimed_in, kept_after_aim}
use Rattle.dbp_rules.specs.Lookups.{entry_in, wired_task}
use Rattle.dbp_rules.specs.declared.wiring.TaskWiring.{TaskWiring}
use Rattle.dbp_rules.proofs.aiming.least_of_few.Goals as goal

pub loop-slot-preserved : goal.loop-slot-preserved
loop-slot-preserved c =
    below_more (λ s. Contains (claimed_in c.args.wiring.now c.args.part.now c.args.i) s ⊎ Contains (kept_after_aim (entry_in c.args.part.now c.args.i)) s)
    c.loop-slot.slot c.loop-slot.invariant (c.is_taken.ensures.0 c.if-not-is_taken.false)

pub unreachable-requires : goal.unreachable-requires
unreachable-requires c =
    one_free (claimed_in c.args.wiring.now c.args.part.now c.args.i) (kept_after_aim (entry_in c.args.part.now c.args.i)) (wired_task c.args.wiring.now c.args.i).slots
    c.requires.room (λ s below. c.loop-slot.invariant s (omega (arith, below, c.loop-slot-test.false, ap (λ (t : TaskWiring). t.slots) c.task.ensures)))
