use Rattle.std.proofs.Common.{◌≡◌, length, sym, subst, arith}
use Rattle.dbp_rules.specs.Lookups.{entry_in, wired_task}
use Rattle.dbp_rules.specs.Promises.{HasFreeSlotIn}
use Rattle.dbp_rules.specs.declared.step.Count.TheVariants.{All}
use Rattle.dbp_rules.specs.declared.wiring.Wiring.{Wiring}
use Rattle.dbp_rules.proofs.FreeAims.{has_free_slot}
use Rattle.dbp_rules.proofs.Parties.{links_fit}
use Rattle.release_book.proofs.BookSteps.{wired_whole}
use Rattle.release_book.proofs.NextSteps.{aim_there}
use Rattle.release_book.proofs.next.at_aim.Goals as goal

pub entry-entry-requires : goal.entry-entry-requires
entry-entry-requires c =
    let whole = wired_whole c.args.plan.now c.args.wiring.now c.requires.wired in
    omega (arith, aim_there c.args.plan.now c.args.wiring.now whole c.args.part.now c.requires.shape c.args.task c.requires.next, c.requires.shape.entries)

pub least_aim-slot-requires-clause-task : goal.least_aim-slot-requires-clause-task
least_aim-slot-requires-clause-task c =
    let whole = wired_whole c.args.plan.now c.args.wiring.now c.requires.wired in
    aim_there c.args.plan.now c.args.wiring.now whole c.args.part.now c.requires.shape c.args.task c.requires.next

pub least_aim-slot-requires-clause-links : goal.least_aim-slot-requires-clause-links
least_aim-slot-requires-clause-links c = links_fit c.args.plan.now c.args.wiring.now (wired_whole c.args.plan.now c.args.wiring.now c.requires.wired)

pub least_aim-slot-requires-clause-room : goal.least_aim-slot-requires-clause-room
least_aim-slot-requires-clause-room c =
    let plan = c.args.plan.now in
    let part = c.args.part.now in
    let whole = wired_whole plan c.args.wiring.now c.requires.wired in
    let inside = aim_there plan c.args.wiring.now whole part c.requires.shape c.args.task c.requires.next in
    let kept = (c.requires.shape.each_entry c.args.task inside).kept in
    subst (λ (w : Wiring). HasFreeSlotIn w part c.args.task) (sym c.requires.wired)
    (has_free_slot plan All part c.args.task (omega (arith, inside, whole.tasks))
    (subst (λ (w : Wiring). length (entry_in part c.args.task).kept ≡ (wired_task w c.args.task).kept) c.requires.wired kept))
