use Rattle.std.proofs.Common.{◌≡◌, length, sym, subst, ap, arith}
use Rattle.dbp_rules.specs.Lookups.{task_entry, wired_task}
use Rattle.dbp_rules.specs.Promises.{HasFreeSlot}
use Rattle.dbp_rules.specs.declared.wiring.Wiring.{Wiring}
use Rattle.dbp_rules.specs.Listing.{with_releases}
use Rattle.dbp_rules.proofs.FreeAims.{exact_aim, has_free_slot}
use Rattle.dbp_core.proofs.stepper.Stepper.least_aim.Goals as goal

pub least_free-requires-clause-task : goal.least_free-requires-clause-task
least_free-requires-clause-task c =
    let named = (c.args.self.now.shape.wiring.releases.at_aim c.args.self.now.state.releaser.place c.args.task c.requires.next).named in
    omega (arith, named, c.args.self.now.shape.wiring.tasks)

pub least_free-requires-clause-few : goal.least_free-requires-clause-few
least_free-requires-clause-few c = omega (arith, ap length c.args.self.now.shape.wiring.links, c.args.self.now.plan.value.rules.ranked.closed.links)

pub least_free-requires-clause-room : goal.least_free-requires-clause-room
least_free-requires-clause-room c =
    let core = c.args.self.now in
    let task = c.args.task in
    let named = (core.shape.wiring.releases.at_aim core.state.releaser.place task c.requires.next).named in
    let kept = (core.shape.each_entry task (omega (arith, named, core.shape.wiring.tasks))).kept in
    subst (λ (w : Wiring). HasFreeSlot w core.state task) (sym core.wired)
    (has_free_slot core.plan.value core.wiring.count core.state.releaser task named (subst (λ (w : Wiring). length (task_entry core.state task).kept ≡ (wired_task w task).kept) core.wired kept))

pub returns : goal.returns
returns c =
    let core = c.args.self.now in
    exact_aim (with_releases core.plan.value core.wiring) core.state.releaser c.args.task c.least_free.result c.requires.next c.requires.ended c.least_free.ensures
