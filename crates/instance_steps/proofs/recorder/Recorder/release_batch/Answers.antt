use Rattle.std.proofs.Common.{◌≡◌, ◌*◌, length, ap, arith}
use Rattle.dbp_plan.specs.declared.plan.Plan.{Plan}
use Rattle.instance_steps.specs.Recorders.{plan_in}
use Rattle.instance_steps.specs.Releases.{batch_at}
use Rattle.instance_steps.proofs.Adding.{on_ok, on_ok_both}
use Rattle.instance_steps.proofs.Released.{aims_room, claims_room, releases, whole}
use Rattle.instance_steps.proofs.recorder.Recorder.release_batch.Goals as goal

pub claim_links-requires-clause-room : goal.claim_links-requires-clause-room
claim_links-requires-clause-room c =
    let a = c.args.self.now in
    let b = c.aim_tasks.new.self in
    let tasks : length (batch_at (plan_in c.aim_tasks.new.self) c.args.number).tasks ≡ length (batch_at (plan_in c.args.self.now) c.args.number).tasks = ap (λ (p : Plan). length (batch_at p c.args.number).tasks) c.in_ok-aim_tasks.ensures.adds.steps.plan in
    let product : length (batch_at (plan_in c.aim_tasks.new.self) c.args.number).tasks * length (plan_in c.aim_tasks.new.self).diagram.links ≡ length (batch_at (plan_in c.args.self.now) c.args.number).tasks * length (plan_in c.args.self.now).diagram.links =
    ap (λ (p : Plan). length (batch_at p c.args.number).tasks * length p.diagram.links) c.in_ok-aim_tasks.ensures.adds.steps.plan in
    omega (arith, product, aims_room a b c.args.number c.in_ok-aim_tasks.ensures.adds.steps, c.requires.room)

pub open_gates-requires-clause-room : goal.open_gates-requires-clause-room
open_gates-requires-clause-room c =
    let a = c.args.self.now in
    let b = c.aim_tasks.new.self in
    let product : length (batch_at (plan_in c.aim_tasks.new.self) c.args.number).tasks * length (plan_in c.aim_tasks.new.self).diagram.links ≡ length (batch_at (plan_in c.args.self.now) c.args.number).tasks * length (plan_in c.args.self.now).diagram.links =
    ap (λ (p : Plan). length (batch_at p c.args.number).tasks * length p.diagram.links) c.in_ok-aim_tasks.ensures.adds.steps.plan in
    let tasks : length (batch_at (plan_in c.claim_links.new.self) c.args.number).tasks ≡ length (batch_at (plan_in c.aim_tasks.new.self) c.args.number).tasks = ap (λ (p : Plan). length (batch_at p c.args.number).tasks) c.in_ok-claim_links.ensures.adds.steps.plan in
    let also : length (batch_at (plan_in c.aim_tasks.new.self) c.args.number).tasks ≡ length (batch_at (plan_in c.args.self.now) c.args.number).tasks = ap (λ (p : Plan). length (batch_at p c.args.number).tasks) c.in_ok-aim_tasks.ensures.adds.steps.plan in
    omega (arith, product, tasks, also, aims_room a b c.args.number c.in_ok-aim_tasks.ensures.adds.steps, claims_room b c.claim_links.new.self c.args.number c.in_ok-claim_links.ensures.adds.steps, c.requires.room)

pub returns-clause-steps : goal.returns-clause-steps
returns-clause-steps c =
    on_ok c.open_gates.result
    (λ opens. (whole c.args.self.now c.aim_tasks.new.self c.claim_links.new.self c.open_gates.new.self c.args.number c.requires.batch c.requires.released c.requires.ended c.in_ok-aim_tasks.ensures.adds c.in_ok-claim_links.ensures.adds opens).steps)
    c.open_gates.ensures.adds

pub returns-clause-state : goal.returns-clause-state
returns-clause-state c =
    on_ok_both c.open_gates.result
    (λ opens entries.
    releases c.args.self.now c.aim_tasks.new.self c.claim_links.new.self c.open_gates.new.self c.args.number c.requires.batch c.requires.released c.requires.ended c.in_ok-aim_tasks.ensures.adds c.in_ok-claim_links.ensures.adds opens
    c.in_ok-aim_tasks.ensures.others c.in_ok-claim_links.ensures.entries entries)
    c.open_gates.ensures.adds c.open_gates.ensures.entries
