use Rattle.std.proofs.Common.{◌≡◌, length, ap, ◌∙◌, arith}
use Rattle.dbp_rules.specs.Lookups.{wired_task}
use Rattle.dbp_rules.specs.declared.wiring.TaskWiring.{TaskWiring}
use Rattle.dbp_rules.specs.declared.wiring.Wiring.{Wiring}
use Rattle.party_exec.proofs.Concerns.{leaving_there, task_wired}
use Rattle.party_exec.proofs.round.Round.ring_readers.Goals as goal

pub task-requires : goal.task-requires
task-requires c = omega (arith, task_wired c.args.words.now c.args.task c.requires, ap (λ (x : Wiring). length x.tasks) c.wiring-wiring.ensures)

pub bounds-items-link : goal.bounds-items-link
bounds-items-link c =
    let ks = c.items-link-items.result.now in
    let i = c.args.task in
    let leaving : ks ≡ (wired_task c.args.words.now.wiring i).leaving =
    c.items-link-items.ensures.value ∙ ap (λ (t : TaskWiring). t.leaving) (c.task.ensures ∙ ap (λ (x : Wiring). wired_task x i) c.wiring-wiring.ensures) in
    let there = leaving_there c.args.words.now i c.loop-link.link-index ks c.requires leaving c.loop-link-test.true in
    omega (arith, there, ap length c.items.ensures.value, ap (λ (x : Wiring). length x.links) c.wiring-wiring.ensures)
