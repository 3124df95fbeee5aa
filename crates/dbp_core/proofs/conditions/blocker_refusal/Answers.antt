use Rattle.std.proofs.Common.{◌≡◌, ◌<◌, ℕ, None, false, length, arith, refl, subst}
use Rattle.dbp_rules.specs.Lookups.{wired_task}
use Rattle.dbp_rules.specs.Rules as rule
use Rattle.dbp_rules.specs.declared.wiring.TaskWiring.{TaskWiring}
use Rattle.dbp_core.specs.Unfinished.{has_rank}
use Rattle.dbp_core.proofs.RankMasks.{none_blocks}
use Rattle.dbp_core.proofs.conditions.blocker_refusal.Goals as goal

pub returns-then-not-has_above : goal.returns-then-not-has_above
returns-then-not-has_above c =
    let w = c.args.wiring.now in
    let above : (r : ℕ) → r < (wired_task c.args.wiring.now c.args.number).rank → has_rank c.args.unfinished r ≡ false =
    subst (λ (t : TaskWiring). (r : ℕ) → r < t.rank → has_rank c.args.unfinished r ≡ false) c.wired_at.ensures (c.has_above.ensures.none (search)) in
    let none : rule.highest c.args.wiring.now (rule.blocks c.args.wiring.now c.args.state.now c.args.number) (length c.args.wiring.now.tasks) ≡ None =
    none_blocks c.args.wiring.now c.args.state.now c.args.unfinished c.args.number c.requires.ranks above (length c.args.wiring.now.tasks) (omega arith) in
    rw (c.in-Ranked.is, none) refl
