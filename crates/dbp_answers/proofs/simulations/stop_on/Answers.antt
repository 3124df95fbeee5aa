use Rattle.std.proofs.Common.{subst}
use Rattle.rank_order.specs.Ends.{IsOverrun}
use Rattle.rank_order.specs.Instances.{Instance}
use Rattle.dbp_answers.specs.Simulations.{IsFailOn, left_in}
use Rattle.dbp_answers.proofs.Simulated.{overrun-told}
use Rattle.dbp_answers.proofs.simulations.stop_on.Goals as goal

-- the overrun's task is declared
pub overrun_stop-requires : goal.overrun_stop-requires
overrun_stop-requires c =
    let x : Instance = record { task = c.in-Overrun.task; number = c.in-Overrun.instance } in
    let late : IsOverrun c.args.plan.now (left_in c.args.plan.now c.args.processors) c.in-Overrun.time x = subst (IsFailOn c.args.plan.now c.args.processors) c.in-Overrun.is c.requires in
    late.late.instance.task

pub returns-in-Overrun : goal.returns-in-Overrun
returns-in-Overrun c =
    let x : Instance = record { task = c.in-Overrun.task; number = c.in-Overrun.instance } in
    let late : IsOverrun c.args.plan.now (left_in c.args.plan.now c.args.processors) c.in-Overrun.time x = subst (IsFailOn c.args.plan.now c.args.processors) c.in-Overrun.is c.requires in
    λ input command record_it accepted looked. c.overrun_stop.ensures input command (overrun-told input c.args.plan.now c.args.processors command record_it x c.in-Overrun.time accepted looked late)
