use Rattle.std.proofs.Common.{arith, ℕ, ◌<◌, ◌+◌, ◌∙◌, List, [], length, get_or, sym, ap, subst}
use Rattle.std.proofs.lemmas.List.{get_or_read}
use Rattle.rank_order.specs.Ends.{IsOverrun}
use Rattle.virtual_time.specs.Runs.{all_at}
use Rattle.virtual_time.specs.State.{instance, left_by}
use Rattle.virtual_time.proofs.Running.{few_ends}
use Rattle.virtual_time.proofs.Whole.{overruns}
use Rattle.virtual_time.proofs.run.Run.overrun.Goals as goal

pub overflow_add-result : goal.overflow_add-result
overflow_add-result g c =
    let (run, (waiting, (more, due))) = c.requires in
    let r = c.args.self.now in
    let i = c.in_ok-task.task in
    let there : i < length r.ends = omega (arith, c.in_ok-task.ensures.small, run.at.lists) in
    let is = c.index-items-task.is ∙ ap (λ (l : List (List ℕ)). get_or l i c.index-items-task.result) c.items.ensures.value in
    let read = get_or_read r.ends i c.index-items-task.result there is [] in
    let few = few_ends c.args.plan.now (all_at g.cpus r.time) r run i c.in_ok-task.ensures.small in
    omega (arith, c.len.ensures, few, ap length read)

pub returns-clause-overrun : goal.returns-clause-overrun
returns-clause-overrun g c =
    let (run, (waiting, (more, due))) = c.requires in
    let p = c.args.plan.now in
    let r = c.args.self.now in
    let i = c.in_ok-task.task in
    let there : i < length r.ends = omega (arith, c.in_ok-task.ensures.small, run.at.lists) in
    let is = c.index-items-task.is ∙ ap (λ (l : List (List ℕ)). get_or l i c.index-items-task.result) c.items.ensures.value in
    let read = get_or_read r.ends i c.index-items-task.result there is [] in
    let over = overruns p g.cpus waiting r run more due i c.in_ok-task.ensures in
    subst (λ (n : ℕ). IsOverrun p (left_by p g.cpus.on g.cpus.serve) r.time (instance i (n + 2))) (sym (c.len.ensures ∙ ap length read)) over
