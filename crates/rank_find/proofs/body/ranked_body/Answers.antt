use Rattle.std.proofs.Common.{◌≡◌, ◌++◌, List, take, drop, length, map, arith, sym, ◌∙◌, ap, subst}
use Rattle.std.specs.List.{enumerate_from}
use Rattle.std.proofs.lemmas.List.{take_at}
use Rattle.dbp_plan.specs.declared.diagram.Policy.TheVariants.{Fp}
use Rattle.dia_read.specs.declared.document.RawTask.{RawTask}
use Rattle.dia_read.specs.Printable.{IsPrintable}
use Rattle.rank_find.specs.Bodies.{ranked_task}
use Rattle.rank_find.proofs.RankedBodies.{still_printable}
use Rattle.rank_find.proofs.body.ranked_body.Goals as goal

pub returns-clause-printable : goal.returns-clause-printable
returns-clause-printable c =
    let old : List RawTask = c.args.body.tasks in
    let new : List RawTask = c.rank_tasks.new.tasks in
    let made : new ≡ map (ranked_task c.args.order.now) (enumerate_from 0 old) = rw (c.items.ensures.value, c.items_mut.ensures.value) at c.rank_tasks.ensures in
    let size : length new ≡ length old = omega (arith, c.rank_tasks.auto.tasks, ap length c.items_mut.ensures.value) in
    let is : take (length old) (new ++ drop (length new) old) ≡ map (ranked_task c.args.order.now) (enumerate_from 0 old) = take_at new (drop (length new) old) (length old) size ∙ made in
    λ printable.
    subst (λ (tasks : List RawTask). IsPrintable (record c.args.body { policy = Fp; tasks = tasks })) (sym is)
    (still_printable c.args.body c.args.order.now c.requires printable)
