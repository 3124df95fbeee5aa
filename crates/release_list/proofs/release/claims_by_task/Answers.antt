-- One task more.
use Rattle.std.proofs.Common.{◌∙◌, ◌++◌, ◌∷◌, [], ap, sym, arith, length}
use Rattle.std.specs.List.{range_with_len}
use Rattle.std.proofs.lemmas.List.{length-map}
use Rattle.std.proofs.lemmas.List.FromFn.{length-range_with_len, map-range_with_len_more}
use Rattle.release_list.specs.Releases.{claims_into}
use Rattle.release_list.proofs.release.claims_by_task.Goals as goal

pub push-requires : goal.push-requires
push-requires c =
    let n = c.loop-task.task in
    omega (arith, ap length c.loop-task.invariant, length-map (range_with_len 0 n) (claims_into c.args.links.now), length-range_with_len 0 n, c.loop-task-test.true, c.ranges.tasks.fits)

pub loop-task-preserved : goal.loop-task-preserved
loop-task-preserved c =
    c.in_ok-push.ensures.ok
    ∙ ap (λ l. l ++ c.in_ok-task_claims.field-0 ∷ []) c.loop-task.invariant
    ∙ rw c.in_ok-task_claims.ensures (sym (map-range_with_len_more (claims_into c.args.links.now) 0 c.loop-task.task c.loop-task.task (omega arith)))
