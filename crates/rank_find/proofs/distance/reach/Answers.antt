use Rattle.std.proofs.Common.{◌≡◌, ◌≢◌, ◌<◌, ◌+◌, ℕ, List, [], get_or, length, slice_index_or, sym, ◌∙◌, subst, arith}
use Rattle.std.proofs.lemmas.List.{get_or_default, get_or_read}
use Rattle.std.proofs.lemmas.List.Elements.{Contains-get_or}
use Rattle.rank_find.specs.declared.distance.TheConstants.{FAR}
use Rattle.rank_find.specs.Distances.{AreLowered, distance_of}
use Rattle.rank_find.specs.Links.{IsWriter}
use Rattle.rank_find.proofs.Distances.{reached_kept, reached_more}
use Rattle.rank_find.proofs.distance.reach.Goals.{then-distances-task, else-distances-task}
use Rattle.rank_find.proofs.distance.reach.Goals as goal

pub lower-requires : goal.lower-requires
lower-requires c = λ k d below.
    let writers = c.args.writers.now in
    let task : ℕ = c.loop-task.task in
    let is : c.items.result.now ≡ slice_index_or writers task [] = c.items.ensures.value ∙ get_or_read writers task c.index-writers-task.result c.loop-task-test.true c.index-writers-task.is [] in
    let writes : IsWriter writers (get_or c.items.result.now k d) task = rw (sym is) (Contains-get_or c.items.result.now k d below) in
    omega (arith, c.requires.named (get_or c.items.result.now k d) task writes, c.requires.size, c.loop-task.auto.distances)

pub loop-task-preserved : goal.loop-task-preserved
loop-task-preserved c =
    let writers = c.args.writers.now in
    let old = c.args.distances.now in
    let middle = c.loop-task.distances in
    let task : ℕ = c.loop-task.task in
    let inside : task < length middle = omega (arith, c.loop-task-test.true, c.requires.size, c.loop-task.auto.distances) in
    let at : distance_of middle task ≡ get_or middle task 0 = get_or_default middle task FAR 0 inside in
    elim c.if-distances-task.branch [
      | then-distances-task w ↦
          let is : w.items.result.now ≡ slice_index_or writers task [] = w.items.ensures.value ∙ get_or_read writers task w.index-writers-task.result c.loop-task-test.true w.index-writers-task.is [] in
          let lowered : AreLowered (slice_index_or writers task []) (c.args.distance + 1) middle w.lower.new.distances =
          subst (λ (tasks : List ℕ). AreLowered tasks (c.args.distance + 1) middle w.lower.new.distances) is w.lower.ensures in
          rw w.distances-is (reached_more writers task c.args.distance old middle w.lower.new.distances c.loop-task.invariant (at ∙ w.if-distances-task.true) lowered)
      | else-distances-task w ↦
          let elsewhere : distance_of middle task ≢ c.args.distance = λ same. w.if-distances-task.false (sym at ∙ same) in
          rw w.distances-is (reached_kept writers task c.args.distance old middle c.loop-task.invariant elsewhere)
    ]
