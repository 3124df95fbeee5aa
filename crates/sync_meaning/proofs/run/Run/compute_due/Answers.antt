use Rattle.std.proofs.Common.{◌≡◌, ◌<◌, ◌≤◌, ◌+◌, ℕ, slice_get, get_or, Some, arith, subst, ◌∙◌, sym, inl, inr, ap, Bool, true, false}
use Rattle.std.specs.Prelude.{IsTrue}
use Rattle.std.proofs.lemmas.Bool.{cases_lt}
use Rattle.dbp_plan.specs.declared.diagram.Diagram.{Diagram}
use Rattle.sync_meaning.specs.declared.run.Run.{Run}
use Rattle.std.proofs.lemmas.Option.{slice_get_within}
use Rattle.sync_meaning.specs.Run.{HasStreams, IsAtTime, IsRun}
use Rattle.dbp_plan.proofs.RankLaws.{length-ranks}
use Rattle.sync_meaning.proofs.Runs.{has_counts, next_skip, rank_read, ranked_at}
use Rattle.sync_meaning.proofs.run.Run.compute_due.Goals as goal
use Rattle.sync_meaning.proofs.run.Run.compute_due.Goals.{then-is_due+in_ok-compute, else-is_due}

not_due : (due : Bool) (m n : ℕ) → due ≡ false → (m < n → IsTrue due) → n ≤ m
not_due due m n isnt told = elim (cases_lt m n) [ inl less ↦ let is : due ≡ true = told less in absurd (cc) | inr more ↦ more ]

pub is_due-requires-clause-done : goal.is_due-requires-clause-done
is_due-requires-clause-done c = (has_counts _ _ _ _ _ (ranked_at _ _ _ c.requires.by_rank c.loop-task-test.true) c.loop-task.invariant.run).0

pub is_due-requires-clause-named : goal.is_due-requires-clause-named
is_due-requires-clause-named c = (has_counts _ _ _ _ _ (ranked_at _ _ _ c.requires.by_rank c.loop-task-test.true) c.loop-task.invariant.run).1

pub compute-requires-clause-task : goal.compute-requires-clause-task
compute-requires-clause-task c =
    let at = ranked_at c.args.plan.now.diagram.ranks c.args.by_rank.now c.loop-task.task-index c.requires.by_rank c.loop-task-test.true in
    omega (arith, slice_get_within c.args.plan.now.diagram.ranks (get_or c.args.by_rank.now c.loop-task.task-index 0) c.loop-task.task-index at, length-ranks c.args.plan.now.diagram c.args.plan.now.rules.ranked)

pub compute-requires-clause-run : goal.compute-requires-clause-run
compute-requires-clause-run c =
    let at = ranked_at c.args.plan.now.diagram.ranks c.args.by_rank.now c.loop-task.task-index c.requires.by_rank c.loop-task-test.true in
    subst (λ (k : ℕ). IsRun c.args.plan.now.diagram k c.loop-task.self) (rank_read c.args.plan.now.diagram.ranks (get_or c.args.by_rank.now c.loop-task.task-index 0) c.loop-task.task-index at) c.loop-task.invariant.run

pub loop-task-preserved : goal.loop-task-preserved
loop-task-preserved c =
    let d : Diagram = c.args.plan.now.diagram in
    let k : ℕ = c.loop-task.task-index in
    let i : ℕ = get_or c.args.by_rank.now k 0 in
    let at : slice_get d.ranks i ≡ Some k = ranked_at d.ranks c.args.by_rank.now k c.requires.by_rank c.loop-task-test.true in
    elim c.if-is_due.branch [
      | then-is_due+in_ok-compute w ↦
          let reached : IsRun d (k + 1) w.compute.new.self = subst (λ (n : ℕ). IsRun d (n + 1) w.compute.new.self) (sym (rank_read d.ranks i k at)) w.in_ok-compute.ensures.run in
          record {
            run = subst (λ (r : Run). IsRun d (k + 1) r) (sym w.self-is) reached;
            named = ap (λ (r : Run). r.named.items) w.self-is ∙ w.in_ok-compute.ensures.named ∙ c.loop-task.invariant.named;
            inputs = ap (λ (r : Run). r.inputs) w.self-is ∙ w.in_ok-compute.ensures.inputs ∙ c.loop-task.invariant.inputs;
            time = subst (λ (r : Run). IsAtTime d c.args.plan.now.samples c.args.plan.now.batches r) (sym w.self-is) w.in_ok-compute.ensures.time;
            streams = subst (λ (r : Run). HasStreams d c.args.plan.now.samples c.args.plan.now.batches r) (sym w.self-is) w.in_ok-compute.ensures.streams;
          }
      | else-is_due w ↦
          let none : get_or c.loop-task.self.named.items i 0 ≤ get_or c.loop-task.self.done.items i 0 = not_due c.is_due.result _ _ w.if-is_due.false c.is_due.ensures.1 in
          record {
            run = subst (λ (r : Run). IsRun d (k + 1) r) (sym w.self-is) (next_skip d i k c.loop-task.self c.args.plan.now.rules.ranked at none c.loop-task.invariant.run);
            named = ap (λ (r : Run). r.named.items) w.self-is ∙ c.loop-task.invariant.named;
            inputs = ap (λ (r : Run). r.inputs) w.self-is ∙ c.loop-task.invariant.inputs;
            time = subst (λ (r : Run). IsAtTime d c.args.plan.now.samples c.args.plan.now.batches r) (sym w.self-is) c.loop-task.invariant.time;
            streams = subst (λ (r : Run). HasStreams d c.args.plan.now.samples c.args.plan.now.batches r) (sym w.self-is) c.loop-task.invariant.streams;
          }
    ]
