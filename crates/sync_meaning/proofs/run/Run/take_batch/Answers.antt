use Rattle.std.proofs.Common.{◌≡◌, ◌<◌, All, ℕ, List, length, ap, ◌∙◌, subst, sym, refl}
use Rattle.std.specs.List.Sorted.{IsStrictlyIncreasing}
use Rattle.sync_meaning.specs.Shape.{IsMarked}
use Rattle.sync_meaning.proofs.Counts.{marked_few}
use Rattle.sync_meaning.proofs.ExactRuns.{at_batch, next_at, next_few, streams_same}
use Rattle.dbp_plan.proofs.RankLaws.{length-ranks}
use Rattle.sync_meaning.proofs.Runs.{run_marked}
use Rattle.dbp_plan.proofs.ListParts.{refilled}
use Rattle.sync_meaning.proofs.run.Run.take_batch.Goals as goal

pub mark-requires-clause-tasks : goal.mark-requires-clause-tasks
mark-requires-clause-tasks c =
    let below : All (λ i. i < length c.args.plan.now.diagram.tasks) c.args.batch.now.tasks = next_at (λ b. All (λ i. i < length c.args.plan.now.diagram.tasks) b.tasks) c.args.plan.now.batches c.args.batch.now c.args.self.now.named.items c.requires.next c.args.plan.now.rules.named in
    let size : length c.deref_mut.result.now ≡ length c.args.plan.now.diagram.tasks = ap length c.deref_mut.ensures.value ∙ c.requires.run.steps.size ∙ length-ranks c.args.plan.now.diagram c.args.plan.now.rules.ranked in
    rw size below

pub mark-requires-clause-order : goal.mark-requires-clause-order
mark-requires-clause-order c = next_at (λ b. IsStrictlyIncreasing b.tasks) c.args.plan.now.batches c.args.batch.now c.args.self.now.named.items c.requires.next c.args.plan.now.rules.in_order

pub mark-requires-clause-few : goal.mark-requires-clause-few
mark-requires-clause-few c =
    rw c.deref_mut.ensures.value (next_few c.args.plan.now.batches c.args.batch.now c.args.self.now.named.items c.args.plan.now.rules.some c.args.plan.now.rules.few c.requires.next)

pub compute_due-requires-clause-run : goal.compute_due-requires-clause-run
compute_due-requires-clause-run c =
    let named = c.args.self.now.named in
    let whole = refilled named.len named.items c.mark.new.named named.ok.0 (c.mark.ensures.size ∙ ap length c.deref_mut.ensures.value) in
    run_marked c.args.plan.now.diagram c.args.batch.now c.args.self.now _ c.deref_mut.result.now c.mark.new.named c.args.plan.now.rules.ranked c.requires.run c.deref_mut.ensures.value c.mark.ensures
    (c.take_until.ensures.taken.size ∙ sym c.requires.taken.size) refl refl refl whole

pub compute_due-requires-clause-few : goal.compute_due-requires-clause-few
compute_due-requires-clause-few c =
    let named = c.args.self.now.named in
    let whole = refilled named.len named.items c.mark.new.named named.ok.0 (c.mark.ensures.size ∙ ap length c.deref_mut.ensures.value) in
    let marked = subst (λ (l : List ℕ). IsMarked c.args.batch.now l c.mark.new.named) c.deref_mut.ensures.value c.mark.ensures in
    let few = next_few c.args.plan.now.batches c.args.batch.now named.items c.args.plan.now.rules.some c.args.plan.now.rules.few c.requires.next in
    rw whole (marked_few c.args.batch.now named.items c.mark.new.named few marked)

pub compute_due-requires-clause-time : goal.compute_due-requires-clause-time
compute_due-requires-clause-time c =
    let plan = c.args.plan.now in
    let named = c.args.self.now.named in
    let whole = refilled named.len named.items c.mark.new.named named.ok.0 (c.mark.ensures.size ∙ ap length c.deref_mut.ensures.value) in
    at_batch plan.diagram plan.samples plan.batches c.args.batch.now c.args.self.now _ c.deref_mut.result.now c.mark.new.named plan.rules.ranked plan.rules.rising c.requires.run c.requires.next c.deref_mut.ensures.value c.mark.ensures
    whole refl c.take_until.ensures.values

pub compute_due-requires-clause-streams : goal.compute_due-requires-clause-streams
compute_due-requires-clause-streams c = streams_same c.args.plan.now.diagram c.args.plan.now.samples c.args.plan.now.batches c.args.self.now _ refl refl refl c.requires.streams
