use Rattle.std.proofs.Common.{◌≡◌, ◌<◌, ◌≤◌, List, length, take, arith, ap, subst}
use Rattle.dbp_plan.specs.declared.schedule.Batch.{Batch}
use Rattle.std.proofs.lemmas.List.{take_all}
use Rattle.sync_meaning.specs.Meaning.{IsMeaning}
use Rattle.sync_meaning.specs.Shape.{AreCounted}
use Rattle.sync_meaning.specs.SomeMeaning.{meaning_of, meaning_of-is}
use Rattle.sync_meaning.proofs.OneMeaning.{one_meaning}
use Rattle.sync_meaning.proofs.Counts.{counted_more, counted_none}
use Rattle.sync_meaning.proofs.ExactRuns.{meaning_all, ready_more, ready_none}
use Rattle.dbp_plan.proofs.RankLaws.{ranking}
use Rattle.sync_meaning.proofs.Sets.{item_at}
use Rattle.sync_meaning.proofs.run.mean.Goals as goal

pub tasks_by_rank-requires-clause-ranking : goal.tasks_by_rank-requires-clause-ranking
tasks_by_rank-requires-clause-ranking c = rw c.items.ensures.value (ranking c.args.plan.now.diagram c.args.plan.now.rules.ranked)

pub loop-batch-init : goal.loop-batch-init
loop-batch-init c = record {
  run = c.in_ok-run.ensures.run;
  counted = counted_none _ _ c.in_ok-run.ensures.named;
  ready = ready_none _ _ _ _ _ c.in_ok-run.ensures.taken;
  streams = c.in_ok-run.ensures.streams;
}

pub take_batch-requires-clause-next : goal.take_batch-requires-clause-next
take_batch-requires-clause-next c =
    let below : c.loop-batch.batch-index < length c.args.plan.now.batches = omega (arith, c.loop-batch-test.true, ap length c.items-batch-items.ensures.value) in
    record {
      place = c.loop-batch.batch-index;
      is = item_at c.args.plan.now.batches c.items-batch-items.result.now c.loop-batch.batch-index c.batch-item.result c.items-batch-items.ensures.value below c.batch-item.is;
      counted = c.loop-batch.invariant.counted;
    }

pub take_batch-requires-clause-taken : goal.take_batch-requires-clause-taken
take_batch-requires-clause-taken c =
    let below : c.loop-batch.batch-index < length c.args.plan.now.batches = omega (arith, c.loop-batch-test.true, ap length c.items-batch-items.ensures.value) in
    let at = item_at c.args.plan.now.batches c.items-batch-items.result.now c.loop-batch.batch-index c.batch-item.result c.items-batch-items.ensures.value below c.batch-item.is in
    let itself : c.loop-batch.batch-index ≤ c.loop-batch.batch-index = omega arith in
    c.loop-batch.invariant.ready.each c.loop-batch.batch-index c.batch-item.result itself at

pub loop-batch-preserved : goal.loop-batch-preserved
loop-batch-preserved c =
    let below : c.loop-batch.batch-index < length c.args.plan.now.batches = omega (arith, c.loop-batch-test.true, ap length c.items-batch-items.ensures.value) in
    let at = item_at c.args.plan.now.batches c.items-batch-items.result.now c.loop-batch.batch-index c.batch-item.result c.items-batch-items.ensures.value below c.batch-item.is in
    record {
      run = c.in_ok-take_batch.ensures.run;
      counted = counted_more c.loop-batch.batch-index c.args.plan.now.batches c.batch-item.result c.loop-batch.run.named.items c.take_batch.new.self.named.items at c.loop-batch.invariant.counted c.in_ok-take_batch.ensures.named;
      ready = ready_more c.loop-batch.batch-index c.args.plan.now.diagram c.args.plan.now.samples c.args.plan.now.batches c.batch-item.result _ _ c.args.plan.now.rules.rising at c.in_ok-take_batch.ensures.taken;
      streams = c.in_ok-take_batch.ensures.streams;
    }

pub returns : goal.returns
returns c =
    let plan = c.args.plan.now in
    let all : take c.loop-batch.batch-index plan.batches ≡ plan.batches = take_all c.loop-batch.batch-index plan.batches (omega (arith, ap length c.items-batch-items.ensures.value)) in
    let meaning : IsMeaning plan.diagram plan.samples plan.batches c.loop-batch.run.table =
    meaning_all plan.diagram plan.samples plan.batches c.loop-batch.run plan.rules.ranked c.loop-batch.invariant.run (subst (λ (bs : List Batch). AreCounted bs c.loop-batch.run.named.items) all c.loop-batch.invariant.counted) c.loop-batch.invariant.streams in
    record { meaning = meaning; table = one_meaning plan c.loop-batch.run.table (meaning_of plan) meaning (meaning_of-is plan) }
