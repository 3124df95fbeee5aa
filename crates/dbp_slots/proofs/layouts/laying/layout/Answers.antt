use Rattle.std.proofs.Common.{◌≡◌, ◌<◌, length, arith, refl, sym, ◌∙◌, ap}
use Rattle.std.proofs.Math.ListN.{length-set}
use Rattle.dbp_slots.specs.declared.layouts.Block.{Block}
use Rattle.dbp_slots.specs.LayoutBlocks.{block_sizes, sizes_by}
use Rattle.dbp_slots.specs.TableWords.{block_begin, block_size, sizes_of, task_sizes, word_count}
use Rattle.dbp_slots.proofs.Blocks.{next_begin}
use Rattle.dbp_slots.proofs.Fillings.{filled_all, begin_more, begin_small, block_here, block_small, fill_more, length_sizes}
use Rattle.dbp_slots.proofs.layouts.laying.layout.Goals as goal

pub loop-i-init : goal.loop-i-init
loop-i-init c = record { size = refl; filled = refl; in_order = λ i below. absurd (omega arith); counted = omega (arith, length_sizes c.args.diagram.now) }

pub overflow_mul-end-in-loop-i : goal.overflow_mul-end-in-loop-i
overflow_mul-end-in-loop-i c =
    let d = c.args.diagram.now in
    let i = c.loop-i.i in
    let below : i < length d.tasks = omega (arith, ap length c.items-task-items.ensures.value) in
    let b : Block = record { begin = c.loop-i.end; slots = c.counts-slots.result.run; ports = c.len-ports.result } in
    let here : block_sizes b ≡ task_sizes (sizes_of d) i = block_here d i c.task-item.result b below (cc) (cc) (cc) in
    omega (arith, ap block_size here, block_small d i c.requires.closed below)

pub overflow_add-end-in-loop-i-2 : goal.overflow_add-end-in-loop-i-2
overflow_add-end-in-loop-i-2 c =
    let d = c.args.diagram.now in
    let i = c.loop-i.i in
    let below : i < length d.tasks = omega (arith, ap length c.items-task-items.ensures.value) in
    let b : Block = record { begin = c.loop-i.end; slots = c.counts-slots.result.run; ports = c.len-ports.result } in
    let here : block_sizes b ≡ task_sizes (sizes_of d) i = block_here d i c.task-item.result b below (cc) (cc) (cc) in
    omega (arith, ap block_size here, block_small d i c.requires.closed below, begin_small d i c.requires.closed, c.loop-i.invariant.counted)

pub loop-i-preserved : goal.loop-i-preserved
loop-i-preserved c =
    let d = c.args.diagram.now in
    let i = c.loop-i.i in
    let below : i < length d.tasks = omega (arith, ap length c.items-task-items.ensures.value) in
    let b : Block = record { begin = c.loop-i.end; slots = c.counts-slots.result.run; ports = c.len-ports.result } in
    let here : block_sizes b ≡ task_sizes (sizes_of d) i = block_here d i c.task-item.result b below (cc) (cc) (cc) in
    let room : i < length c.loop-i.blocks = omega (arith, c.requires.closed.tasks) in
    let fits : i < length (sizes_of d).tasks = omega (arith, length_sizes d) in
    record {
      size = length-set c.loop-i.blocks i b ∙ c.loop-i.invariant.size;
      filled = fill_more (sizes_of d) c.loop-i.blocks i b room fits here c.loop-i.invariant.filled;
      in_order = begin_more (sizes_of d) c.loop-i.blocks i b room c.loop-i.invariant.counted c.loop-i.invariant.in_order;
      counted = omega (arith, next_begin (sizes_of d) i fits, ap block_size here, c.loop-i.invariant.counted);
    }

pub invariant_of-result : goal.invariant_of-result
invariant_of-result c =
    let d = c.args.diagram.now in
    let blocks = c.loop-i.blocks in
    let at_end : c.loop-i.i ≡ length d.tasks = omega (arith, ap length c.items-task-items.ensures.value) in
    let made : sizes_by c.len-tasks.result c.len-links.result blocks ≡ sizes_of d =
    filled_all d blocks c.loop-i.i c.len-tasks.result c.len-links.result c.loop-i.invariant.filled at_end c.len-tasks.ensures c.len-links.ensures in
    record {
      few = omega (arith, c.requires.closed.tasks);
      in_order = λ k below. c.loop-i.invariant.in_order k (omega arith) ∙ ap (λ s. block_begin s k) (sym made);
      counted = c.loop-i.invariant.counted ∙ ap (block_begin (sizes_of d)) (omega (arith, length_sizes d)) ∙ ap word_count (sym made);
    }

pub returns : goal.returns
returns c =
    filled_all c.args.diagram.now c.loop-i.blocks c.loop-i.i c.len-tasks.result c.len-links.result c.loop-i.invariant.filled
    (omega (arith, ap length c.items-task-items.ensures.value)) c.len-tasks.ensures c.len-links.ensures
