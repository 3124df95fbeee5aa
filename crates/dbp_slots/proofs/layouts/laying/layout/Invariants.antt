use Rattle.std.proofs.Common.{◌≡◌, length, map, take}
use Rattle.dbp_plan.specs.declared.limits.TheConstants.{MAX_TASKS}
use Rattle.dbp_slots.specs.LayoutBlocks.{block_sizes, BeginInOrder}
use Rattle.dbp_slots.specs.TableWords.{block_begin, sizes_of}
use Rattle.dbp_slots.proofs.layouts.laying.layout.Given as goal

abbrev pub invariant-loop-i : goal.invariant-loop-i
invariant-loop-i l =
    let s = sizes_of l.diagram in
    record {
      size : length l.blocks ≡ MAX_TASKS;
      filled : map block_sizes (take l.i l.blocks) ≡ take l.i s.tasks;
      in_order : BeginInOrder s l.blocks l.i;
      counted : l.end ≡ block_begin s l.i;
    }
