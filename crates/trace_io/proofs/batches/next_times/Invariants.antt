use Rattle.std.proofs.Common.{◌≡◌, ℕ, ◌<◌, length}
use Rattle.std.specs.Prelude.{slice_index, unwrap_or}
use Rattle.dbp_plan.specs.declared.diagram.Clock.{Clock}
use Rattle.trace_io.specs.Merging.{next_of}
use Rattle.trace_io.proofs.batches.next_times.Given as goal

abbrev pub invariant-loop-i : goal.invariant-loop-i
invariant-loop-i l = (length l.next.items ≡ l.i)
    × ((j : ℕ) (d : Clock) → j < l.i → slice_index l.next.items j ≡ unwrap_or (next_of l.until l.events l.clocks l.taken j d) l.until)
