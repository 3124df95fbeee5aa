use Rattle.std.proofs.Common.{◌+◌, length}
use Rattle.std.specs.Prelude.{slice_index}
use Rattle.sync_meaning.specs.Meaning.{IsRead}
use Rattle.sync_meaning.proofs.Envs.{WrittenUpTo}
use Rattle.sync_meaning.proofs.reading.set_reads.Given as goal

abbrev pub invariant-loop-k : goal.invariant-loop-k
invariant-loop-k l = WrittenUpTo l.k (length l.task.states + length l.task.senses) l.task.reads (IsRead l.links (slice_index l.named) l.table) l.initial.now l.now
