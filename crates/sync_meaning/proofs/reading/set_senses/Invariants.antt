use Rattle.std.proofs.Common.{◌≡◌, length, slice_get, Some}
use Rattle.sync_meaning.proofs.Envs.{WrittenUpTo}
use Rattle.sync_meaning.proofs.reading.set_senses.Given as goal

abbrev pub invariant-loop-k : goal.invariant-loop-k
invariant-loop-k l = WrittenUpTo l.k (length l.task.states) l.task.senses (λ s value. slice_get l.inputs s.input ≡ Some value) l.initial.now l.now
