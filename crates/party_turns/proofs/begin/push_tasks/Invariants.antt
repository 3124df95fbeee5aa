use Rattle.std.proofs.Common.{◌≡◌, ◌+◌, length}
use Rattle.std.specs.Prelude.{ℕ, slice_get, Some}
use Rattle.party_turns.specs.Parties.{IsFresh}
use Rattle.party_turns.specs.declared.party.Party.{Party}
use Rattle.party_turns.proofs.Fresh.{AreLeft}
use Rattle.party_turns.proofs.begin.push_tasks.Given as goal

abbrev pub invariant-loop-seat : goal.invariant-loop-seat
invariant-loop-seat l = record {
  size : length l.parties ≡ length l.yielded + 1;
  each : (k : ℕ) (p : Party) → slice_get l.parties k ≡ Some p → IsFresh l.words k p;
  left : AreLeft l.words (length l.yielded) l.seat-iterator.rest.items;
  all : length l.seat-iterator.rest.items + length l.yielded ≡ length l.words.plan.diagram.tasks;
}
