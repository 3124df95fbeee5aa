use Rattle.std.proofs.Common.{◌≡◌, ◌≤◌, length}
use Rattle.std.specs.Prelude.{filter}
use Rattle.std.specs.List.{range_with_len}
use Rattle.slot_need.specs.Scenarios.{is_lower_reader}
use Rattle.slot_need.proofs.firings.lower_readers.Given as goal

abbrev pub invariant-loop-reader : goal.invariant-loop-reader
invariant-loop-reader l = record {
  readers : l.readers.items ≡ filter (is_lower_reader l.diagram l.task) (range_with_len 0 l.reader);
  few : length l.readers.items ≤ l.reader;
}
