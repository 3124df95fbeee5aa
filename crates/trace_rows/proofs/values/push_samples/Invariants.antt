use Rattle.std.proofs.Common.{◌≡◌, ◌+◌, ◌≤◌, ◌++◌, length, take}
use Rattle.trace_rows.specs.Columns.{said_samples}
use Rattle.trace_rows.proofs.values.push_samples.Given as goal

abbrev pub invariant-loop-input : goal.invariant-loop-input
invariant-loop-input l = record {
  found : l.found ≡ l.fn.found ++ said_samples l.time 0 (take l.input l.columns) l.said;
  few : length l.found ≤ length l.fn.found + l.input;
}
