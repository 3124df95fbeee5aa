use Rattle.std.proofs.Common.{◌≡◌, ◌≤◌, ◌+◌, ◌++◌, length, take}
use Rattle.std.specs.List.{flat_map}
use Rattle.dia_check.specs.Kinds.{named}
use Rattle.dia_check.proofs.names.push_named.Given as goal

abbrev pub invariant-loop-part : goal.invariant-loop-part
invariant-loop-part l = (l.names ≡ l.fn.names ++ flat_map (named l.kind) (take l.part-index l.parts)) × (length l.names ≤ length l.fn.names + l.part-index)
