use Rattle.std.proofs.Common.{◌≡◌, ◌≤◌, length, take}
use Rattle.std.specs.List.{flat_map}
use Rattle.dia_check.specs.Diagrams.{next_of}
use Rattle.dia_check.proofs.parts.nexts_of.Given as goal

abbrev pub invariant-loop-part : goal.invariant-loop-part
invariant-loop-part l = (l.nexts ≡ flat_map (next_of l.fn.states l.names) (take l.part-index l.parts)) × (length l.nexts ≤ l.part-index)
