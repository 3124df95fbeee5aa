use Rattle.std.proofs.Common.{◌≡◌, ◌≤◌, length, take}
use Rattle.std.specs.List.{flat_map}
use Rattle.dia_check.specs.Diagrams.{let_of}
use Rattle.dia_check.proofs.parts.lets_of.Given as goal

abbrev pub invariant-loop-part : goal.invariant-loop-part
invariant-loop-part l = (l.lets ≡ flat_map (let_of l.names) (take l.part-index l.parts)) × (length l.lets ≤ l.part-index)
