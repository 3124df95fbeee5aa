use Rattle.std.proofs.Common.{◌≡◌, ◌≤◌, length, take}
use Rattle.std.specs.List.{flat_map}
use Rattle.dia_check.specs.Diagrams.{sense_of}
use Rattle.dia_check.proofs.parts.senses_of.Given as goal

abbrev pub invariant-loop-part : goal.invariant-loop-part
invariant-loop-part l = (l.senses ≡ flat_map (sense_of l.inputs) (take l.part-index l.parts)) × (length l.senses ≤ l.part-index)
