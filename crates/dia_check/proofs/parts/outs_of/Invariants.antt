use Rattle.std.proofs.Common.{◌≡◌, ◌≤◌, length, take}
use Rattle.std.specs.List.{flat_map}
use Rattle.dia_check.specs.Diagrams.{out_of}
use Rattle.dia_check.proofs.parts.outs_of.Given as goal

abbrev pub invariant-loop-part : goal.invariant-loop-part
invariant-loop-part l = (l.outs ≡ flat_map (out_of l.names) (take l.part-index l.parts)) × (length l.outs ≤ l.part-index)
