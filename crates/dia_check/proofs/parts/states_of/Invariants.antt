use Rattle.std.proofs.Common.{◌≡◌, ◌≤◌, length, take}
use Rattle.std.specs.List.{flat_map}
use Rattle.dia_check.specs.Diagrams.{state_of}
use Rattle.dia_check.proofs.parts.states_of.Given as goal

abbrev pub invariant-loop-part : goal.invariant-loop-part
invariant-loop-part l = (l.states ≡ flat_map state_of (take l.part-index l.parts)) × (length l.states ≤ l.part-index)
