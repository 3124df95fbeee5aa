use Rattle.std.proofs.Common.{◌≡◌, ◌≤◌, length, take}
use Rattle.std.specs.List.{flat_map}
use Rattle.dia_check.specs.Diagrams.{input_of}
use Rattle.dia_check.proofs.shaping.inputs_of.Given as goal

abbrev pub invariant-loop-decl : goal.invariant-loop-decl
invariant-loop-decl l = (l.inputs ≡ flat_map input_of (take l.decl-index l.decls)) × (length l.inputs ≤ l.decl-index)
