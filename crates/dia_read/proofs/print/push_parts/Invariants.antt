use Rattle.std.proofs.Common.{◌≡◌, take}
use Rattle.std.specs.List.{flat_map}
use Rattle.dia_print.specs.Printed.{with_bytes}
use Rattle.dia_read.specs.Canonical.{part_text}
use Rattle.dia_read.proofs.print.push_parts.Given as goal

abbrev pub invariant-loop-part : goal.invariant-loop-part
invariant-loop-part l = l.printer ≡ with_bytes l.initial.printer (flat_map part_text (take l.part-index l.part-items))
