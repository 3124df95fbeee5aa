use Rattle.std.proofs.Common.{◌≡◌, take}
use Rattle.std.specs.List.{flat_map}
use Rattle.dia_print.specs.Printed.{with_bytes}
use Rattle.dia_read.specs.Canonical.{decl_text}
use Rattle.dia_read.proofs.print.push_decls.Given as goal

abbrev pub invariant-loop-decl : goal.invariant-loop-decl
invariant-loop-decl l = l.printer ≡ with_bytes l.initial.printer (flat_map decl_text (take l.decl-index l.decl-items))
