use Rattle.std.proofs.Common.{◌≡◌, ◌≤◌, length, take}
use Rattle.std.specs.List.{flat_map}
use Rattle.dia_check.specs.Names.{event_name}
use Rattle.dia_check.proofs.names.event_names.Given as goal

abbrev pub invariant-loop-decl : goal.invariant-loop-decl
invariant-loop-decl l = (l.names ≡ flat_map event_name (take l.decl-index l.decls)) × (length l.names ≤ l.decl-index)
