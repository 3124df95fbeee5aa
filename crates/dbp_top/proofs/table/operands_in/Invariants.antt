use Rattle.std.proofs.Common.{◌↔◌, drop, map, string_bytes}
use Rattle.dbp_top.specs.Commands.{first_operands}
use Rattle.dbp_top.specs.Patterns.{AllFit, form_of}
use Rattle.dbp_top.specs.declared.operands.Operands.{Operands}
use Rattle.dbp_top.proofs.table.operands_in.Given as goal

abbrev pub invariant-loop-place : goal.invariant-loop-place
invariant-loop-place l = (given : Operands) →
    AllFit (map form_of l.patterns) (map (λ w. string_bytes w) l.arguments) first_operands given
    ↔ AllFit (map form_of (drop l.place l.patterns)) (map (λ w. string_bytes w) (drop l.place l.arguments)) l.operands given
