use Rattle.std.proofs.Common.{◌≡◌, ◌∷◌, ◌++◌, map, take, string_bytes}
use Rattle.std.specs.List.{flat_map}
use Rattle.dbp_top.specs.Patterns.{form_of, form_text}
use Rattle.dbp_top.proofs.table.push_patterns.Given as goal

abbrev pub invariant-loop-pattern : goal.invariant-loop-pattern
invariant-loop-pattern l = string_bytes l.text ≡ string_bytes l.initial.text ++ flat_map (λ f. 32 ∷ form_text f) (map form_of (take l.pattern-index l.patterns))
