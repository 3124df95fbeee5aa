-- The names of one kind that a line declares.
use Rattle.std.specs.Prelude.{ℕ, List}
use Rattle.dia_lines.specs.declared.item.Part.{Part}
use Rattle.dia_check.specs.declared.names.Kind.{Kind}
use Rattle.dia_check.specs.declared.names.Kind.TheVariants.{State, Sense, Read, Let}
use Rattle.dia_check.specs.Names.{state_name, sense_name, read_name, let_name}

abbrev pub named : Kind → Part → List (List ℕ)
named State p = state_name p
named Sense p = sense_name p
named Read p = read_name p
named Let p = let_name p
