-- Items with names of the language.
use Rattle.std.specs.Prelude.{◌≢◌, ℕ, All, AllPairs, List, ◌++◌, map}
use Rattle.dbp_plan.specs.declared.diagram.Diagram.{Diagram}
use Rattle.dia_tokens.specs.Printable.{IsPrintableName}

-- each item has a name of the language, and no two have the same
pub record AreNamed {X : Type 0} (name : X → List ℕ) (items : List X) : Type 0 where
  pub each : All (λ x. IsPrintableName (name x)) items
  pub apart : AllPairs (λ x y. name x ≢ name y) items

-- the names of the diagram's inputs, and then those of its events
abbrev pub input_and_event_names : Diagram → List (List ℕ)
input_and_event_names d = map (λ i. i.name) d.inputs ++ d.events
