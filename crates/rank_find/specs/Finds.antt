-- What is found of a diagram's tasks if they have no order.
use Rattle.std.specs.Prelude.{◌≡◌, ℕ, List}
use Rattle.dbp_plan.specs.declared.diagram.Diagram.{Diagram}
use Rattle.rank_find.specs.declared.fail.RankFail.{RankFail}
use Rattle.rank_find.specs.declared.fail.RankFail.TheVariants.{Cycle, NoMemory}
use Rattle.rank_find.specs.FirstCycles.{IsFirstCycle, names_of}
use Rattle.rank_find.specs.Links.{WritesTo}

-- these are the names of the tasks of the first cycle of direct links
pub record AreNamesOfFirstCycle (d : Diagram) (names : List (List ℕ)) : Type 0 where
  pub start : ℕ
  pub cycle : List ℕ
  pub is : IsFirstCycle (WritesTo d) start cycle
  pub named : names ≡ names_of d cycle

-- what a failure says of the diagram; out of memory says nothing
abbrev pub IsRankFail : Diagram → RankFail → Type 0
IsRankFail d (Cycle names) = AreNamesOfFirstCycle d names
IsRankFail d NoMemory = Unit {0}
