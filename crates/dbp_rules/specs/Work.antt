-- What a task computes with.
use Rattle.std.specs.Prelude.{ℤ, List}

-- the words of its environment, its states after the instance, and the row of the last instance that has one
pub record WorkWords : Type 0 where
  pub now : List ℤ
  pub later : List ℤ
  pub row : List ℤ
