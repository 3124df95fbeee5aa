-- Lists of distinct numbers.
use Rattle.std.specs.Prelude.{◌≢◌, ℕ, ◌<◌, All, AllPairs, List}

-- distinct numbers below a bound
pub record AreListed (count : ℕ) (numbers : List ℕ) : Type 0 where
  pub named : All (λ i. i < count) numbers
  pub once : AllPairs (λ i j. i ≢ j) numbers
