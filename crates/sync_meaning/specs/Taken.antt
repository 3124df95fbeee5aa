-- The samples that a run has taken, and the inputs' values after them.
use Rattle.std.specs.Prelude.{◌≡◌, ℕ, ℤ, ◌≤◌, All, List, length, map, slice_get, take, Some}
use Rattle.dbp_plan.specs.declared.diagram.Input.{Input}
use Rattle.dbp_plan.specs.declared.schedule.Sample.{Sample}
use Rattle.dbp_plan.specs.Samples.{first_value, input_value, last_value, own_samples}

-- each input has the last value that the samples give it, else its first one
abbrev pub HasLastValues : List Input → List Sample → List ℤ → Type 0
HasLastValues inputs samples values = (x : ℕ) (value : ℤ) → slice_get values x ≡ Some value → value ≡ last_value (first_value inputs x) (map (λ s. s.value) (own_samples x samples))

-- each input has its value at the time
abbrev pub AreValuesAt : List Input → List Sample → ℕ → List ℤ → Type 0
AreValuesAt inputs samples time values = (x : ℕ) (value : ℤ) → slice_get values x ≡ Some value → value ≡ input_value inputs samples x time

-- so many samples are taken, none of them later than the time, and the inputs have these values
pub record AreTaken (inputs : List Input) (samples : List Sample) (time taken : ℕ) (values : List ℤ) : Type 0 where
  pub size : length values ≡ length inputs
  pub within : taken ≤ length samples
  pub come : All (λ s. s.time ≤ time) (take taken samples)
  pub last : HasLastValues inputs (take taken samples) values
