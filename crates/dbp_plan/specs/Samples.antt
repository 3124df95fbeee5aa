-- The value of an input at a time.
use Rattle.std.specs.Prelude.{ℕ, ℤ, pos, Bool, ◌==◌, ◌&&◌, ◌||◌, nat_le, nat_lt, List, filter, map, fold, slice_get}
use Rattle.std.specs.Option.{option_map_or}
use Rattle.dbp_plan.specs.declared.diagram.Input.{Input}
use Rattle.dbp_plan.specs.declared.schedule.Sample.{Sample}

-- whether the sample is one of the input at or before the time
abbrev pub is_given : ℕ → ℕ → Sample → Bool
is_given input time s = (s.input == input) && nat_le s.time time

-- the last of the values, or the first one if there are none
abbrev pub last_value : ℤ → List ℤ → ℤ
last_value first values = fold (λ _ v. v) first values

-- the samples of one input, in their order
abbrev pub own_samples : ℕ → List Sample → List Sample
own_samples input samples = filter (λ s. s.input == input) samples

-- the value before the first sample
abbrev pub first_value : List Input → ℕ → ℤ
first_value inputs input = option_map_or (λ i. i.first) (slice_get inputs input) (pos 0)

-- the last value given for the input at or before the time, else its first value
abbrev pub input_value : List Input → List Sample → ℕ → ℕ → ℤ
input_value inputs samples input time = last_value (first_value inputs input) (map (λ s. s.value) (filter (is_given input time) samples))

-- the value that an input's own samples give it: the last one at or before the time, else its first value
abbrev pub value_until : ℤ → List Sample → ℕ → ℤ
value_until first samples time = last_value first (map (λ s. s.value) (filter (λ s. nat_le s.time time) samples))

-- whether the sample stands before the other: by time, then by input
abbrev pub is_before : Sample → Sample → Bool
is_before a b = nat_lt a.time b.time || ((a.time == b.time) && nat_lt a.input b.input)
