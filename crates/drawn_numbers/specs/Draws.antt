-- What is drawn from SplitMix64.
use Rattle.std.specs.Prelude.{ℕ, zero, suc, ◌%◌}
use Rattle.rand_xoshiro.specs.SplitMix64.{mix_u64}

-- a number below the count, by the generator's next 64 bits
unfoldable pub drawn : ℕ → ℕ → ℕ
drawn count draws = (mix_u64 draws).0 % count

-- the generator after one draw
unfoldable pub after_draw : ℕ → ℕ
after_draw draws = (mix_u64 draws).1

-- the generator after so many draws
abbrev pub after_draws : ℕ → ℕ → ℕ
after_draws zero draws = draws
after_draws (suc n) draws = after_draw (after_draws n draws)
