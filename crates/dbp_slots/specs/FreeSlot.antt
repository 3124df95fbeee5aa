-- Which slot of a task may be written next.
use Rattle.std.specs.Prelude.{ℕ, ◌<◌, ◌⊎◌, Contains, List}

-- the slot is the least one below the bound that is neither claimed nor kept
pub record IsLeastFree (claims kept : List ℕ) (slots slot : ℕ) : Type 0 where
  pub below : slot < slots
  pub unclaimed : Contains claims slot → ⊥
  pub unkept : Contains kept slot → ⊥
  pub least : (s : ℕ) → s < slot → Contains claims s ⊎ Contains kept s
