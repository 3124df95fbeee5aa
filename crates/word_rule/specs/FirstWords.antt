-- The words of the table before the first step.
use Rattle.std.specs.Prelude.{◌≡◌, ◌≢◌, ℕ, zero, pos, ◌<◌, nat_lt, if◌then◌else◌, List, length, map, slice_index, slice_index_or}
use Rattle.dbp_plan.specs.declared.diagram.Out.{Out}
use Rattle.dbp_plan.specs.declared.plan.Plan.{Plan}
use Rattle.dbp_slots.specs.TableWords.{IsWord, Sizes, TableWord, address_of, sizes_of, stamp, word, word_count}
use Rattle.dbp_rules.specs.LoadedWords.{start_number}
use Rattle.dbp_rules.specs.SharedWords.{signed_value}

-- once the first slots of so many tasks are filled
abbrev pub number_so_far : Plan → ℕ → TableWord → ℕ
number_so_far p count (stamp i zero) = if nat_lt i count then start_number p (stamp i 0) else 0
number_so_far p count (word i zero port) = if nat_lt i count then start_number p (word i 0 port) else 0
number_so_far p count q = 0

pub record HasNumbersSoFar (p : Plan) (count : ℕ) (words : List ℕ) : Type 0 where
  pub size : length words ≡ word_count (sizes_of p.diagram)
  pub each : (q : TableWord) → IsWord (sizes_of p.diagram) q → slice_index words (address_of (sizes_of p.diagram) q) ≡ number_so_far p count q

-- the word isn't one of slot 0 of the task
abbrev pub IsNotInFirstSlot : ℕ → TableWord → Type 0
IsNotInFirstSlot i q = (q ≢ stamp i 0) × ((port : ℕ) → q ≢ word i 0 port)

-- slot 0 of the task is stamped and holds so many of the first values of its outs; all other words are as they were
pub record HasSlotFilled (s : Sizes) (i : ℕ) (outs : List Out) (count : ℕ) (old words : List ℕ) : Type 0 where
  pub size : length words ≡ length old
  pub stamped : slice_index words (address_of s (stamp i 0)) ≡ 1
  pub values : (port : ℕ) → port < count → slice_index words (address_of s (word i 0 port)) ≡ signed_value (slice_index_or (map (λ o. o.first) outs) port (pos 0))
  pub others : (q : TableWord) → IsWord s q → IsNotInFirstSlot i q → slice_index words (address_of s q) ≡ slice_index old (address_of s q)
