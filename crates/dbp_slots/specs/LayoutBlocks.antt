-- The blocks of a layout, one for each task.
use Rattle.std.specs.Prelude.{◌≡◌, ℕ, ◌<◌, List, map, slice_index_or, take}
use Rattle.dbp_slots.specs.declared.layouts.Block.{Block}
use Rattle.dbp_slots.specs.TableWords.{Sizes, SlotSizes, block_begin}

-- that of a task that isn't there
abbrev pub no_block : Block
no_block = record { begin = 0; slots = 0; ports = 0 }

abbrev pub block_sizes : Block → SlotSizes
block_sizes b = record { slots = b.slots; ports = b.ports }

-- the sizes that the first so many blocks tell, one for each task, with so many links
abbrev pub sizes_by : ℕ → ℕ → List Block → Sizes
sizes_by tasks links blocks = record { tasks = map block_sizes (take tasks blocks); links = links }

-- each of the first blocks begins where these sizes put it
abbrev pub BeginInOrder : Sizes → List Block → ℕ → Type 0
BeginInOrder s blocks count = (i : ℕ) → i < count → (slice_index_or blocks i no_block).begin ≡ block_begin s i
