-- The words of the table that the tasks of a run share, and their addresses.
use Rattle.std.specs.Prelude.{◌≡◌, ℕ, ◌+◌, ◌*◌, ◌<◌, List, length, map, slice_index_or, sum_by, take}
use Rattle.std.specs.List.{enumerate_from}
use Rattle.dbp_plan.specs.declared.diagram.Diagram.{Diagram}
use Rattle.dbp_slots.specs.Slots.{counts_of}

-- how many slots a task has, and how many ports each of them
pub record SlotSizes : Type 0 where
  pub slots : ℕ
  pub ports : ℕ

-- what decides the addresses of the words
pub record Sizes : Type 0 where
  pub tasks : List SlotSizes
  pub links : ℕ

-- A word of the table: of the task i, of the link k, or of slot n of the task i, in which each port p has one.
pub data TableWord : Type 0 where
  gate : (i : ℕ) → TableWord
  ended : (i : ℕ) → TableWord
  aim : (i : ℕ) → TableWord
  claim : (k : ℕ) → TableWord
  stamp : (i n : ℕ) → TableWord
  word : (i n p : ℕ) → TableWord

-- those of a task that isn't there
abbrev pub no_sizes : SlotSizes
no_sizes = record { slots = 0; ports = 0 }

abbrev pub task_sizes : Sizes → ℕ → SlotSizes
task_sizes s i = slice_index_or s.tasks i no_sizes

-- a slot has its stamp and a word for each port
abbrev pub slot_size : SlotSizes → ℕ
slot_size t = 1 + t.ports

-- the slots of a task stand one after another
abbrev pub block_size : SlotSizes → ℕ
block_size t = t.slots * slot_size t

-- The blocks of the tasks stand one after another, after word 0, three words for each task and one for each link.
abbrev pub block_begin : Sizes → ℕ → ℕ
block_begin s i = 1 + 3 * length s.tasks + s.links + sum_by block_size (take i s.tasks)

-- how many words the table has, with word 0
abbrev pub word_count : Sizes → ℕ
word_count s = block_begin s (length s.tasks)

-- The address of the word. A task has three words first, and a slot its stamp and then its ports.
abbrev pub address_of : Sizes → TableWord → ℕ
address_of s (gate i) = 1 + 3 * i
address_of s (ended i) = 2 + 3 * i
address_of s (aim i) = 3 + 3 * i
address_of s (claim k) = 1 + 3 * length s.tasks + k
address_of s (stamp i n) = block_begin s i + n * slot_size (task_sizes s i)
address_of s (word i n p) = block_begin s i + n * slot_size (task_sizes s i) + 1 + p

-- the task has this slot
abbrev pub IsSlot : Sizes → ℕ → ℕ → Type 0
IsSlot s i n = (i < length s.tasks) × (n < (task_sizes s i).slots)

-- the word is one of the table's: task, link, slot and port are there
abbrev pub IsWord : Sizes → TableWord → Type 0
IsWord s (gate i) = i < length s.tasks
IsWord s (ended i) = i < length s.tasks
IsWord s (aim i) = i < length s.tasks
IsWord s (claim k) = k < s.links
IsWord s (stamp i n) = IsSlot s i n
IsWord s (word i n p) = IsSlot s i n × (p < (task_sizes s i).ports)

-- the sizes that a run of the diagram needs
abbrev pub sizes_of : Diagram → Sizes
sizes_of d =
    record {
      tasks = map (λ (i, t). record { slots = (counts_of d i).run; ports = length t.outs }) (enumerate_from 0 d.tasks);
      links = length d.links;
    }

-- the word of the table that has this address
pub record IsWordAt (s : Sizes) (address : ℕ) (w : TableWord) : Type 0 where
  pub in_table : IsWord s w
  pub is : address_of s w ≡ address
