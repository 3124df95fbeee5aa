-- A source in memory.
use Rattle.std.specs.Prelude.{◌≡◌, ℕ, ◌==◌, min, if◌then◌else◌, List, drop, length}
use Rattle.dbp_plan.specs.Calls.{one_more}
use Rattle.dbp_plan.specs.Numbers.{is_in}
use Rattle.dbp_plan.specs.declared.mem_source.MemSource.{MemSource}
use Rattle.dbp_plan.specs.declared.source.Got.{Got}
use Rattle.dbp_plan.specs.declared.source.Got.TheVariants.{Bytes, End, Failed}

-- the bytes still to come
abbrev pub bytes_left : MemSource → List ℕ
bytes_left s = drop s.at s.bytes.items

-- how many calls failed
abbrev pub failures : MemSource → ℕ
failures s = s.failed

-- how many calls gave the end
abbrev pub ends : MemSource → ℕ
ends s = s.ended

-- how many calls were made
abbrev pub calls : MemSource → ℕ
calls s = s.calls

-- how many bytes a call gives at most
abbrev pub piece_size : MemSource → ℕ
piece_size s = s.piece

-- the numbers of the calls that fail
abbrev pub failing_calls : MemSource → List ℕ
failing_calls s = s.fail.items

-- what the next read into a buffer of this length gives
abbrev pub next_got : MemSource → ℕ → Got
next_got s room =
    if is_in (failing_calls s) (one_more (calls s)) then Failed
    else (if length (bytes_left s) == 0 then End else Bytes (min (min (piece_size s) room) (length (bytes_left s))))

-- the read counts itself, and its failure; all else but the bytes left stays
pub record CountsRead (old new : MemSource) : Type 0 where
  pub call : calls new ≡ one_more (calls old)
  pub failure : failures new ≡ (if is_in (failing_calls old) (one_more (calls old)) then one_more (failures old) else failures old)
  pub piece : piece_size new ≡ piece_size old
  pub failing : failing_calls new ≡ failing_calls old

-- the buffer after what a read gives stays
abbrev pub KeepsRest : List ℕ → List ℕ → Got → Type 0
KeepsRest old new (Bytes n) = drop n new ≡ drop n old
KeepsRest old new _ = new ≡ old
