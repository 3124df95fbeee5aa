-- A sink in memory.
use Rattle.std.specs.Prelude.{◌≡◌, ℕ, ◌-◌, ◌==◌, ◌||◌, Bool, min, if◌then◌else◌, List, length}
use Rattle.dbp_plan.specs.declared.mem_sink.MemSink.{MemSink}
use Rattle.dbp_plan.specs.declared.sink.Put.{Put}
use Rattle.dbp_plan.specs.declared.sink.Put.TheVariants.{Bytes, Failed}
use Rattle.dbp_plan.specs.Calls.{one_more}
use Rattle.dbp_plan.specs.Numbers.{is_in}

-- the bytes written so far
abbrev pub stored_bytes : MemSink → List ℕ
stored_bytes s = s.store.items

-- how many calls failed
abbrev pub failures : MemSink → ℕ
failures s = s.failed

-- how many calls were made
abbrev pub calls : MemSink → ℕ
calls s = s.calls

-- how many bytes a call takes at most
abbrev pub piece_size : MemSink → ℕ
piece_size s = s.piece

-- how many bytes all calls together take at most
abbrev pub room_size : MemSink → ℕ
room_size s = s.room

-- the numbers of the calls that fail
abbrev pub failing_calls : MemSink → List ℕ
failing_calls s = s.fail.items

-- how many of so many bytes the next write has room for
abbrev pub next_size : MemSink → ℕ → ℕ
next_size s offered = min (min (piece_size s) offered) (room_size s - length (stored_bytes s))

-- whether the next write of so many bytes fails
abbrev pub next_fails : MemSink → ℕ → Bool
next_fails s offered = (next_size s offered == 0) || is_in (failing_calls s) (one_more (calls s))

-- what the next write of so many bytes takes
abbrev pub next_put : MemSink → ℕ → Put
next_put s offered = if next_fails s offered then Failed else Bytes (next_size s offered)

-- the write counts itself, and its failure; all else but the bytes stays
pub record CountsWrite (old new : MemSink) (offered : ℕ) : Type 0 where
  pub call : calls new ≡ one_more (calls old)
  pub failure : failures new ≡ (if next_fails old offered then one_more (failures old) else failures old)
  pub piece : piece_size new ≡ piece_size old
  pub room : room_size new ≡ room_size old
  pub failing : failing_calls new ≡ failing_calls old
