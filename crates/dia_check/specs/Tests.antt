-- Tests on one item, as the code makes them.
use Rattle.std.specs.Prelude.{ℕ, Bool, false, List}
use Rattle.std.specs.Str.{bytes_eq}
use Rattle.dia_lines.specs.declared.item.Decl.{Decl}
use Rattle.dia_lines.specs.declared.item.Decl.TheVariants.{Input, Event}
use Rattle.dia_lines.specs.declared.item.Part.{Part}
use Rattle.dia_lines.specs.declared.item.Part.TheVariants.{State, Sense, Read, Let, Next, Out}
use Rattle.dia_read.specs.declared.document.RawTask.{RawTask}
use Rattle.dia_check.specs.Names.{decl_name}

abbrev pub is_input : List ℕ → Decl → Bool
is_input n (Input m first) = bytes_eq m n
is_input n (Event m) = false

abbrev pub is_event : List ℕ → Decl → Bool
is_event n (Input m first) = false
is_event n (Event m) = bytes_eq m n

abbrev pub is_decl : List ℕ → Decl → Bool
is_decl n d = bytes_eq (decl_name d) n

abbrev pub is_task : List ℕ → RawTask → Bool
is_task n t = bytes_eq t.name n

abbrev pub is_state : List ℕ → Part → Bool
is_state n (State m first) = bytes_eq m n
is_state n _ = false

abbrev pub is_out : List ℕ → Part → Bool
is_out n (Out m first e) = bytes_eq m n
is_out n _ = false

abbrev pub is_next : List ℕ → Part → Bool
is_next n (Next m e) = bytes_eq m n
is_next n _ = false

-- a state, a sense, a read or a let of the name
abbrev pub binds : List ℕ → Part → Bool
binds n (State m first) = bytes_eq m n
binds n (Sense m input) = bytes_eq m n
binds n (Read m delay writer port at) = bytes_eq m n
binds n (Let m e) = bytes_eq m n
binds n _ = false

-- the line declares the name in its task's space
abbrev pub is_declared : List ℕ → Part → Bool
is_declared n (Next m e) = false
is_declared n (Out m first e) = bytes_eq m n
is_declared n p = binds n p
