-- Searches of names: whether a name is there, and where.
use Rattle.std.specs.Prelude.{ℕ, if◌then◌else◌, List, Option, Some, None}
use Rattle.dbp_plan.specs.NameLists.{is_among, index_of}
use Rattle.dia_read.specs.declared.document.RawTask.{RawTask}
use Rattle.dia_check.specs.Names.{task_names, port_names}

-- the index of the name among these, if it is one of them
abbrev pub find_index : List (List ℕ) → List ℕ → Option ℕ
find_index names n = if is_among names n then Some (index_of names n) else None

-- the index of the task with the name, and that of its out, if there are such
abbrev pub port_index : List RawTask → List ℕ → List ℕ → Option (ℕ × ℕ)
port_index tasks writer port =
    if is_among (port_names tasks writer) port
    then Some (index_of (task_names tasks) writer, index_of (port_names tasks writer) port)
    else None
