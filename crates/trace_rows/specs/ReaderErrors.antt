-- Why the reader of records may fail.
use Rattle.csv.specs.declared.error.ErrorKind.{ErrorKind}
use Rattle.csv.specs.declared.error.ErrorKind.TheVariants as kind

-- the error is of the reader underneath or of memory, and not of what a record holds
abbrev pub IsOfMemory : ErrorKind → Type 0
IsOfMemory (kind.Io e) = Unit {0}
IsOfMemory kind.OutOfMemory = Unit {0}
IsOfMemory _ = ⊥
