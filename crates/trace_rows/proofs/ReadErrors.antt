-- Why a reader that takes records of every length may fail.
use Rattle.std.proofs.Common.{◌≡◌, ℕ, true, false, List, Option, sym, ◌∙◌}
use Rattle.std.proofs.lemmas.Bool.{false≢true}
use Rattle.csv.specs.declared.error.ErrorKind.{ErrorKind}
use Rattle.csv.specs.declared.error.ErrorKind.TheVariants as kind
use Rattle.csv.specs.declared.reader.Reader.{Reader}
use Rattle.csv.specs.Reading.{ExplainsRead}
use Rattle.trace_rows.specs.ReaderErrors.{IsOfMemory}

pub want-of-memory : {R : Type 0} (left : R → Option (List ℕ)) (old new : Reader R) (why : ErrorKind) → ExplainsRead left old new false why → old.flexible ≡ true → IsOfMemory why
want-of-memory left old new (kind.Io e) explained flexible = tt
want-of-memory left old new (kind.Utf8 pos err) explained flexible = absurd (false≢true explained.0)
want-of-memory left old new (kind.UnequalLengths pos expected len) explained flexible = absurd (false≢true (sym explained.0 ∙ flexible))
want-of-memory left old new kind.OutOfMemory explained flexible = tt
want-of-memory left old new (kind.Serialize text) explained flexible = absurd explained
want-of-memory left old new (kind.Deserialize pos err) explained flexible = absurd explained
