-- The records of a trace section.
use Rattle.std.specs.Prelude.{◌≡◌, ℕ, ◌==◌, List, [], map, drop, slice_index_or, true, Option, Some, None}
use Rattle.std.specs.List.{slice_split}
use Rattle.csv.specs.Reading.{Ready, default_config, source_of}
use Rattle.csv.specs.Records.{trimmed}
pub use Rattle.csv.specs.Records.{fields_of}
use Rattle.csv.specs.declared.parser.State.TheVariants as state
use Rattle.csv.specs.declared.reader.Trim.TheVariants as trim
use Rattle.dia_lines.specs.Lines.{SaysInTrace, row}
use Rattle.dia_lines.specs.Text.{lines_of}
use Rattle.dia_read.specs.Printable.{KeepsItself}
use Rattle.trace_rows.specs.declared.section.Records.{Records}

-- the cells of a line: it is cut at its commas (44), and white space around a cell doesn't count; of that a kept line has
-- spaces and tabs alone
abbrev pub cells_of : List ℕ → List (List ℕ)
cells_of line = map trimmed (slice_split (λ b. b == 44) line)

-- the cells of each line that the section keeps; none if there is no section
abbrev pub records_of : Option (List ℕ) → List (List (List ℕ))
records_of None = []
records_of (Some text) = map cells_of (lines_of text)

-- the first record is the header: after its first cell stand the names of the columns
abbrev pub columns_in : List (List (List ℕ)) → List (List ℕ)
columns_in records = drop 1 (slice_index_or records 0 [])

-- each other record is a row
abbrev pub rows_in : List (List (List ℕ)) → List (List (List ℕ))
rows_in records = drop 1 records

-- ---- a section that is read record by record

-- the bytes that haven't been read; none are known after out of memory
abbrev pub bytes_left : Records → Option (List ℕ)
bytes_left r = source_of (λ s. Some s.now) r.reader

-- the records that haven't been read
abbrev pub records_left : Records → List (List (List ℕ))
records_left r = records_of (bytes_left r)

-- the next record begins with the next byte: what is left is lines that a section keeps, and they are read with commas
-- and quotes, without a header row, flexible in length and untrimmed
pub record StandsAtLine (r : Records) : Type 0 where
  pub text : List ℕ
  pub left : bytes_left r ≡ Some text
  pub kept : KeepsItself SaysInTrace row text
  pub config : r.reader.config ≡ default_config
  pub state : r.reader.state ≡ state.StartRecord
  pub ready : Ready r.reader
  pub flexible : r.reader.flexible ≡ true
  pub untrimmed : r.reader.trim ≡ trim.None
