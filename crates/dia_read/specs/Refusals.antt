-- The refusal of a text at a line.
use Rattle.std.specs.Prelude.{ℕ}
use Rattle.dia_lines.specs.declared.fault.LineError.{LineError}
use Rattle.dia_lines.specs.declared.fault.LineError.TheVariants as of_line
use Rattle.dia_read.specs.declared.fault.ReadFail.{ReadFail}
use Rattle.dia_read.specs.declared.fault.ReadFail.TheVariants.{Refused, NoMemory}

-- the refusal, if the line with the number is the first that isn't read
abbrev pub refused_at : ℕ → LineError → ReadFail
refused_at number (of_line.Refused code) = Refused number code
refused_at number of_line.NoMemory = NoMemory
