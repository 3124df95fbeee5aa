-- What the code finds at the beginning of a line, without where it lies in memory.
use Rattle.dia_tokens.specs.declared.lexing.Front.{Front}
use Rattle.dia_tokens.specs.declared.lexing.Front.TheVariants as held
use Rattle.dia_tokens.specs.Pieces.{seen}
use Rattle.dia_tokens.specs.Reading as reading

abbrev pub front : Front → reading.Front
front held.Nothing = reading.nothing
front held.Bad = reading.bad
front (held.Found p rest) = reading.found (seen p) rest.now
