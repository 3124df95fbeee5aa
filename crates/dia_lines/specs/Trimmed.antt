-- A line without the spaces and tabs around it.
use Rattle.std.specs.Prelude.{ℕ, ◌-◌, List, length, take, drop}
use Rattle.std.specs.List.{prefix_len, suffix_len}
use Rattle.dia_lines.specs.Sections.{is_space}

abbrev pub after_spaces : List ℕ → List ℕ
after_spaces line = drop (prefix_len is_space line) line

abbrev pub before_spaces : List ℕ → List ℕ
before_spaces text = take (length text - suffix_len is_space text) text

-- the line without the spaces and tabs around it
unfoldable pub trimmed : List ℕ → List ℕ
trimmed line = before_spaces (after_spaces line)
