-- The first line of a text, and the bytes after it.
use Rattle.std.specs.Prelude.{ℕ, ◌+◌, ◌==◌, List, [], length, take, drop, if◌then◌else◌}
use Rattle.std.specs.List.{position_or_len}
use Rattle.dia_lines.specs.Text.{is_end, without_return}

-- the first line without its end, and the bytes after its end
abbrev pub cut_line : List ℕ → List ℕ × List ℕ
cut_line bytes =
    let n = position_or_len is_end bytes in
    if n == length bytes then (bytes, []) else (without_return (take n bytes), drop (n + 1) bytes)
