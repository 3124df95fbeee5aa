use Rattle.std.proofs.Common.{◌≡◌, ◌<◌, length, drop, slice_get}
use Rattle.dia_check.specs.Faults.{let_lines}
use Rattle.dia_check.proofs.tasks.let_line.Given as goal

abbrev pub invariant-loop-place : goal.invariant-loop-place
invariant-loop-place l =
    (slice_get (let_lines l.parts l.lines) l.number ≡ slice_get (let_lines (drop l.place l.parts) (drop l.place l.lines)) l.left)
    × (l.left < length (let_lines (drop l.place l.parts) (drop l.place l.lines)))
