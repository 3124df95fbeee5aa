use Rattle.std.proofs.Common.{◌≡◌, None, replicate}
use Rattle.dbp_replay.proofs.kept_lines.no_lines.Given as goal

abbrev pub invariant-loop : goal.invariant-loop
invariant-loop l = l.lines.items ≡ replicate l.counter None
