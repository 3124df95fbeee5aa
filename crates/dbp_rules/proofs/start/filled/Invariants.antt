use Rattle.std.proofs.Common.{◌≡◌, replicate}
use Rattle.dbp_rules.proofs.start.filled.Given as goal

abbrev pub invariant-loop : goal.invariant-loop
invariant-loop g l = l.list ≡ replicate l.counter l.item
