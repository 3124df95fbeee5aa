use Rattle.std.proofs.Common.{◌≡◌, ◌<◌, length}
use Rattle.std.specs.Option.{IfSome}
use Rattle.dbp_rules.specs.Rules as rule
use Rattle.dbp_core.proofs.conditions.highest_blocking.Given as goal

abbrev pub invariant-loop-other : goal.invariant-loop-other
invariant-loop-other l = record {
  found : l.found ≡ rule.highest l.wiring (rule.blocks l.wiring l.state l.number) l.other;
  within : IfSome l.found (λ q. q < length l.wiring.tasks);
}
