use Rattle.std.proofs.Common.{◌≡◌, []}
use Rattle.std.specs.Prelude.{replicate}
use Rattle.dbp_plan.proofs.samples.no_samples.Given as goal

abbrev pub invariant-loop : goal.invariant-loop
invariant-loop l = l.by_input ≡ replicate l.counter []
