use Rattle.std.proofs.Common.{◌≡◌, map, take}
use Rattle.std.specs.List.{range_with_len}
use Rattle.dbp_plan.specs.Samples.{own_samples}
use Rattle.dbp_plan.proofs.samples.samples_by_input.Given as goal

abbrev pub invariant-loop-sample : goal.invariant-loop-sample
invariant-loop-sample l = l.by_input ≡ map (λ input. own_samples input (take l.sample-index l.sample-items)) (range_with_len 0 l.inputs)
