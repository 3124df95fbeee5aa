use Rattle.std.proofs.Common.{◌≡◌, take}
use Rattle.dbp_plan.specs.Samples.{input_value}
use Rattle.dbp_plan.proofs.plan.Plan.sample.Given as goal

abbrev pub invariant-loop-sample : goal.invariant-loop-sample
invariant-loop-sample l = l.value ≡ input_value l.self.diagram.inputs (take l.sample-index l.sample-items) l.input l.time
