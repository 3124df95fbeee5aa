use Rattle.std.proofs.Common.{◌-◌, length}
use Rattle.sync_meaning.specs.Taken.{AreTaken}
use Rattle.sync_meaning.proofs.inputs.Inputs.take_until.Given as goal

abbrev pub invariant-loop-self : goal.invariant-loop-self
invariant-loop-self l = AreTaken l.plan.diagram.inputs l.plan.samples l.time l.self.taken l.self.values.items

abbrev pub decreases-loop-self : goal.decreases-loop-self
decreases-loop-self l = length l.samples - l.self.taken
