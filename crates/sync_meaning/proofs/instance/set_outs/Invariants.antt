use Rattle.std.proofs.Common.{◌≡◌, map, take}
use Rattle.expr_eval.specs.Values.{value_of}
use Rattle.sync_meaning.proofs.instance.set_outs.Given as goal

abbrev pub invariant-loop-out : goal.invariant-loop-out
invariant-loop-out l = l.outs ≡ map (λ o. value_of o.expr l.now) (take l.out-index l.task.outs)
