use Rattle.std.proofs.Common.{arith}
use Rattle.word_rule.proofs.TaskCalls.{start_ended}
use Rattle.run_tests.proofs.word.calls.put.Goals as goal

pub overflow_add-part : goal.overflow_add-part
overflow_add-part c = rw c.part.ensures (omega (arith, start_ended c.args.words.now c.args.seat.now c.requires.here))
