use Rattle.std.proofs.Common.{length, ap, arith}
use Rattle.dbp_rules.specs.declared.wiring.Wiring.{Wiring}
use Rattle.word_rule.proofs.TaskCalls.{in_wiring}
use Rattle.party_turns.proofs.look_up.wired_of.Goals as goal

pub task-requires-2 : goal.task-requires-2
task-requires-2 c = omega (arith, in_wiring c.args.words.now c.args.seat.now c.requires, c.task.ensures, ap (λ (x : Wiring). length x.tasks) c.wiring.ensures)
