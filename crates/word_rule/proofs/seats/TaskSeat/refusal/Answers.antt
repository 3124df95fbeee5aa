use Rattle.word_rule.proofs.TaskCalls.{in_wiring}
use Rattle.word_rule.proofs.seats.TaskSeat.refusal.Goals as goal

pub task-requires : goal.task-requires
task-requires c = in_wiring c.args.words.now c.args.self.now c.requires
