use Rattle.virtual_time.specs.Runs.{all_at}
use Rattle.virtual_time.proofs.run.Run.overrun.Given as goal

abbrev pub ghost-late_task : goal.ghost-late_task
ghost-late_task g a = all_at g.cpus a.self.now.time
