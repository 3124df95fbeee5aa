use Rattle.std.specs.List.{list_any}
use Rattle.std.proofs.Common.{◌≡◌, false, take}
use Rattle.cpu_sim.specs.Choices.{last_of}
use Rattle.cpu_sim.specs.Processors.{read_blocks, served_on}
use Rattle.cpu_sim.specs.Services.{services}
use Rattle.cpu_sim.proofs.blocking.is_blocked.Given as goal

abbrev pub invariant-loop-read : goal.invariant-loop-read
invariant-loop-read l = list_any (read_blocks l.plan (served_on l.plan (services l.plan) l.run.time) (last_of l.plan l.run.released l.task)) (take l.read-index l.read-items) ≡ false
