use Rattle.dbp_core.proofs.machine.Core.new.Goals as goal

pub returns-clause-start : goal.returns-clause-start
returns-clause-start c = rw c.in_ok-new.ensures.ok at c.of_shared.ensures.start
