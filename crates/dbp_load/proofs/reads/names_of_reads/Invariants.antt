use Rattle.std.proofs.Common.{◌≡◌}
use Rattle.dbp_load.specs.Bodies.{read_name}
use Rattle.dbp_load.specs.Listed.{first_items}
use Rattle.dbp_load.proofs.reads.names_of_reads.Given as goal

abbrev pub invariant-loop-read : goal.invariant-loop-read
invariant-loop-read l = l.names ≡ first_items read_name l.read
