use Rattle.std.proofs.Common.{◌≡◌, ◌++◌}
use Rattle.dbp_load.specs.Bodies.{early_read}
use Rattle.drawn_numbers.specs.Draws.{after_draws}
use Rattle.dbp_load.specs.Listed.{first_items}
use Rattle.dbp_load.proofs.reads.push_early_reads.Given as goal

abbrev pub invariant-loop-read : goal.invariant-loop-read
invariant-loop-read l = record {
  parts : l.parts ≡ l.initial.parts ++ first_items (early_read l.initial.draws l.number) l.read;
  draws : l.draws ≡ after_draws l.read l.initial.draws;
}
