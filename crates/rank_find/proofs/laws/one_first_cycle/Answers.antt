use Rattle.std.proofs.Common.{sym, ◌∙◌, ap}
use Rattle.rank_find.specs.FirstCycles.{names_of}
use Rattle.rank_find.specs.Links.{WritesTo}
use Rattle.rank_find.proofs.Cycles.{one-first_cycle}
use Rattle.rank_find.proofs.laws.one_first_cycle.Goals as goal

pub returns-clause-cycle : goal.returns-clause-cycle
returns-clause-cycle c = λ d start begin one other is_one is_other. (one-first_cycle (WritesTo d) start begin one other is_one is_other).1

pub returns-clause-names : goal.returns-clause-names
returns-clause-names c = λ d one other are_one are_other.
    are_one.named ∙ ap (names_of d) ((one-first_cycle (WritesTo d) are_one.start are_other.start are_one.cycle are_other.cycle are_one.is are_other.is).1) ∙ sym are_other.named
