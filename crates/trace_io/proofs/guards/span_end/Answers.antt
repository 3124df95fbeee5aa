use Rattle.std.proofs.Common.{sym, ◌∙◌}
use Rattle.std.proofs.lemmas.Option.{slice_get_past}
use Rattle.trace_io.proofs.Counting.{base-count}
use Rattle.trace_io.proofs.guards.span_end.Goals as goal

pub returns-else-k-own-clause-end : goal.returns-else-k-own-clause-end
returns-else-k-own-clause-end c =
    rw (slice_get_past c.args.own.now c.args.k c.if-k-own.false) (c.occurrences.ensures.is ∙ sym (base-count c.args.until c.args.events.now c.args.clock c.requires.clock))
