use Rattle.std.proofs.Common.{rules, ◌≡◌, ℕ, [], get_or, sym, ap, ◌∙◌, arith}
use Rattle.std.specs.List.Sorted.{IsStrictlyIncreasing}
use Rattle.std.proofs.lemmas.List.Elements.{All-get_or}
use Rattle.trace_io.specs.Counts.{count_of}
use Rattle.trace_io.proofs.Counting.{clock-before, event-before}
use Rattle.trace_io.proofs.clocks.count_before.Goals as goal

pub returns-in-Every-clause-before : goal.returns-in-Every-clause-before
returns-in-Every-clause-before c =
    clock-before c.args.until c.args.time c.args.events.now c.args.clock c.in-Every.period c.in-Every.offset c.in-Every.is c.requires.clock c.occurrences.result (c.occurrences.ensures.is ∙ ap (λ (n : ℕ). count_of n c.args.events.now c.args.clock) c.min.ensures)

pub returns-in-Some-clause-before : goal.returns-in-Some-clause-before
returns-in-Some-clause-before c =
    let found = c.in-Some.ensures.lookup in
    let times : c.items.result.now ≡ get_or c.args.events.now c.in-On.event [] = c.items.ensures.value ∙ found.3.1 [] in
    let up : IsStrictlyIncreasing (get_or c.args.events.now c.in-On.event []) = All-get_or IsStrictlyIncreasing c.args.events.now c.in-On.event [] found.3.0 c.requires.table.rising in
    rw (c.in-On.is, sym times) (event-before c.items.result.now c.args.time c.partition_point.result (rw times up) (omega (arith, c.partition_point.ensures.bound)) c.partition_point.ensures.partitioned (λ a r q k. search rules))
