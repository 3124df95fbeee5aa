use Rattle.std.proofs.Common.{◌≡◌, ◌∙◌, [], ap, arith}
use Rattle.std.specs.Prelude.{replicate}
use Rattle.trace_rows.proofs.EventTimes.{all-none}
use Rattle.trace_rows.proofs.values.no_times.Goals as goal

pub returns : goal.returns
returns c =
    let count : c.loop.counter ≡ c.args.events = omega arith in
    all-none c.loop.times.items c.loop.invariant.1 ∙ ap (λ n. replicate n []) (c.loop.invariant.0 ∙ count)
