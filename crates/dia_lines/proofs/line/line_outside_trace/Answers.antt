use Rattle.dia_lines.proofs.Reading.{after-found}
use Rattle.dia_lines.proofs.line.line_outside_trace.Goals as goal

pub returns-clause-found : goal.returns-clause-found
returns-clause-found c before after =
    after-found before c.args.position.now after c.args.line.now c.in_ok-line.line c.in_ok-line.counts c.version_after-version.result c.place_after-place.result c.version_after-version.ensures c.place_after-place.ensures (c.in_ok-line.ensures.found before after)
