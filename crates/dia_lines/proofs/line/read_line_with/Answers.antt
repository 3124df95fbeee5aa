use Rattle.std.proofs.Common.{refl}
use Rattle.std.proofs.lemmas.Bool.{both_ways}
use Rattle.std.proofs.lemmas.Result.{err_from_is_err_and}
use Rattle.dia_lines.specs.Moves.{kept_in_trace, place_after_line}
use Rattle.dia_lines.proofs.Reading.{after-found, trace-found, trace-refused, trace-version}
use Rattle.dia_lines.proofs.TraceLaws.{all_allowed, trace_allowed}
use Rattle.dia_lines.proofs.line.read_line_with.Goals as goal

pub returns-in_err-trace_line-in-Trace-clause-fault : goal.returns-in_err-trace_line-in-Trace-clause-fault
returns-in_err-trace_line-in-Trace-clause-fault c =
    let p = err_from_is_err_and c.from_residual.result c.from_residual.ensures.1 in
    rw (p.1, p.2) (λ before after. trace-refused before c.args.position.now after c.args.line.now c.in_err-trace_line-in-Trace.field-0.0 c.in-Trace.is c.in_err-trace_line-in-Trace.ensures.fault)

pub returns-in_ok-trace_line-in-Trace-clause-found : goal.returns-in_ok-trace_line-in-Trace-clause-found
returns-in_ok-trace_line-in-Trace-clause-found c before after =
    let line = kept_in_trace c.in_ok-trace_line-in-Trace.field-0 in
    let place = place_after_line c.args.position.now.place line in
    let found = trace-found before c.args.position.now after c.args.line.now line c.in-Trace.is c.in_ok-trace_line-in-Trace.ensures.found in
    rw (c.past_trace_line.ensures.kept, c.past_trace_line.ensures.next)
    (after-found before c.args.position.now after c.args.line.now line c.args.position.now.counts c.args.position.now.version place (trace-version c.in_ok-trace_line-in-Trace.field-0 c.args.position.now.version) refl found)

pub returns-in_ok-trace_line-in-Trace-clause-bad_byte : goal.returns-in_ok-trace_line-in-Trace-clause-bad_byte
returns-in_ok-trace_line-in-Trace-clause-bad_byte c bad =
    let found = c.in_ok-trace_line-in-Trace.ensures.found in
    absurd (both_ways _ bad (trace_allowed c.args.line.now (all_allowed c.args.line.now found.0 found.1)))
