use Rattle.std.proofs.Common.{◌≡◌, ◌∙◌, Err, ℕ, List, [], length, ap, arith}
use Rattle.std.specs.Prelude.{replicate}
use Rattle.std.proofs.lemmas.Result.{err_from_is_err_and}
use Rattle.trace_rows.specs.declared.fail.TraceFail.TheVariants.{Refused}
use Rattle.trace_io.proofs.OwnSamples.{none-given, none-of-one, none-of-one-rise, none-rise}
use Rattle.trace_io.proofs.TraceFaults.{empty-refused, empty-total, no-section}
use Rattle.trace_io.proofs.trace.empty_trace.Goals as goal

pub check_occurrences-requires-clause-table : goal.check_occurrences-requires-clause-table
check_occurrences-requires-clause-table c = record {
  last = c.requires.ranked.closed.until;
  rising = λ k d below. absurd (omega (arith, below));
  ends = λ k d below. absurd (omega (arith, below));
}

pub check_occurrences-requires-clause-rising : goal.check_occurrences-requires-clause-rising
check_occurrences-requires-clause-rising c = none-rise

pub returns-in_err-check_occurrences-clause-fault : goal.returns-in_err-check_occurrences-clause-fault
returns-in_err-check_occurrences-clause-fault c =
    let told = c.in_err-check_occurrences.ensures in
    let p = err_from_is_err_and c.from_residual.result c.from_residual.ensures.1 in
    rw (p.1, p.2) (empty-refused c.args.doc.now c.args.diagram.now _ _ told.line told.code c.requires.section (told.many [] (none-given c.args.diagram.now.tasks)))

pub returns-in_err-check_occurrences-clause-many : goal.returns-in_err-check_occurrences-clause-many
returns-in_err-check_occurrences-clause-many c many =
    let told = c.in_err-check_occurrences.ensures in
    let p = err_from_is_err_and c.from_residual.result c.from_residual.ensures.1 in
    p.1 ∙ ap Err (p.2 ∙ λ j. Refused (told.line j) (told.code j))

pub returns-in_err-no_times-clause-many : goal.returns-in_err-no_times-clause-many
returns-in_err-no_times-clause-many c many = absurd (omega (arith, many, c.in_ok-check_occurrences.ensures.few [] (none-given c.args.diagram.now.tasks)))

pub returns-clause-trace : goal.returns-clause-trace
returns-clause-trace c =
    let count : length c.items.result.now ≡ length c.args.diagram.now.events = ap (λ (es : List (List ℕ)). length es) c.items.ensures.value in
    no-section c.args.doc.now c.args.diagram.now c.in_ok-no_times.field-0.items c.new.result c.requires.section (c.in_ok-no_times.ensures ∙ ap (λ n. replicate n []) count) c.new.ensures

pub returns-clause-own : goal.returns-clause-own
returns-clause-own c = rw (c.new.ensures, c.new-2.ensures) (none-of-one (length c.args.diagram.now.inputs) c.args.diagram.now.tasks)

pub returns-clause-rising : goal.returns-clause-rising
returns-clause-rising c = rw (c.new.ensures, c.new-2.ensures) (none-of-one-rise (length c.args.diagram.now.inputs))

pub returns-clause-few : goal.returns-clause-few
returns-clause-few c = omega (arith, empty-total c.args.doc.now c.args.diagram.now c.requires.section, c.in_ok-check_occurrences.ensures.few [] (none-given c.args.diagram.now.tasks))

pub returns-clause-many : goal.returns-clause-many
returns-clause-many c many = absurd (omega (arith, many, c.in_ok-check_occurrences.ensures.few [] (none-given c.args.diagram.now.tasks)))
