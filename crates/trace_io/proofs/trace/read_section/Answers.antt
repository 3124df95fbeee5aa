use Rattle.std.proofs.Common.{◌≡◌, ◌∙◌, ◌-◌, Err, ◌≤◌, ℕ, List, ◌∷◌, Some, true, length, map, drop, take, sym, ap, arith, rules}
use Rattle.std.proofs.lemmas.List.{length-drop}
use Rattle.std.proofs.lemmas.Result.{err_from_is_err_and}
use Rattle.dbp_plan.specs.FirstFault.{first_fault}
use Rattle.trace_rows.specs.declared.fail.TraceCode.{TraceCode}
use Rattle.trace_rows.specs.declared.fail.TraceFail.TheVariants.{Refused}
use Rattle.trace_rows.specs.Headers.{is_header, kind_of_column}
use Rattle.trace_rows.specs.Rows.{row_faults}
use Rattle.trace_rows.specs.Records.{fields_of, records_left, records_of}
use Rattle.trace_io.proofs.TraceFaults.{rows-refused, whole-section}
use Rattle.trace_io.proofs.TraceLines.{few-lines, rest-whole}
use Rattle.trace_io.proofs.trace.read_section.Goals as goal

pub bounds-lines-0 : goal.bounds-lines-0
bounds-lines-0 c =
    let doc = c.args.doc.now in
    let found : c.in_ok-read.field-0 ≡ true = search rules in
    let first : records_of (Some c.args.text.now) ≡ fields_of c.read.new.record ∷ records_left c.read.new.self = sym c.new-records.ensures.left ∙ rw found at c.in_ok-read.ensures.left in
    let some : 1 ≤ length c.items-lines.result.now =
    rw c.items-lines.ensures.value (omega (arith, few-lines doc c.args.text.now c.requires.printable c.requires.lines c.requires.section, ap (λ (rs : List (List (List ℕ))). length rs) first)) in
    search rules

pub slice_bounds-rest-count : goal.slice_bounds-rest-count
slice_bounds-rest-count c =
    let doc = c.args.doc.now in
    let found : c.in_ok-read.field-0 ≡ true = search rules in
    let first : records_of (Some c.args.text.now) ≡ fields_of c.read.new.record ∷ records_left c.read.new.self = sym c.new-records.ensures.left ∙ rw found at c.in_ok-read.ensures.left in
    rw c.items-lines.ensures.value (omega (arith, few-lines doc c.args.text.now c.requires.printable c.requires.lines c.requires.section, ap (λ (rs : List (List (List ℕ))). length rs) first))

pub slice_bounds-rest-start : goal.slice_bounds-rest-start
slice_bounds-rest-start c =
    let doc = c.args.doc.now in
    let found : c.in_ok-read.field-0 ≡ true = search rules in
    let first : records_of (Some c.args.text.now) ≡ fields_of c.read.new.record ∷ records_left c.read.new.self = sym c.new-records.ensures.left ∙ rw found at c.in_ok-read.ensures.left in
    let some : 1 ≤ length c.items-lines.result.now =
    rw c.items-lines.ensures.value (omega (arith, few-lines doc c.args.text.now c.requires.printable c.requires.lines c.requires.section, ap (λ (rs : List (List (List ℕ))). length rs) first)) in
    search rules

pub row_values-requires-clause-lines : goal.row_values-requires-clause-lines
row_values-requires-clause-lines c =
    let doc = c.args.doc.now in
    let found : c.in_ok-read.field-0 ≡ true = search rules in
    let first : records_of (Some c.args.text.now) ≡ fields_of c.read.new.record ∷ records_left c.read.new.self = sym c.new-records.ensures.left ∙ rw found at c.in_ok-read.ensures.left in
    rw (c.items-lines.ensures.value, rest-whole doc.lines.trace)
    (omega (arith, few-lines doc c.args.text.now c.requires.printable c.requires.lines c.requires.section, ap (λ (rs : List (List (List ℕ))). length rs) first, length-drop 1 doc.lines.trace))

pub row_values-requires-clause-inputs : goal.row_values-requires-clause-inputs
row_values-requires-clause-inputs c = rw c.items-inputs.ensures.value c.requires.ranked.closed.inputs

pub returns-in_err-said-clause-fault : goal.returns-in_err-said-clause-fault
returns-in_err-said-clause-fault c =
    let doc = c.args.doc.now in
    let d = c.args.diagram.now in
    let header = fields_of c.read.new.record in
    let rows = records_left c.read.new.self in
    let found : c.in_ok-read.field-0 ≡ true = search rules in
    let first : records_of (Some c.args.text.now) ≡ header ∷ rows = sym c.new-records.ensures.left ∙ rw found at c.in_ok-read.ensures.left in
    let good : is_header d.inputs d.events header ≡ true = search rules in
    let lines : take (length c.items-lines.result.now - 1) (drop 1 c.items-lines.result.now) ≡ drop 1 doc.lines.trace = rw c.items-lines.ensures.value (rest-whole doc.lines.trace) in
    let p = err_from_is_err_and c.from_residual-in_err-said.result c.from_residual-in_err-said.ensures.1 in
    let fault : (line : ℕ) (code : TraceCode) → c.in_err-said.field-0.0 ≡ Refused line code → first_fault (row_faults d.until (map (kind_of_column d.inputs) (drop 1 header)) rows (drop 1 doc.lines.trace)) ≡ Some (line, code) =
    λ line code is. rw (c.items-inputs.ensures.value, lines) at (c.in_err-said.ensures.fault line code (ap Err is)) in
    rw (p.1, p.2) (rows-refused doc d c.args.text.now header rows c.requires.section first good c.in_err-said.field-0.0 fault)

pub returns-clause-trace : goal.returns-clause-trace
returns-clause-trace c =
    let doc = c.args.doc.now in
    let d = c.args.diagram.now in
    let header = fields_of c.read.new.record in
    let rows = records_left c.read.new.self in
    let found : c.in_ok-read.field-0 ≡ true = search rules in
    let first : records_of (Some c.args.text.now) ≡ header ∷ rows = sym c.new-records.ensures.left ∙ rw found at c.in_ok-read.ensures.left in
    let good : is_header d.inputs d.events header ≡ true = search rules in
    let lines : take (length c.items-lines.result.now - 1) (drop 1 c.items-lines.result.now) ≡ drop 1 doc.lines.trace = rw c.items-lines.ensures.value (rest-whole doc.lines.trace) in
    whole-section doc d c.args.text.now header rows c.requires.section first good (rw (c.items-inputs.ensures.value, lines) at c.in_ok-said.ensures.faultless) c.in_ok-said.said.events.items c.in_ok-said.said.samples
    (rw c.items-events.ensures.value at c.in_ok-said.ensures.events) (rw c.items-inputs.ensures.value at c.in_ok-said.ensures.samples)
