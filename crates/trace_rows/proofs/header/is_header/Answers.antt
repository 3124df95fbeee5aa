use Rattle.std.proofs.Common.{◌≡◌, Some, None, false, true, sym, ◌∙◌, arith, rules}
use Rattle.csv.specs.Records.{field_at, fields_of}
use Rattle.trace_rows.proofs.HeaderColumns.{some-place, no-header, header-starts, header-unknown, header-repeated, header-later}
use Rattle.trace_rows.proofs.header.is_header.Goals as goal

pub returns-then-not-is_cell : goal.returns-then-not-is_cell
returns-then-not-is_cell c =
    let other : c.is_cell.result ≡ false = search rules in
    no-header c.args.inputs.now c.args.events.now (fields_of c.args.first.now) (sym c.is_cell.ensures ∙ other)

pub loop-place-init : goal.loop-place-init
loop-place-init c =
    let here : c.is_cell.result ≡ true = search rules in
    header-starts c.args.inputs.now c.args.events.now (fields_of c.args.first.now) (sym c.is_cell.ensures ∙ here)

pub returns-in_default : goal.returns-in_default
returns-in_default c =
    let fields = fields_of c.args.first.now in
    let none : None ≡ field_at fields c.loop-place.place = rw c.in_default.is at c.get.ensures.value in
    absurd (cc (none, some-place fields c.loop-place.place (omega arith)))

pub returns-then-not-is_known : goal.returns-then-not-is_known
returns-then-not-is_known c =
    let fields = fields_of c.args.first.now in
    let at : Some c.in-Some.name.now ≡ field_at fields c.loop-place.place = rw c.in-Some.is at c.get.ensures.value in
    let strange : c.is_known.result ≡ false = search rules in
    header-unknown c.args.inputs.now c.args.events.now fields c.loop-place.place c.in-Some.name.now c.loop-place.invariant at (sym c.is_known.ensures ∙ strange)

pub returns-then-is_repeated : goal.returns-then-is_repeated
returns-then-is_repeated c =
    let fields = fields_of c.args.first.now in
    let at : Some c.in-Some.name.now ≡ field_at fields c.loop-place.place = rw c.in-Some.is at c.get.ensures.value in
    let known : c.is_known.result ≡ true = search rules in
    header-repeated c.args.inputs.now c.args.events.now fields c.loop-place.place c.in-Some.name.now c.loop-place.invariant at (sym c.is_known.ensures ∙ known) (sym c.is_repeated.ensures ∙ c.if-is_repeated.true)

pub loop-place-preserved : goal.loop-place-preserved
loop-place-preserved c =
    let fields = fields_of c.args.first.now in
    let at : Some c.in-Some.name.now ≡ field_at fields c.loop-place.place = rw c.in-Some.is at c.get.ensures.value in
    let known : c.is_known.result ≡ true = search rules in
    header-later c.args.inputs.now c.args.events.now fields c.loop-place.place c.in-Some.name.now (omega arith) c.loop-place.invariant at (sym c.is_known.ensures ∙ known) (sym c.is_repeated.ensures ∙ c.if-is_repeated.false)
