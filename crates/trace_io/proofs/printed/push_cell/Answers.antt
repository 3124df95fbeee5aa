use Rattle.std.proofs.Common.{rules, ◌≡◌, ◌≤◌, ◌<◌, ◌+◌, ◌-◌, ℕ, arith, drop, length, refl, ap, ◌∙◌, w64}
use Rattle.std.specs.Fmt.{signed_decimal}
use Rattle.std.proofs.lemmas.Int.{to_z-of_z}
use mir.Val.{to_z, of_z}
use Rattle.trace_io.specs.declared.printed.TheConstants.{PIECE}
use Rattle.trace_io.proofs.Pieces.{few-digits, with-comma-before}
use Rattle.trace_io.proofs.printed.push_cell.Goals as goal

pub push_piece-requires-clause-end : goal.push_piece-requires-clause-end
push_piece-requires-clause-end c =
    let w = c.write_number-start in
    let shown : to_z w64 (of_z w64 c.args.number) ≡ c.args.number = search (rules, to_z-of_z) in
    let written = rw shown at (w.ensures.written w.array_long) in
    let few : length (signed_decimal c.args.number) + w.result ≡ 40 = few-digits w.new.room (signed_decimal c.args.number) _ w.result w.ensures.within w.array_long refl written in
    let short : length (signed_decimal c.args.number) ≤ 20 = rw shown at w.ensures.short in
    let piece : PIECE ≡ 24 = refl in
    (omega (arith, few, short), omega (arith, few, short, piece))

pub returns : goal.returns
returns c =
    let w = c.write_number-start in
    let shown : to_z w64 (of_z w64 c.args.number) ≡ c.args.number = search (rules, to_z-of_z) in
    let written = rw shown at (w.ensures.written w.array_long) in
    let few : length (signed_decimal c.args.number) + w.result ≡ 40 = few-digits w.new.room (signed_decimal c.args.number) _ w.result w.ensures.within w.array_long refl written in
    let short : length (signed_decimal c.args.number) ≤ 20 = rw shown at w.ensures.short in
    let back : w.result - 1 + 1 ≡ w.result = omega (arith, few, short) in
    let inside : w.result - 1 < 40 = omega (arith, few, short) in
    rw (with-comma-before w.new.room (signed_decimal c.args.number) _ (w.result - 1) inside w.array_long refl (ap (λ (n : ℕ). drop n w.new.room) back ∙ written)) at c.push_piece.ensures
