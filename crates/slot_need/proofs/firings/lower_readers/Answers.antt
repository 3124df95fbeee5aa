use Rattle.std.proofs.Common.{◌≡◌, ◌++◌, ◌∷◌, [], ℕ, List, true, false, ap, sym, ◌∙◌, arith, length-append}
use Rattle.slot_need.specs.Scenarios.{is_lower_reader}
use Rattle.slot_need.proofs.Ranges.{dropped-more, kept-more}
use Rattle.slot_need.proofs.firings.lower_readers.Goals.{then-is_lower_reader, else-is_lower_reader}
use Rattle.slot_need.proofs.firings.lower_readers.Goals as goal

pub loop-reader-preserved : goal.loop-reader-preserved
loop-reader-preserved c =
    let d = c.args.diagram.now in
    let w = c.args.task in
    let n = c.loop-reader.reader in
    let before = c.loop-reader.invariant in
    elim c.if-is_lower_reader.branch [
      | then-is_lower_reader s ↦
          let passes : is_lower_reader d w n ≡ true = sym c.is_lower_reader.ensures ∙ s.if-is_lower_reader.true in
          rw (s.readers-is, s.push.ensures.items) record {
            readers = ap (λ (xs : List ℕ). xs ++ n ∷ []) before.readers ∙ sym (kept-more (is_lower_reader d w) n passes);
            few = omega (arith, before.few, length-append c.loop-reader.readers.items (n ∷ []));
          }
      | else-is_lower_reader s ↦
          let fails : is_lower_reader d w n ≡ false = sym c.is_lower_reader.ensures ∙ s.if-is_lower_reader.false in
          rw s.readers-is record {
            readers = before.readers ∙ sym (dropped-more (is_lower_reader d w) n fails);
            few = omega (arith, before.few);
          }
    ]
