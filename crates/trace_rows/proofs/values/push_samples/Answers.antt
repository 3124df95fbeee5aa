use Rattle.std.proofs.Common.{◌≡◌, ◌+◌, List, [], ◌∷◌, ◌++◌, length, take, sym, ap, ◌∙◌, append_assoc, arith, rules, w64}
use mir.Val.{to_z, of_z}
use Rattle.std.proofs.lemmas.Int.{to_z-of_z}
use Rattle.std.proofs.lemmas.List.{append-nil, length_push}
use Rattle.dbp_plan.specs.declared.schedule.Sample.{Sample}
use Rattle.trace_rows.specs.Columns.{said_samples}
use Rattle.trace_rows.specs.Values.{sample_of}
use Rattle.trace_rows.specs.declared.cell.CellContent.{CellContent}
use Rattle.trace_rows.proofs.ColumnCells.{sample-next}
use Rattle.trace_rows.proofs.values.push_samples.Goals as goal
use Rattle.trace_rows.proofs.values.push_samples.Goals.{in-Some+in_ok-push, in_default}

pub loop-input-preserved : goal.loop-input-preserved
loop-input-preserved c =
    let time = c.args.time in
    let said = c.args.said.now in
    let columns = c.args.columns.now in
    let k = c.loop-input.input in
    let old = c.args.found.now in
    let before = said_samples time 0 (take k columns) said in
    let next : old ++ (before ++ sample_of time k c.content_at.result.value) ≡ old ++ said_samples time 0 (take (k + 1) columns) said =
    ap (λ (one : CellContent). old ++ (before ++ sample_of time k one.value)) c.content_at.ensures ∙ ap (λ all. old ++ all) (sym (sample-next time columns k 0 said (omega arith))) in
    elim c.match-content_at.branch [
      | in-Some+in_ok-push w ↦
          let shown : to_z w64 (of_z w64 w.in-Some.value) ≡ w.in-Some.value = search (rules, to_z-of_z) in
          let sample : Sample = record { time = time; input = k; value = to_z w64 (of_z w64 w.in-Some.value) } in
          let one : Sample = record { time = time; input = k; value = w.in-Some.value } in
          let same : sample ≡ one = λ j. record { time = time; input = k; value = shown j } in
          let pushed : c.match-content_at.found ≡ c.loop-input.found ++ sample ∷ [] = w.found-is ∙ w.in_ok-push.ensures.ok in
          record {
            found = pushed ∙ (λ j. c.loop-input.invariant.found j ++ same j ∷ []) ∙ append_assoc old before (one ∷ []) ∙ ap (λ o. old ++ (before ++ sample_of time k o)) (sym w.in-Some.is) ∙ next;
            few = omega (arith, ap (λ (ss : List Sample). length ss) pushed, length_push c.loop-input.found sample, c.loop-input.invariant.few);
          }
      | in_default w ↦ record {
        found = w.found-is ∙ c.loop-input.invariant.found ∙ ap (λ all. old ++ all) (sym (append-nil before)) ∙ ap (λ o. old ++ (before ++ sample_of time k o)) (sym w.in_default.is) ∙ next;
        few = omega (arith, ap (λ (ss : List Sample). length ss) w.found-is, c.loop-input.invariant.few);
      }
    ]
