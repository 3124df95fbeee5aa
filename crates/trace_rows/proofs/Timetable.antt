-- What follows of the times and samples of a section whose rows have no fault.
use Rattle.std.proofs.Common.{◌≡◌, ℕ, ◌<◌, ◌≤◌, All, List, None, length}
use Rattle.std.specs.Prelude.{AllPairs, IsTrue, filter}
use Rattle.std.specs.List.Sorted.{IsStrictlyIncreasing}
use Rattle.std.proofs.lemmas.List.{length-map}
use Rattle.std.proofs.lemmas.List.Elements.{All-map}
use Rattle.dbp_plan.specs.declared.diagram.Input.{Input}
use Rattle.dbp_plan.specs.Samples.{is_before}
use Rattle.dbp_plan.specs.FirstFault.{first_fault}
use Rattle.trace_rows.specs.declared.cell.Kind.{Kind}
use Rattle.trace_rows.specs.declared.rows.TheConstants.{MAX_ROWS}
use Rattle.trace_rows.specs.Rows.{row_faults}
use Rattle.trace_rows.specs.Values.{event_times, is_marked, samples_of, times_under}
use Rattle.trace_rows.proofs.RisingTimes.{rises-ends, rises-filter, rises-times, rows-few, rows-rise}
use Rattle.trace_rows.proofs.SampleOrder.{samples-of-inputs, samples-order}

pub event-times-count : (columns : List (List ℕ)) (rows : List (List (List ℕ))) (events : List (List ℕ)) → length (event_times columns rows events) ≡ length events
event-times-count columns rows events = length-map events (times_under columns rows)

pub samples-named : (columns : List (List ℕ)) (rows : List (List (List ℕ))) (inputs : List Input) → All (λ s. s.input < length inputs) (samples_of columns rows inputs)
samples-named columns rows inputs = samples-of-inputs columns inputs rows

module _ (until : ℕ) (kinds : List Kind) where
  pub few-rows : (rows : List (List (List ℕ))) (lines : List ℕ) → length rows ≤ length lines → first_fault (row_faults until kinds rows lines) ≡ None → length rows ≤ MAX_ROWS
  few-rows rows lines fit none = rows-few until kinds rows lines fit none

  pub event-times-rise : (columns : List (List ℕ)) (rows : List (List (List ℕ))) (lines : List ℕ) (events : List (List ℕ)) → length rows ≤ length lines → first_fault (row_faults until kinds rows lines) ≡ None
      → All IsStrictlyIncreasing (event_times columns rows events)
  event-times-rise columns rows lines events fit none =
      let rises = rows-rise until kinds rows lines fit none in
      All-map IsStrictlyIncreasing (times_under columns rows) events
      (λ k d inside. rises-times until 0 (filter (is_marked columns _) rows) (rises-filter until 0 (is_marked columns _) rows rises))

  pub event-times-end : (columns : List (List ℕ)) (rows : List (List (List ℕ))) (lines : List ℕ) (events : List (List ℕ)) → length rows ≤ length lines → first_fault (row_faults until kinds rows lines) ≡ None
      → All (All (λ t. t < until)) (event_times columns rows events)
  event-times-end columns rows lines events fit none =
      let rises = rows-rise until kinds rows lines fit none in
      All-map (All (λ t. t < until)) (times_under columns rows) events
      (λ k d inside. rises-ends until 0 (filter (is_marked columns _) rows) (rises-filter until 0 (is_marked columns _) rows rises))

  pub samples-rise : (columns : List (List ℕ)) (rows : List (List (List ℕ))) (lines : List ℕ) (inputs : List Input) → length rows ≤ length lines → first_fault (row_faults until kinds rows lines) ≡ None
      → AllPairs (λ a b. IsTrue (is_before a b)) (samples_of columns rows inputs)
  samples-rise columns rows lines inputs fit none = samples-order columns inputs until 0 rows (rows-rise until kinds rows lines fit none)
