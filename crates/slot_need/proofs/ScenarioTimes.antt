-- When tasks occur in a scenario: each at the firings that its event is marked at.
use Rattle.std.proofs.Common.{◌≡◌, ℕ, zero, suc, ◌+◌, ◌<◌, Bool, true, false, List, [], ◌∷◌, length, map, slice_get, Some, None, refl, sym, ap, ◌∙◌, inl, inr}
use Rattle.std.specs.Prelude.{filter, slice_index_or}
use Rattle.std.specs.List.{flat_map, range_with_len}
use Rattle.std.proofs.lemmas.Bool.{cases_Bool}
use Rattle.dbp_plan.specs.declared.diagram.Diagram.{Diagram}
use Rattle.dbp_plan.specs.declared.diagram.Input.{Input}
use Rattle.dia_check.specs.ItemNames.{AreNamed, input_and_event_names}
use Rattle.trace_rows.specs.Written.{WrittenRow, is_mark, nothing, value_of, written_row_samples, written_samples, written_times, written_under}
use Rattle.slot_need.specs.declared.column.Column.{Column}
use Rattle.slot_need.specs.declared.column.Firing.{Firing}
use Rattle.slot_need.specs.Bodies.{cell_at, column_names, row_at, scenario_rows}
use Rattle.slot_need.specs.Scenarios.{column_of, firing_count, firing_of_event, firing_time, fires_at, scenario_columns}
use Rattle.slot_need.proofs.ColumnNames.{all_columns, column-at, columns-apart, name-at}
use Rattle.slot_need.proofs.Columns.{cell-of-event, mark-where-fires, name_of}

-- what is kept of items that are made of numbers
kept-of-made : {A : Type 0} (row : ℕ → A) (p : A → Bool) (q : ℕ → Bool) (time : A → ℕ) (t : ℕ → ℕ) → ((k : ℕ) → p (row k) ≡ q k) → ((k : ℕ) → time (row k) ≡ t k) → (ks : List ℕ) → map time (filter p (map row ks)) ≡ map t (filter q ks)
kept-of-made row p q time t same same_time [] = refl
kept-of-made row p q time t same same_time (k ∷ ks) =
    let rest = kept-of-made row p q time t same same_time ks in
    elim (cases_Bool (q k)) [
      | inl is ↦ let here : p (row k) ≡ true = same k ∙ is in rw (is, here) (ap (λ u. u ∷ map time (filter p (map row ks))) (same_time k) ∙ ap (λ us. t k ∷ us) rest)
      | inr isnt ↦ let here : p (row k) ≡ false = same k ∙ isnt in rw (isnt, here) rest
    ]

module _ (d : Diagram) (w : ℕ) where
  abbrev columns : List Column
  columns = scenario_columns d w

  abbrev names : List (List ℕ)
  names = column_names d.events columns

  abbrev row : ℕ → WrittenRow
  row k = row_at columns (firing_time d w k) k

  -- ---- events

  abbrev pub times_of_event : ℕ → List ℕ
  times_of_event event = map (firing_time d w) (filter (fires_at (firing_of_event d w event)) (range_with_len 0 (firing_count d w)))

  pub event-times : AreNamed (λ n. n) (input_and_event_names d) → (event : ℕ) (n : List ℕ) → slice_get d.events event ≡ Some n → event < length d.events → written_times names (scenario_rows d w) n ≡ times_of_event event
  event-times named event n at below =
      let same : Some (name_of d.events (column_of d w event)) ≡ Some n = sym (name-at d w event (column_of d w event) (column-at d w event below)) ∙ at in
      let is : name_of d.events (column_of d w event) ≡ n = cc in
      kept-of-made row (λ r. is_mark (written_under names n r)) (fires_at (firing_of_event d w event)) (λ r. r.time) (firing_time d w)
      (λ k. ap (λ m. is_mark (written_under names m (row k))) (sym is)
      ∙ ap is_mark (cell-of-event d.events k (all_columns d w) (columns-apart d named w) event (column_of d w event) (column-at d w event below))
      ∙ mark-where-fires k (firing_of_event d w event))
      (λ k. refl) (range_with_len 0 (firing_count d w))

  -- ---- samples

  no-value : (k : ℕ) (f : Firing) → value_of (cell_at k f) ≡ None
  no-value k f = elim (cases_Bool (fires_at f k)) [ inl is ↦ rw is refl | inr isnt ↦ rw isnt refl ]

  none-under : (k : ℕ) (cs : List Column) (j : ℕ) → value_of (slice_index_or (map (λ c. cell_at k c.firing) cs) j nothing) ≡ None
  none-under k [] j = refl
  none-under k (c ∷ cs) zero = no-value k c.firing
  none-under k (c ∷ cs) (suc j) = none-under k cs j

  no-row-samples : (number : ℕ) (inputs : List Input) (k : ℕ) → written_row_samples names number inputs (row k) ≡ []
  no-row-samples number [] k = refl
  no-row-samples number (input ∷ inputs) k = rw (none-under k columns _) (no-row-samples (number + 1) inputs k)

  none-of-rows : (inputs : List Input) (ks : List ℕ) → flat_map (written_row_samples names 0 inputs) (map row ks) ≡ []
  none-of-rows inputs [] = refl
  none-of-rows inputs (k ∷ ks) = rw (no-row-samples 0 inputs k) (none-of-rows inputs ks)

  pub no-samples : (inputs : List Input) → written_samples names (scenario_rows d w) inputs ≡ []
  no-samples inputs = none-of-rows inputs (range_with_len 0 (firing_count d w))
