-- The names of a scenario's columns are those of the diagram's events.
use Rattle.std.proofs.Common.{◌≡◌, ◌≢◌, ℕ, ◌+◌, ◌<◌, true, false, All, List, [], ◌++◌, length, map, slice_get, Some, sym, ap, ◌∙◌, arith}
use Rattle.std.specs.List.{range_with_len}
use Rattle.std.specs.Str.{bytes_eq}
use Rattle.std.proofs.lemmas.List.FromFn.{length-map-range_with_len}
use Rattle.std.proofs.lemmas.Option.{same_Some, slice_get-get_or, slice_get_within}
use Rattle.dbp_plan.specs.declared.diagram.Diagram.{Diagram}
use Rattle.dbp_plan.specs.ListItems.{after_place, all_place, front_place, pair_at}
use Rattle.dbp_plan.specs.Name.{IsName}
use Rattle.dbp_plan.specs.NameLists.{is_among}
use Rattle.dbp_plan.proofs.NameLaws.{same-bytes}
use Rattle.dbp_plan.proofs.OwnSamples.{range-place}
use Rattle.dia_tokens.specs.Printable.{IsPrintableName}
use Rattle.dia_check.specs.ItemNames.{AreNamed, input_and_event_names}
use Rattle.dia_check.proofs.LinkLists.{any-at}
use Rattle.dia_check.proofs.PlaceLaws.{all-places}
use Rattle.trace_rows.specs.Headers.{input_names}
use Rattle.slot_need.specs.declared.column.Column.{Column}
use Rattle.slot_need.specs.Scenarios.{column_of}
use Rattle.slot_need.proofs.Columns.{AreApart, name_of, none-among}

-- each event, whether it occurs or not
abbrev pub all_columns : Diagram → ℕ → List Column
all_columns d w = map (column_of d w) (range_with_len 0 (length d.events))

pub column-at : (d : Diagram) (w i : ℕ) → i < length d.events → slice_get (all_columns d w) i ≡ Some (column_of d w i)
column-at d w i below = range-place (column_of d w) (length d.events) i below

pub column-is : (d : Diagram) (w i : ℕ) (c : Column) → slice_get (all_columns d w) i ≡ Some c → (i < length d.events) × (c ≡ column_of d w i)
column-is d w i c at =
    let below : i < length d.events = omega (arith, slice_get_within (all_columns d w) i c at, length-map-range_with_len (column_of d w) 0 (length d.events)) in
    (below, same_Some c (column_of d w i) (sym at ∙ column-at d w i below))

-- the event of a column has its name
pub name-at : (d : Diagram) (w i : ℕ) (c : Column) → slice_get (all_columns d w) i ≡ Some c → slice_get d.events i ≡ Some (name_of d.events c)
name-at d w i c at =
    let (below, is) = column-is d w i c at in
    slice_get-get_or d.events i [] below ∙ ap (λ (b : Column). Some (name_of d.events b)) (sym is)

module _ (d : Diagram) (named : AreNamed (λ n. n) (input_and_event_names d)) where
  abbrev inputs : List (List ℕ)
  inputs = input_names d.inputs

  place-of-event : (e : ℕ) (n : List ℕ) → slice_get d.events e ≡ Some n → slice_get (input_and_event_names d) (length inputs + e) ≡ Some n
  place-of-event e n at = after_place inputs d.events e ∙ at

  pub events-apart : (e f : ℕ) (m n : List ℕ) → e < f → slice_get d.events e ≡ Some m → slice_get d.events f ≡ Some n → m ≢ n
  events-apart e f m n less at_m at_n =
      pair_at (λ x y. x ≢ y) (input_and_event_names d) (length inputs + e) (length inputs + f) m n named.apart (omega (arith, less)) (place-of-event e m at_m) (place-of-event f n at_n)

  pub no-input : (e : ℕ) (n : List ℕ) → slice_get d.events e ≡ Some n → is_among inputs n ≡ false
  no-input e n at =
      none-among inputs n (λ i m here.
      let inside = slice_get_within inputs i m here in
      pair_at (λ x y. x ≢ y) (input_and_event_names d) i (length inputs + e) m n named.apart (omega (arith, inside)) (front_place inputs d.events i inside ∙ here) (place-of-event e n at))

  pub known-event : (e : ℕ) (n : List ℕ) → slice_get d.events e ≡ Some n → is_among (inputs ++ d.events) n ≡ true
  known-event e n at = any-at (λ m. bytes_eq m n) (input_and_event_names d) (length inputs + e) n (place-of-event e n at) (same-bytes n)

  pub name-of-event : (e : ℕ) (n : List ℕ) → slice_get d.events e ≡ Some n → IsName n
  name-of-event e n at = (all_place IsPrintableName (input_and_event_names d) (length inputs + e) n named.each (place-of-event e n at)).0

  -- ---- of the columns

  pub columns-apart : (w : ℕ) → AreApart d.events (all_columns d w)
  columns-apart w = λ i j a b less at_a at_b. events-apart i j (name_of d.events a) (name_of d.events b) less (name-at d w i a at_a) (name-at d w j b at_b)

  pub columns-named : (w : ℕ) → All (λ c. IsName (name_of d.events c)) (all_columns d w)
  columns-named w = all-places (λ c. IsName (name_of d.events c)) (all_columns d w) (λ i c at. name-of-event i (name_of d.events c) (name-at d w i c at))
