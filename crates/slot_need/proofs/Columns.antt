-- The columns of a scenario's trace: their names, and what is written under each. Only those of events that occur are kept.
use Rattle.std.proofs.Common.{◌≡◌, ◌≢◌, ℕ, zero, suc, ◌+◌, ◌<◌, true, false, All, List, [], ◌∷◌, map, slice_get, Some, refl, sym, ap, ◌∙◌, inl, inr, arith}
use Rattle.std.specs.Prelude.{filter, slice_index_or}
use Rattle.std.specs.List.{list_all}
use Rattle.std.specs.Str.{bytes_eq}
use Rattle.std.proofs.lemmas.Bool.{cases_Bool}
use Rattle.std.proofs.lemmas.List.Elements.{All-filter, All-map}
use Rattle.std.proofs.lemmas.Option.{none-some, same_Some}
use Rattle.std.proofs.lemmas.Slice.Eq.{bytes_eq-Decides}
use Rattle.dbp_plan.specs.declared.diagram.Input.{Input}
use Rattle.dbp_plan.specs.NameLists.{index_of, is_among}
use Rattle.dbp_plan.proofs.NameLaws.{same-bytes}
use Rattle.trace_rows.specs.declared.cell.Kind.TheVariants.{Mark}
use Rattle.trace_rows.specs.Headers.{are_distinct, input_names, kind_of_column}
use Rattle.trace_rows.specs.Written.{AreCellsOf, IsCellOf, WrittenCell, is_mark, nothing}
use Rattle.slot_need.specs.declared.column.Column.{Column}
use Rattle.slot_need.specs.declared.column.Firing.{Firing}
use Rattle.slot_need.specs.declared.column.Firing.TheVariants.{Never, Each, Once}
use Rattle.slot_need.specs.Bodies.{cell_at, column_names}
use Rattle.slot_need.specs.Scenarios.{fires_at, is_ever}

abbrev pub column_with : ℕ → Firing → Column
column_with event firing = record { event = event; firing = firing }

-- the columns of events that occur
abbrev pub kept : List Column → List Column
kept cs = filter (λ c. is_ever c.firing) cs

-- ---- cells

never-marked : (k : ℕ) (f : Firing) → is_ever f ≡ false → cell_at k f ≡ nothing
never-marked k Never never = refl
never-marked k Each never = absurd (cc)
never-marked k (Once at) never = absurd (cc)

pub mark-where-fires : (k : ℕ) (f : Firing) → is_mark (cell_at k f) ≡ fires_at f k
mark-where-fires k f = elim (cases_Bool (fires_at f k)) [ inl is ↦ rw is refl | inr isnt ↦ rw isnt refl ]

mark-cell : (k : ℕ) (f : Firing) → IsCellOf Mark (cell_at k f)
mark-cell k f = elim (cases_Bool (fires_at f k)) [ inl is ↦ rw is tt | inr isnt ↦ rw isnt tt ]

-- ---- names

other-bytes : (m n : List ℕ) → m ≢ n → bytes_eq m n ≡ false
other-bytes m n apart = elim (cases_Bool (bytes_eq m n)) [ inl is ↦ absurd (apart ((bytes_eq-Decides m n).0 is)) | inr isnt ↦ isnt ]

pub none-among : (names : List (List ℕ)) (n : List ℕ) → ((i : ℕ) (m : List ℕ) → slice_get names i ≡ Some m → m ≢ n) → is_among names n ≡ false
none-among [] n others = refl
none-among (m ∷ names) n others = rw (other-bytes m n (others 0 m refl)) (none-among names n (λ i k at. others (suc i) k at))

next-place : {A : Type 0} (x : A) (xs : List A) (k : ℕ) (d : A) → slice_index_or (x ∷ xs) (1 + k) d ≡ slice_index_or xs k d
next-place x xs k d = let next : 1 + k ≡ suc k = omega arith in ap (λ j. slice_index_or (x ∷ xs) j d) next

module _ (events : List (List ℕ)) where
  abbrev pub name_of : Column → List ℕ
  name_of c = slice_index_or events c.event []

  -- no two have the same name
  abbrev pub AreApart : List Column → Type 0
  AreApart cs = (i j : ℕ) (a b : Column) → i < j → slice_get cs i ≡ Some a → slice_get cs j ≡ Some b → name_of a ≢ name_of b

  abbrev AreOthers : List Column → List ℕ → Type 0
  AreOthers cs n = (i : ℕ) (c : Column) → slice_get cs i ≡ Some c → name_of c ≢ n

  rest-apart : (x : Column) (cs : List Column) → AreApart (x ∷ cs) → AreApart cs
  rest-apart x cs apart = λ i j a b less at_a at_b. apart (suc i) (suc j) a b (omega arith) at_a at_b

  first-apart : (x : Column) (cs : List Column) → AreApart (x ∷ cs) → AreOthers cs (name_of x)
  first-apart x cs apart = λ i c at same. apart 0 (suc i) x c (omega arith) refl at (sym same)

  none-kept : (cs : List Column) (n : List ℕ) → AreOthers cs n → is_among (column_names events (kept cs)) n ≡ false
  none-kept [] n others = refl
  none-kept (x ∷ cs) n others =
      let rest = none-kept cs n (λ i c at. others (suc i) c at) in
      elim (cases_Bool (is_ever x.firing)) [
        | inl is ↦ rw (is, other-bytes (name_of x) n (others 0 x refl)) rest
        | inr isnt ↦ rw isnt rest
      ]

  pub distinct-names : (cs : List Column) → AreApart cs → are_distinct (column_names events (kept cs)) ≡ true
  distinct-names [] apart = refl
  distinct-names (x ∷ cs) apart =
      let rest = distinct-names cs (rest-apart x cs apart) in
      elim (cases_Bool (is_ever x.firing)) [
        | inl is ↦ rw (is, none-kept cs (name_of x) (first-apart x cs apart)) rest
        | inr isnt ↦ rw isnt rest
      ]

  pub known-names : (known : List (List ℕ)) (cs : List Column) → ((i : ℕ) (c : Column) → slice_get cs i ≡ Some c → is_among known (name_of c) ≡ true) → list_all (is_among known) (column_names events (kept cs)) ≡ true
  known-names known [] each = refl
  known-names known (x ∷ cs) each =
      let rest = known-names known cs (λ i c at. each (suc i) c at) in
      elim (cases_Bool (is_ever x.firing)) [
        | inl is ↦ rw (is, each 0 x refl) rest
        | inr isnt ↦ rw isnt rest
      ]

  pub all-names : (P : List ℕ → Type 0) (cs : List Column) → All (λ c. P (name_of c)) cs → All P (column_names events (kept cs))
  all-names P cs each = All-map P name_of (kept cs) (All-filter (λ (c : Column). is_ever c.firing) (λ c. P (name_of c)) cs each)

  pub marks-of-events : (inputs : List Input) (k : ℕ) (cs : List Column) → ((i : ℕ) (c : Column) → slice_get cs i ≡ Some c → is_among (input_names inputs) (name_of c) ≡ false)
      → AreCellsOf (map (kind_of_column inputs) (column_names events (kept cs))) (map (λ c. cell_at k c.firing) (kept cs))
  marks-of-events inputs k [] each = tt
  marks-of-events inputs k (x ∷ cs) each =
      let rest = marks-of-events inputs k cs (λ i c at. each (suc i) c at) in
      elim (cases_Bool (is_ever x.firing)) [
        | inl is ↦ rw (is, each 0 x refl) (mark-cell k x.firing, rest)
        | inr isnt ↦ rw isnt rest
      ]

  -- ---- what is written under a name

  abbrev pub cell_under : ℕ → List Column → List ℕ → WrittenCell
  cell_under k cs n = slice_index_or (map (λ c. cell_at k c.firing) (kept cs)) (index_of (column_names events (kept cs)) n) nothing

  nothing-under : (k : ℕ) (cs : List Column) (n : List ℕ) → AreOthers cs n → cell_under k cs n ≡ nothing
  nothing-under k [] n others = refl
  nothing-under k (x ∷ cs) n others =
      let rest = nothing-under k cs n (λ i c at. others (suc i) c at) in
      elim (cases_Bool (is_ever x.firing)) [
        | inl is ↦
            rw (is, other-bytes (name_of x) n (others 0 x refl)) (
            next-place (cell_at k x.firing) (map (λ (c : Column). cell_at k c.firing) (kept cs)) (index_of (column_names events (kept cs)) n) nothing ∙ rest
            )
        | inr isnt ↦ rw isnt rest
      ]

  pub cell-of-event : (k : ℕ) (cs : List Column) → AreApart cs → (i : ℕ) (c : Column) → slice_get cs i ≡ Some c → cell_under k cs (name_of c) ≡ cell_at k c.firing
  cell-of-event k [] apart i c at = absurd (none-some c at)
  cell-of-event k (x ∷ cs) apart zero c at =
      let same : x ≡ c = same_Some x c at in
      ap (λ y. cell_under k (x ∷ cs) (name_of y)) (sym same) ∙ here ∙ ap (λ (y : Column). cell_at k y.firing) same
    where
      here : cell_under k (x ∷ cs) (name_of x) ≡ cell_at k x.firing
      here = elim (cases_Bool (is_ever x.firing)) [
        | inl is ↦ rw (is, same-bytes (name_of x)) refl
        | inr isnt ↦ rw isnt (nothing-under k cs (name_of x) (first-apart x cs apart) ∙ sym (never-marked k x.firing isnt))
      ]
  cell-of-event k (x ∷ cs) apart (suc i) c at =
      let rest = cell-of-event k cs (rest-apart x cs apart) i c at in
      elim (cases_Bool (is_ever x.firing)) [
        | inl is ↦
            rw (is, other-bytes (name_of x) (name_of c) (apart 0 (suc i) x c (omega arith) refl at)) (
            next-place (cell_at k x.firing) (map (λ (c : Column). cell_at k c.firing) (kept cs)) (index_of (column_names events (kept cs)) (name_of c)) nothing ∙ rest
            )
        | inr isnt ↦ rw isnt rest
      ]
