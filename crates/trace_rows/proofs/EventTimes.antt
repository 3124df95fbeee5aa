-- The times of events, row by row.
use Rattle.std.proofs.Common.{◌≡◌, ℕ, suc, ◌+◌, ◌<◌, ◌≤◌, ◌^◌, All, true, false, List, [], ◌∷◌, ◌++◌, length, map, take, get_or, set, refl, sym, ap, ◌∙◌, inl, inr, arith}
use Rattle.std.specs.Prelude.{filter, if◌then◌else◌, replicate}
use Rattle.std.proofs.lemmas.Bool.{cases_Bool}
use Rattle.std.proofs.lemmas.List.{append-nil, length-map, length-take-le, map-append, take_more}
use Rattle.std.proofs.lemmas.List.Elements.{All-map, filter-append}
use Rattle.std.proofs.lemmas.List.Sums.{count_by-le-length, length-filter}
use Rattle.dbp_plan.specs.NameLists.{index_of}
use Rattle.trace_rows.specs.Cells.{cell_under, is_one, time_of}
use Rattle.trace_rows.specs.Columns.{nothing, times_with}
use Rattle.trace_rows.specs.Values.{event_times, is_marked, times_under}
use Rattle.trace_rows.specs.declared.cell.CellContent.{CellContent}
use Rattle.trace_rows.specs.declared.rows.TheConstants.{MAX_ROWS}

-- ---- one more event

mark-pushed : (time : ℕ) (cs : List ℕ) (c : ℕ) (said : List CellContent) (events : List (List ℕ)) (d : List ℕ) → length cs < length events → (get_or said c nothing).is_one ≡ true
    → set (times_with time cs said events) (length cs) (get_or (times_with time cs said events) (length cs) d ++ time ∷ []) ≡ times_with time (cs ++ c ∷ []) said events
mark-pushed time [] c said [] d less one = absurd (omega arith)
mark-pushed time [] c said (times ∷ events) d less one = rw one refl
mark-pushed time (b ∷ cs) c said [] d less one = absurd (omega arith)
mark-pushed time (b ∷ cs) c said (times ∷ events) d less one =
    ap (λ rest. (if (get_or said b nothing).is_one then times ++ time ∷ [] else times) ∷ rest) (mark-pushed time cs c said events d (omega arith) one)

mark-bare : (time : ℕ) (cs : List ℕ) (c : ℕ) (said : List CellContent) (events : List (List ℕ)) → (get_or said c nothing).is_one ≡ false
    → times_with time cs said events ≡ times_with time (cs ++ c ∷ []) said events
mark-bare time [] c said [] none = refl
mark-bare time [] c said (times ∷ events) none = rw none refl
mark-bare time (b ∷ cs) c said [] none = refl
mark-bare time (b ∷ cs) c said (times ∷ events) none =
    ap (λ rest. (if (get_or said b nothing).is_one then times ++ time ∷ [] else times) ∷ rest) (mark-bare time cs c said events none)

still-there : (time : ℕ) (cs : List ℕ) (said : List CellContent) (events : List (List ℕ)) (d : List ℕ) → get_or (times_with time cs said events) (length cs) d ≡ get_or events (length cs) d
still-there time [] said events d = refl
still-there time (c ∷ cs) said [] d = refl
still-there time (c ∷ cs) said (times ∷ events) d = still-there time cs said events d

pub count-with : (time : ℕ) (cs : List ℕ) (said : List CellContent) (events : List (List ℕ)) → length (times_with time cs said events) ≡ length events
count-with time [] said events = refl
count-with time (c ∷ cs) said [] = refl
count-with time (c ∷ cs) said (times ∷ events) = ap (λ n. suc n) (count-with time cs said events)

module _ (time : ℕ) (columns : List ℕ) (said : List CellContent) (events : List (List ℕ)) (k : ℕ) (below : k < length columns) where
  size : length (take k columns) ≡ k
  size = length-take-le k columns (omega (arith, below))

  pub marked-event : (d : List ℕ) → length columns ≡ length events → (get_or said (get_or columns k 0) nothing).is_one ≡ true
      → set (times_with time (take k columns) said events) k (get_or (times_with time (take k columns) said events) k d ++ time ∷ []) ≡ times_with time (take (k + 1) columns) said events
  marked-event d same one =
      let now = times_with time (take k columns) said events in
      ap (λ (n : ℕ). set now n (get_or now n d ++ time ∷ [])) (sym size)
      ∙ mark-pushed time (take k columns) (get_or columns k 0) said events d (omega (arith, size, same, below)) one
      ∙ ap (λ cs. times_with time cs said events) (sym (take_more columns k 0 below))

  pub bare-event : (get_or said (get_or columns k 0) nothing).is_one ≡ false → times_with time (take k columns) said events ≡ times_with time (take (k + 1) columns) said events
  bare-event none = mark-bare time (take k columns) (get_or columns k 0) said events none ∙ ap (λ cs. times_with time cs said events) (sym (take_more columns k 0 below))

  pub event-still : (d : List ℕ) → get_or (times_with time (take k columns) said events) k d ≡ get_or events k d
  event-still d =
      ap (λ (n : ℕ). get_or (times_with time (take k columns) said events) n d) (sym size) ∙ still-there time (take k columns) said events d ∙ ap (λ (n : ℕ). get_or events n d) size

-- ---- one more row

under-next : (columns : List (List ℕ)) (rows : List (List (List ℕ))) (row : List (List ℕ)) (name : List ℕ)
    → times_under columns (rows ++ row ∷ []) name ≡ (if is_one (cell_under columns name row) then times_under columns rows name ++ time_of row ∷ [] else times_under columns rows name)
under-next columns rows row name =
    let p = is_marked columns name in
    ap (map time_of) (filter-append p rows (row ∷ [])) ∙ map-append time_of (filter p rows) (filter p (row ∷ []))
    ∙ elim (cases_Bool (is_one (cell_under columns name row))) [
      | inl marked ↦ rw marked refl
      | inr bare ↦ rw bare (append-nil (times_under columns rows name))
    ]

pub row-times : (columns : List (List ℕ)) (rows : List (List (List ℕ))) (row : List (List ℕ)) (said : List CellContent) (events : List (List ℕ))
    → ((name : List ℕ) → (get_or said (index_of columns name) nothing).is_one ≡ is_one (cell_under columns name row))
    → times_with (time_of row) (map (index_of columns) events) said (event_times columns rows events) ≡ event_times columns (rows ++ row ∷ []) events
row-times columns rows row said [] each = refl
row-times columns rows row said (name ∷ events) each =
    let now = times_under columns rows name in
    (λ j. (if each name j then now ++ time_of row ∷ [] else now) ∷ row-times columns rows row said events each j)
    ∙ ap (λ times. times ∷ event_times columns (rows ++ row ∷ []) events) (sym (under-next columns rows row name))

pub no_rows : (columns : List (List ℕ)) (events : List (List ℕ)) → replicate (length events) [] ≡ event_times columns [] events
no_rows columns [] = refl
no_rows columns (name ∷ events) = ap (λ times. [] ∷ times) (no_rows columns events)

-- an event has as many times as there are rows, at most
few-times : (columns : List (List ℕ)) (rows : List (List (List ℕ))) (events : List (List ℕ)) → All (λ times. length times ≤ length rows) (event_times columns rows events)
few-times columns rows events =
    All-map (λ times. length times ≤ length rows) (times_under columns rows) events (λ k d below.
    let p = is_marked columns (get_or events k d) in
    omega (arith, length-map (filter p rows) time_of, length-filter p rows, count_by-le-length p rows))

-- so one more time fits
pub room-times : (columns : List (List ℕ)) (rows : List (List (List ℕ))) (events : List (List ℕ)) → length rows ≤ MAX_ROWS → All (λ times. length times + 1 < 2 ^ 32) (event_times columns rows events)
room-times columns rows events few k d below = omega (arith, few-times columns rows events k d below, few)

-- lists without times
pub all-none : (ts : List (List ℕ)) → All (λ t. t ≡ []) ts → ts ≡ replicate (length ts) []
all-none [] none = refl
all-none (t ∷ ts) none = rw (none 0 [] (omega arith), sym (all-none ts (λ k d below. none (suc k) d (omega arith)))) refl
