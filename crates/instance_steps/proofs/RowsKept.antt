-- The rows of the ended instances: at the start, with one more, and when all have ended.
use Rattle.std.proofs.Common.{◌≡◌, ◌≢◌, ℕ, ℤ, ◌+◌, ◌-◌, ◌*◌, ◌<◌, ◌≤◌, List, ◌++◌, drop, length, map, set, take, slice_get, Some, refl, sym, ap, ◌∙◌, subst, arith, inl, inr, length-append}
use Rattle.std.specs.Option.{option_map}
use Rattle.std.proofs.Math.Nat.{mul-le-mul_right}
use Rattle.std.proofs.lemmas.Bool.{cases_eq, cases_lt}
use Rattle.std.proofs.lemmas.List.{length-map, length-set, take_all}
use Rattle.std.proofs.lemmas.List.FromFn.{get_or-map-range_with_len}
use Rattle.std.proofs.lemmas.Option.{same_Some, slice_get-get_or, slice_get-map, slice_get_within}
use Rattle.dbp_plan.specs.declared.diagram.Task.{Task}
use Rattle.dbp_plan.specs.declared.plan.Plan.{Plan}
use Rattle.dbp_plan.specs.declared.table.Table.{Table}
use Rattle.dbp_plan.specs.declared.table.TaskRows.{TaskRows}
use Rattle.dbp_plan.specs.Lookups.{declared_task, no_declared_task}
use Rattle.dbp_plan.specs.Occurrences.{times_of}
use Rattle.dbp_plan.specs.ListItems.{at_place, set_here, set_other}
use Rattle.dbp_plan.specs.Table.{HasAllRows, HasRowsOf, IsRow, row_at, table_row}
use Rattle.sync_meaning.specs.FirstRows.{first_rows}
use Rattle.sync_meaning.specs.Meaning.{IsStream}
use Rattle.sync_meaning.specs.SomeMeaning.{meaning_of, meaning_of-is}
use Rattle.sync_meaning.specs.SomeMeaningTables.{row_in, same_table}
use Rattle.sync_meaning.proofs.Growing.{row_pushed, rows_stay}
use Rattle.dbp_rules.specs.Lookups.{no_task, task, wired_task}
use Rattle.dbp_rules.specs.Start.{start_of, start_task}
use Rattle.dbp_rules.specs.declared.parts.Place.{Place}
use Rattle.dbp_rules.specs.declared.state.State.{State}
use Rattle.dbp_rules.specs.declared.state.TaskState.{TaskState}
use Rattle.dbp_rules.specs.declared.wiring.Wiring.{Wiring}
use Rattle.instance_steps.specs.EndedRows.{HasEndedRows}
use Rattle.instance_steps.specs.TaskPieces.{ChangesTask}

there_in : (p : Plan) (i : ℕ) → i < length p.diagram.tasks → slice_get p.diagram.tasks i ≡ Some (declared_task p i)
there_in p i named = slice_get-get_or p.diagram.tasks i no_declared_task named

-- the row of the table with this number
ended_row : (p : Plan) (s : State) (table : Table) (i n : ℕ) (rows : TaskRows) → HasEndedRows p s table → i < length p.diagram.tasks → n ≤ (task s i).part.ended → slice_get table.tasks i ≡ Some rows → IsRow table i n (row_at rows n)
ended_row p s table i n rows has named few at =
    let own : HasRowsOf (length (declared_task p i).outs) (task s i).part.ended rows = has.each i rows named at in
    let ports : (n + 1) * rows.ports ≡ (n + 1) * length (declared_task p i).outs = ap (λ (k : ℕ). (n + 1) * k) own.ports in
    let scaled : (n + 1) * length (declared_task p i).outs ≤ ((task s i).part.ended + 1) * length (declared_task p i).outs = mul-le-mul_right (length (declared_task p i).outs) (omega arith) in
    record { rows = rows; has_rows = at; there = omega (arith, ports, scaled, own.size); is = refl }

-- if as many instances have ended, the rows are those of the ended ones still
pub ended_rows_stay : (p : Plan) (s new : State) (table : Table) → ((i : ℕ) → (task new i).part.ended ≡ (task s i).part.ended) → HasEndedRows p s table → HasEndedRows p new table
ended_rows_stay p s new table same has = record {
  size = has.size;
  each = λ i rows named at. subst (λ (n : ℕ). HasRowsOf (length (declared_task p i).outs) n rows) (sym (same i)) (has.each i rows named at);
  meant = λ i n named few. has.meant i n named (omega (arith, few, same i));
}

-- ---- one row more

module _ (p : Plan) (s new : State) (table later : Table) (i : ℕ) (old more : TaskRows) (row : List ℤ) (q : Place) (named : i < length p.diagram.tasks) (has : HasEndedRows p s table) (changes : ChangesTask s new i ((task s i).part.ended + 1) q)
    (at : slice_get table.tasks i ≡ Some old) (ports : more.ports ≡ old.ports) (words : more.words ≡ old.words ++ row) (all : later.tasks ≡ set table.tasks i more)
    (is : row ≡ table_row (meaning_of p) i ((task s i).part.ended + 1)) (wide : length row ≡ length (declared_task p i).outs) where
  own_rows : HasRowsOf (length (declared_task p i).outs) (task s i).part.ended old
  own_rows = has.each i old named at

  other_ended : (j : ℕ) → j ≢ i → (task new j).part.ended ≡ (task s j).part.ended
  other_ended j other = ap (λ (t : TaskState). t.part.ended) (changes.others j other)

  there_later : slice_get later.tasks i ≡ Some more
  there_later = ap (λ (ts : List TaskRows). slice_get ts i) all ∙ set_here table.tasks i more (slice_get_within table.tasks i old at)

  other_later : (j : ℕ) → j ≢ i → slice_get later.tasks j ≡ slice_get table.tasks j
  other_later j other = ap (λ (ts : List TaskRows). slice_get ts j) all ∙ set_other table.tasks i j more other

  each_later : (j : ℕ) (rows : TaskRows) → j < length p.diagram.tasks → slice_get later.tasks j ≡ Some rows → HasRowsOf (length (declared_task p j).outs) (task new j).part.ended rows
  each_later j rows there here = elim (cases_eq j i) [
    | inl same ↦
        let one : more ≡ rows = same_Some more rows (sym there_later ∙ ap (λ (k : ℕ). slice_get later.tasks k) (sym same) ∙ here) in
        let grown : HasRowsOf (length (declared_task p i).outs) ((task s i).part.ended + 1) more = record {
          ports = ports ∙ own_rows.ports;
          size = omega (arith, ap length words, length-append old.words row, own_rows.size, wide);
        } in
        let counted : HasRowsOf (length (declared_task p i).outs) (task new i).part.ended rows =
        subst (λ (n : ℕ). HasRowsOf (length (declared_task p i).outs) n rows) (sym changes.ended) (subst (λ (r : TaskRows). HasRowsOf (length (declared_task p i).outs) ((task s i).part.ended + 1) r) one grown) in
        subst (λ (k : ℕ). HasRowsOf (length (declared_task p k).outs) (task new k).part.ended rows) (sym same) counted
    | inr other ↦ subst (λ (n : ℕ). HasRowsOf (length (declared_task p j).outs) n rows) (sym (other_ended j other)) (has.each j rows there (sym (other_later j other) ∙ here))
  ]

  -- a row that was there
  kept : (j n : ℕ) → j < length p.diagram.tasks → n ≤ (task s j).part.ended → table_row later j n ≡ table_row (meaning_of p) j n
  kept j n there few =
      let rows : (r : TaskRows) × (slice_get table.tasks j ≡ Some r) = at_place table.tasks j (omega (arith, there, has.size)) in
      let before : IsRow table j n (row_at rows.0 n) = ended_row p s table j n rows.0 has there few rows.1 in
      let after : IsRow later j n (row_at rows.0 n) = rows_stay i old more row table later at ports words all j n (row_at rows.0 n) before in
      row_in later j n (row_at rows.0 n) after ∙ sym (row_in table j n (row_at rows.0 n) before) ∙ has.meant j n there few

  -- and the new one
  gained : table_row later i ((task s i).part.ended + 1) ≡ table_row (meaning_of p) i ((task s i).part.ended + 1)
  gained =
      let pushed : IsRow later i ((task s i).part.ended + 1) row = row_pushed i (task s i).part.ended (length (declared_task p i).outs) old more row table later at own_rows wide ports words all in
      row_in later i ((task s i).part.ended + 1) row pushed ∙ is

  pub ended_rows_grow : HasEndedRows p new later
  ended_rows_grow = record {
    size = ap length all ∙ length-set table.tasks i more ∙ has.size;
    each = each_later;
    meant = λ j n there few. elim (cases_eq j i) [
      | inl same ↦
          let counted : (task new j).part.ended ≡ (task s i).part.ended + 1 = ap (λ (k : ℕ). (task new k).part.ended) same ∙ changes.ended in
          let here : (task s j).part.ended ≡ (task s i).part.ended = ap (λ (k : ℕ). (task s k).part.ended) same in
          elim (cases_lt (task s j).part.ended n) [
            | inl last ↦
                let number : n ≡ (task s i).part.ended + 1 = omega arith in
                ap (λ (k : ℕ). table_row later k n) same ∙ ap (λ (m : ℕ). table_row later i m) number ∙ gained ∙ ap (λ (m : ℕ). table_row (meaning_of p) i m) (sym number) ∙ ap (λ (k : ℕ). table_row (meaning_of p) k n) (sym same)
            | inr before ↦ kept j n there before
          ]
      | inr other ↦ kept j n there (omega (arith, few, other_ended j other))
    ];
  }

-- ---- the start

start_ended : (p : Plan) (w : Wiring) (i : ℕ) → i < length w.tasks → (task (start_of p w) i).part.ended ≡ 0
start_ended p w i below = ap (λ (t : TaskState). t.part.ended) (get_or-map-range_with_len (λ k. start_task (wired_task w k) (declared_task p k)) 0 (length w.tasks) i i no_task below (omega arith))

pub ended_rows_start : (p : Plan) (w : Wiring) (table : Table) → length w.tasks ≡ length p.diagram.tasks → table.tasks ≡ map first_rows p.diagram.tasks → HasEndedRows p (start_of p w) table
ended_rows_start p w table size first = record {
  size = ap length first ∙ length-map p.diagram.tasks first_rows;
  each = λ i rows named at.
      let one : first_rows (declared_task p i) ≡ rows = same_Some _ _ (sym (here i named) ∙ at) in
      let own : HasRowsOf (length (declared_task p i).outs) 0 (first_rows (declared_task p i)) = record { ports = refl; size = omega (arith, length-map (declared_task p i).outs (λ o. o.first)) } in
      subst (λ (n : ℕ). HasRowsOf (length (declared_task p i).outs) n rows) (sym (start_ended p w i (omega (arith, named, size))))
      (subst (λ (r : TaskRows). HasRowsOf (length (declared_task p i).outs) 0 r) one own);
  meant = λ i n named few.
      let none : n ≡ 0 = omega (arith, few, start_ended p w i (omega (arith, named, size))) in
      ap (λ (m : ℕ). table_row table i m) none ∙ row_zero i named ∙ ap (λ (m : ℕ). table_row (meaning_of p) i m) (sym none);
}
  where
    here : (i : ℕ) → i < length p.diagram.tasks → slice_get table.tasks i ≡ Some (first_rows (declared_task p i))
    here i named = ap (λ (ts : List TaskRows). slice_get ts i) first ∙ slice_get-map first_rows p.diagram.tasks i ∙ ap (option_map first_rows) (there_in p i named)

    row_zero : (i : ℕ) → i < length p.diagram.tasks → table_row table i 0 ≡ table_row (meaning_of p) i 0
    row_zero i named =
        let words : List ℤ = map (λ o. o.first) (declared_task p i).outs in
        let stream : IsStream p.diagram p.samples p.batches (meaning_of p) i (declared_task p i) = (meaning_of-is p).each i (declared_task p i) (there_in p i named) in
        let k : ℕ = length (declared_task p i).outs in
        let none : 0 * length (declared_task p i).outs ≡ 0 = omega arith in
        let size : length (map (λ o. o.first) (declared_task p i).outs) ≡ length (declared_task p i).outs = length-map (declared_task p i).outs (λ o. o.first) in
        let whole : row_at (first_rows (declared_task p i)) 0 ≡ map (λ o. o.first) (declared_task p i).outs =
        ap (λ (m : ℕ). take ((0 + 1) * k - 0 * k) (drop m words)) none ∙ take_all ((0 + 1) * k - 0 * k) words (omega (arith, size)) in
        let found : table_row table i 0 ≡ row_at (first_rows (declared_task p i)) 0 = let at = here i named in rw at refl in
        found ∙ whole ∙ sym (row_in (meaning_of p) i 0 (map (λ o. o.first) (declared_task p i).outs) stream.first_row)

-- ---- the end

-- if all instances have ended, the table is the meaning
pub ended_rows_all : (p : Plan) (s : State) (table : Table) → HasEndedRows p s table → ((i : ℕ) → i < length p.diagram.tasks → (task s i).part.ended ≡ length (times_of p.batches i)) → table ≡ meaning_of p
ended_rows_all p s table has all =
    let rows : HasAllRows p.diagram.tasks p.batches table = record {
      size = has.size;
      each = λ i t rows at here.
          let named : i < length p.diagram.tasks = slice_get_within p.diagram.tasks i t at in
          let same : declared_task p i ≡ t = same_Some (declared_task p i) t (sym (there_in p i named) ∙ at) in
          subst (λ (x : Task). HasRowsOf (length x.outs) (length (times_of p.batches i)) rows) same
          (subst (λ (n : ℕ). HasRowsOf (length (declared_task p i).outs) n rows) (all i named) (has.each i rows named here));
    } in
    same_table p.diagram.tasks p.batches table (meaning_of p) rows (meaning_of-is p).rows (λ i n t at few.
    let named : i < length p.diagram.tasks = slice_get_within p.diagram.tasks i t at in
    has.meant i n named (omega (arith, few, all i named)))
