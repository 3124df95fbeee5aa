use Rattle.std.proofs.Common.{Ok, get_or, ◌≡◌, ◌+◌, ◌<◌, ◌≤◌, ℕ, Some, None, List, [], ◌∷◌, ◌++◌, length, map, take, drop, sym, ap, ◌∙◌, arith, rules}
use Rattle.std.specs.List.{flat_map}
use Rattle.std.proofs.lemmas.List.{flat_map_more, length-map, length-take-le}
use Rattle.csv.specs.Records.{fields_of}
use Rattle.dbp_plan.specs.NameLists.{index_of}
use Rattle.dbp_plan.specs.FirstFault.{first_fault}
use Rattle.dbp_plan.proofs.ListParts.{at-any, refilled, take-next}
use Rattle.dbp_plan.proofs.FirstFaults.{first-here, first-later}
use Rattle.trace_rows.specs.Cells.{cell_under, is_one, time_of}
use Rattle.trace_rows.specs.Columns.{HasSaid, nothing, said_samples, times_with}
use Rattle.trace_rows.specs.Headers.{kind_of_column}
use Rattle.trace_rows.specs.Records.{records_left}
use Rattle.trace_rows.specs.Rows.{fault_after, last_time, row_fault, row_faults}
use Rattle.trace_rows.specs.declared.cell.CellContent.{CellContent}
use Rattle.trace_rows.specs.declared.rows.TheConstants.{MAX_ROWS}
use Rattle.trace_rows.specs.Values.{event_times, row_samples, samples_of}
use Rattle.trace_rows.proofs.ColumnCells.{mark-of-event, row-samples}
use Rattle.trace_rows.proofs.EventTimes.{room-times, row-times}
use Rattle.trace_rows.proofs.Timetable.{event-times-count}
use Rattle.trace_rows.proofs.LineRecords.{first-left, none-left}
use Rattle.trace_rows.proofs.RowTimes.{fault-at, few-after, last-more}
use Rattle.trace_rows.proofs.rows.row_values.Goals as goal

pub returns-in-Err-clause-fault : goal.returns-in-Err-clause-fault
returns-in-Err-clause-fault c line code same =
    let rows = records_left c.args.rows.now in
    let lines = c.args.lines.now in
    let kinds = c.in_ok-columns.columns.kinds.items in
    let k = c.loop-row.place in
    let row = fields_of c.read.new.record in
    let taken : records_left c.loop-row.rows ≡ row ∷ records_left c.read.new.self = rw c.if-branch.true at c.in_ok-read.ensures.left in
    let (below, is, after) = first-left rows k row (records_left c.read.new.self) (sym c.loop-row.invariant.left ∙ taken) in
    let in_lines : k < length lines = omega (arith, below, c.requires.lines) in
    let told : row_fault c.args.until kinds (k + 1) c.loop-row.before row ≡ Some c.in-Err.code =
    ap (λ ks. row_fault c.args.until ks (k + 1) c.loop-row.before row) (sym c.deref.ensures.value) ∙ c.in-Err.ensures.fault in
    let fault : Some c.in-Err.code ≡ fault_after c.args.until kinds (take k rows) row =
    sym told ∙ ap (λ b. row_fault c.args.until kinds (k + 1) b row) c.loop-row.invariant.timed ∙ fault-at c.args.until kinds rows k row c.loop-row.invariant.within in
    let number : get_or lines k 0 ≡ line = cc (same, c.from.ensures) in
    let which : c.in-Err.code ≡ code = cc (same, c.from.ensures) in
    ap (λ ks. first_fault (row_faults c.args.until ks rows lines)) (sym c.in_ok-columns.ensures.kinds)
    ∙ sym (first-here (fault_after c.args.until kinds) rows lines k row (get_or lines k 0) c.in-Err.code c.loop-row.invariant.from below in_lines is (at-any lines k 0 in_lines) fault)
    ∙ λ j. Some (number j, which j)

pub push_times-requires-clause-few : goal.push_times-requires-clause-few
push_times-requires-clause-few c =
    let rows = records_left c.args.rows.now in
    let names = drop 1 (fields_of c.args.header.now) in
    let k = c.loop-row.place in
    let few : length (take k rows) ≤ MAX_ROWS = omega (arith, length-take-le k rows c.loop-row.invariant.within, c.loop-row.invariant.room) in
    rw (c.deref_mut-in-Ok.ensures.value, c.loop-row.invariant.marked) (room-times names (take k rows) c.args.events.now few)

pub loop-row-preserved : goal.loop-row-preserved
loop-row-preserved c =
    let rows = records_left c.args.rows.now in
    let lines = c.args.lines.now in
    let inputs = c.args.inputs.now in
    let names = drop 1 (fields_of c.args.header.now) in
    let kinds = c.in_ok-columns.columns.kinds.items in
    let said = c.checked_row.new.said in
    let k = c.loop-row.place in
    let row = fields_of c.read.new.record in
    let taken : records_left c.loop-row.rows ≡ row ∷ records_left c.read.new.self = rw c.if-branch.true at c.in_ok-read.ensures.left in
    let (below, is, after) = first-left rows k row (records_left c.read.new.self) (sym c.loop-row.invariant.left ∙ taken) in
    let fit : length rows ≤ length lines = c.requires.lines in
    let told : row_fault c.args.until kinds (k + 1) c.loop-row.before row ≡ None =
    ap (λ ks. row_fault c.args.until ks (k + 1) c.loop-row.before row) (sym c.deref.ensures.value) ∙ c.in-Ok.ensures.fault.0 in
    let none : None ≡ fault_after c.args.until kinds (take k rows) row =
    sym told ∙ ap (λ b. row_fault c.args.until kinds (k + 1) b row) c.loop-row.invariant.timed ∙ fault-at c.args.until kinds rows k row c.loop-row.invariant.within in
    let kinds_are : c.deref.result.now ≡ map (kind_of_column inputs) names = c.deref.ensures.value ∙ c.in_ok-columns.ensures.kinds in
    let count : length c.deref.result.now ≡ length names = ap (λ ks. length ks) kinds_are ∙ length-map names (kind_of_column inputs) in
    let same : length said ≡ length c.loop-row.said.items = search rules in
    let len : c.loop-row.said.len ≡ length c.loop-row.said.items = search rules in
    let whole_said : c.deref-in-Ok-2.result.now ≡ said = c.deref-in-Ok-2.ensures.value ∙ refilled c.loop-row.said.len c.loop-row.said.items said len same in
    let has : HasSaid (map (kind_of_column inputs) names) row said = rw kinds_are at c.in-Ok.ensures.said in
    let row_size : length row ≡ length names + 1 = omega (arith, c.in-Ok.ensures.whole, count) in
    let said_size : length said ≡ length names = omega (arith, same, c.loop-row.invariant.places, count, ap (λ ks. length ks) c.deref.ensures.value) in
    let of_row : said_samples (time_of row) 0 (map (λ input. index_of names input.name) inputs) said ≡ row_samples names 0 inputs row = row-samples inputs names row said has row_size said_size in
    let columns_are : c.deref-in-Ok.result.now ≡ map (λ input. index_of names input.name) inputs = c.deref-in-Ok.ensures.value ∙ c.in_ok-columns.ensures.inputs in
    let column_count : length c.deref-in-Ok.result.now ≡ length inputs = ap (λ (cs : List ℕ). length cs) columns_are ∙ length-map inputs (λ input. index_of names input.name) in
    let pushed : c.push_samples.new.found ≡ c.loop-row.samples ++ row_samples names 0 inputs row =
    c.in_ok-push_samples-in-Ok.ensures.samples ∙ ap (λ more. c.loop-row.samples ++ more) ((λ j. said_samples (c.in-Ok.ensures.fault.1 j) 0 (columns_are j) (whole_said j)) ∙ of_row) in
    let event_columns : c.deref-in-Ok-3.result.now ≡ map (index_of names) c.args.events.now = c.deref-in-Ok-3.ensures.value ∙ c.in_ok-columns.ensures.events in
    let again : c.deref-in-Ok-4.result.now ≡ said = c.deref-in-Ok-4.ensures.value ∙ refilled c.loop-row.said.len c.loop-row.said.items said len same in
    let before_row : c.deref_mut-in-Ok.result.now ≡ event_times names (take k rows) c.args.events.now = c.deref_mut-in-Ok.ensures.value ∙ c.loop-row.invariant.marked in
    let each : (name : List ℕ) → (get_or said (index_of names name) nothing).is_one ≡ is_one (cell_under names name row) = λ name. mark-of-event inputs names row said name has row_size said_size in
    let times : c.push_times.new.events ≡ event_times names (take k rows ++ row ∷ []) c.args.events.now =
    c.in_ok-push_times-in-Ok.ensures ∙ (λ j. times_with (c.in-Ok.ensures.fault.1 j) (event_columns j) (again j) (before_row j)) ∙ row-times names (take k rows) row said c.args.events.now each in
    let marked_len : c.loop-row.marked.len ≡ length c.loop-row.marked.items = search rules in
    let marked_same : length c.push_times.new.events ≡ length c.loop-row.marked.items =
    ap (λ (es : List (List ℕ)). length es) times ∙ event-times-count names (take k rows ++ row ∷ []) c.args.events.now
    ∙ sym (ap (λ (es : List (List ℕ)). length es) c.loop-row.invariant.marked ∙ event-times-count names (take k rows) c.args.events.now) in
    record {
      stands = c.in_ok-read.ensures.stands (ap Ok c.if-branch.true);
      left = sym after;
      within = omega (arith, below);
      from = first-later (fault_after c.args.until kinds) rows lines k row c.loop-row.invariant.from below fit is none;
      timed = ap Some c.in-Ok.ensures.fault.1 ∙ sym (ap last_time (take-next rows k row below is) ∙ last-more (take k rows) row);
      marked = refilled c.loop-row.marked.len c.loop-row.marked.items c.push_times.new.events marked_len marked_same ∙ times ∙ ap (λ rs. event_times names rs c.args.events.now) (sym (take-next rows k row below is));
      sampled =
          pushed ∙ ap (λ old. old ++ row_samples names 0 inputs row) c.loop-row.invariant.sampled
          ∙ flat_map_more (row_samples names 0 inputs) [] (take k rows) row ∙ ap (flat_map (row_samples names 0 inputs)) (sym (take-next rows k row below is));
      places = ap (λ (ss : List CellContent). length ss) (refilled c.loop-row.said.len c.loop-row.said.items said len same) ∙ same ∙ c.loop-row.invariant.places;
      room = few-after c.args.until kinds (k + 1) c.loop-row.before row told;
      few = omega (arith, c.in_ok-push_samples-in-Ok.ensures.few, c.loop-row.invariant.few, column_count, c.requires.inputs);
    }

pub returns-clause-events : goal.returns-clause-events
returns-clause-events c =
    let rows = records_left c.args.rows.now in
    let none : records_left c.loop-row.rows ≡ [] = rw c.if-branch.false at c.in_ok-read.ensures.left in
    c.loop-row.invariant.marked ∙ ap (λ rs. event_times (drop 1 (fields_of c.args.header.now)) rs c.args.events.now) (none-left rows c.loop-row.place (sym c.loop-row.invariant.left ∙ none))

pub returns-clause-samples : goal.returns-clause-samples
returns-clause-samples c =
    let rows = records_left c.args.rows.now in
    let none : records_left c.loop-row.rows ≡ [] = rw c.if-branch.false at c.in_ok-read.ensures.left in
    c.loop-row.invariant.sampled ∙ ap (λ rs. samples_of (drop 1 (fields_of c.args.header.now)) rs c.args.inputs.now) (none-left rows c.loop-row.place (sym c.loop-row.invariant.left ∙ none))
