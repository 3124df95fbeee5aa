-- The text of a scenario is accepted, and its plan has each task occur as the scenario says.
use Rattle.std.proofs.Common.{◌≡◌, ℕ, ◌+◌, ◌-◌, ◌*◌, ◌<◌, ◌≤◌, All, List, [], ◌∷◌, length, map, slice_get, Option, Some, None, refl, sym, ap, ◌∙◌, subst, arith}
use Rattle.std.specs.Prelude.{filter}
use Rattle.std.specs.List.{range_with_len}
use Rattle.std.specs.Option.{option_map}
use Rattle.std.specs.List.Sorted.{IsStrictlyIncreasing}
use Rattle.std.proofs.Math.Nat.{mul-le-mul_right}
use Rattle.std.proofs.lemmas.List.{length-map}
use Rattle.std.proofs.lemmas.List.FromFn.{get_or-map-range_with_len, length-map-range_with_len, length-range_with_len}
use Rattle.std.proofs.lemmas.List.Sums.{count_by-le-length, length-filter, sum_by-le}
use Rattle.std.proofs.lemmas.Option.{get_or_from_slice_get, slice_get-map}
use Rattle.dbp_plan.specs.declared.diagram.Diagram.{Diagram}
use Rattle.dbp_plan.specs.declared.diagram.Task.{Task}
use Rattle.dbp_plan.specs.declared.limits.TheConstants.{MAX_OCCURRENCES}
use Rattle.dbp_plan.specs.declared.plan.Plan.{Plan}
use Rattle.dbp_plan.specs.declared.schedule.Sample.{Sample}
use Rattle.dbp_plan.specs.Clocks.{base_times, is_on}
use Rattle.dbp_plan.specs.Closed.{IsClosedTask}
use Rattle.dbp_plan.specs.ListItems.{all_place, at_place}
use Rattle.dbp_plan.specs.Lookups.{no_declared_task, task_at}
use Rattle.dbp_plan.specs.Name.{IsName}
use Rattle.dbp_plan.specs.Occurrences.{times_of}
use Rattle.dbp_plan.specs.Ranked.{IsRanked}
use Rattle.dbp_plan.proofs.ListMaps.{filter-all}
use Rattle.dia_read.specs.declared.document.Body.{Body}
use Rattle.dia_read.specs.declared.document.Doc.{Doc}
use Rattle.dia_read.specs.Canonical.{SpellsBody, canonical_text}
use Rattle.dia_read.specs.Documents.{Spells}
use Rattle.dia_read.specs.Printable.{HasItemLines, IsPrintable}
use Rattle.dia_check.specs.Checks.{IsCheckedOf}
use Rattle.dia_check.specs.ItemNames.{AreNamed, input_and_event_names}
use Rattle.dia_check.proofs.CheckedRanks.{checked-ranked}
use Rattle.dia_check.proofs.DeclaredNames.{declared-names}
use Rattle.dia_check.proofs.PlaceLaws.{all-places}
use Rattle.dia_check.proofs.SameTasks.{checked-again}
use Rattle.trace_rows.specs.Headers.{kind_of_column}
use Rattle.trace_rows.specs.Written.{AreCellsOf, CanWrite, WrittenRow, written_samples, written_times}
use Rattle.trace_rows.proofs.WrittenRows.{each-row}
use Rattle.trace_rows.proofs.WrittenText.{section-kept}
use Rattle.trace_io.specs.Batches.{times_in, total_of}
use Rattle.trace_io.specs.Texts.{Accepts}
use Rattle.trace_io.specs.Traces.{IsPlanOf, events_of}
use Rattle.trace_io.specs.WrittenTraces.{HasWrittenTrace, written_events}
use Rattle.trace_io.proofs.WrittenTraces.{events-written, samples-written, written-plan}
use Rattle.rank_order.specs.Service.{IsService}
use Rattle.rank_order.specs.ServiceOf.{service}
use Rattle.slot_need.specs.declared.column.Firing.{Firing}
use Rattle.slot_need.specs.declared.column.Firing.TheVariants.{Never, Each, Once}
use Rattle.slot_need.specs.Bodies.{IsCheckedDiagramOf, IsScenario, column_names, row_at, scenario_body, scenario_rows}
use Rattle.slot_need.specs.Faults.{need_fault}
use Rattle.slot_need.specs.Live.{NeedsAllSlots}
use Rattle.slot_need.specs.Scenarios.{firing_count, firing_of_event, firing_of_first, firing_of_reader, firing_of_task, firing_time, fires_at, last_firing, scenario_columns, scenario_end}
use Rattle.slot_need.proofs.ColumnNames.{all_columns, columns-apart, columns-named, known-event, name-at, no-input}
use Rattle.slot_need.proofs.Columns.{all-names, distinct-names, known-names, marks-of-events, name_of}
use Rattle.slot_need.proofs.LiveRows.{live-rows}
use Rattle.slot_need.proofs.NeedFaults.{IsOnEvent, by-rank, first-on-event, on-event, short-scenario}
use Rattle.slot_need.proofs.Readers.{few-firings}
use Rattle.slot_need.proofs.Served.{no-overrun}
use Rattle.slot_need.proofs.ScenarioTimes.{event-times, no-samples, times_of_event}
use Rattle.slot_need.proofs.TaskFirings.{each-number, fires-each, inside-scenario, is-reader, never-fires, no-number, one-number, reader-fires}

pub ranked-diagram : (body : Body) (d : Diagram) → IsCheckedDiagramOf body d → IsPrintable body → IsRanked d
ranked-diagram body d is printable = checked-ranked (record { body = body; lines = is.lines }) d printable is.each is.checked

module _ (spells : (body : Body) → IsPrintable body → SpellsBody (canonical_text body) body) (item-lines : (text : List ℕ) (doc : Doc) → Spells text doc → HasItemLines doc) (body : Body) (d : Diagram) (w : ℕ) (is : IsCheckedDiagramOf body d) (printable : IsPrintable body) (there : w < length d.tasks) (none : need_fault d w ≡ None) where
  abbrev old : Doc
  old = record { body = body; lines = is.lines }

  ranked : IsRanked d
  ranked = ranked-diagram body d is printable

  named : AreNamed (λ n. n) (input_and_event_names d)
  named = declared-names old d printable is.each is.checked

  abbrev count : ℕ
  count = firing_count d w

  abbrev end : ℕ
  end = scenario_end d w

  abbrev names : List (List ℕ)
  names = column_names d.events (scenario_columns d w)

  abbrev rows : List WrittenRow
  rows = scenario_rows d w

  abbrev row : ℕ → WrittenRow
  row k = row_at (scenario_columns d w) (firing_time d w k) k

  -- ---- what is written

  some-cost : 1 ≤ (task_at d w).cost
  some-cost =
      let (t, at) = at_place d.tasks w there in
      let closed = all_place (IsClosedTask (length d.inputs) (length d.events) (length d.links)) d.tasks w t ranked.closed.each at in
      subst (λ (u : Task). 1 ≤ u.cost) (sym (get_or_from_slice_get d.tasks w t no_declared_task at)) closed.cost.0

  row-times : (ks : List ℕ) → map (λ (r : WrittenRow). r.time) (map row ks) ≡ map (firing_time d w) ks
  row-times [] = refl
  row-times (k ∷ ks) = ap (λ ts. firing_time d w k ∷ ts) (row-times ks)

  rising-rows : IsStrictlyIncreasing (map (λ r. r.time) rows)
  rising-rows =
      subst IsStrictlyIncreasing (sym (row-times (range_with_len 0 count))) (λ k below.
      let inside : k + 1 < count = omega (arith, below, length-map-range_with_len (firing_time d w) 0 count) in
      omega (
        arith,
        some-cost,
        get_or-map-range_with_len (firing_time d w) 0 count k k 0 (omega (arith, inside)) (omega arith),
        get_or-map-range_with_len (firing_time d w) 0 count (k + 1) (k + 1) 0 inside (omega arith),
      ))

  rows-end : All (λ r. r.time < end) rows
  rows-end k r below =
      let inside : k < count = omega (arith, below, length-map-range_with_len row 0 count) in
      let most : k * (task_at d w).cost ≤ (count - 1) * (task_at d w).cost = mul-le-mul_right (task_at d w).cost (omega (arith, inside)) in
      subst (λ (s : WrittenRow). s.time < end) (sym (get_or-map-range_with_len row 0 count k k r inside (omega arith))) (omega (arith, most))

  row-cells : All (λ r. AreCellsOf (map (kind_of_column d.inputs) names) r.cells) rows
  row-cells k r below =
      let inside : k < count = omega (arith, below, length-map-range_with_len row 0 count) in
      subst (λ (s : WrittenRow). AreCellsOf (map (kind_of_column d.inputs) names) s.cells) (sym (get_or-map-range_with_len row 0 count k k r inside (omega arith)))
      (marks-of-events d.events d.inputs k (all_columns d w) (λ i c at. no-input d named i (name_of d.events c) (name-at d w i c at)))

  can : CanWrite end d.inputs d.events names rows
  can = record {
    last = short-scenario d w none;
    names = all-names d.events IsName (all_columns d w) (columns-named d named w);
    declared = known-names d.events _ (all_columns d w) (λ i c at. known-event d named i (name_of d.events c) (name-at d w i c at));
    distinct = distinct-names d.events (all_columns d w) (columns-apart d named w);
    apart = all-places _ d.events (λ e n at. no-input d named e n at);
    few = omega (arith, few-firings d w ranked.closed, length-map-range_with_len row 0 count);
    rising = rising-rows;
    ends = rows-end;
    cells = row-cells;
  }

  abbrev written : Body
  written = scenario_body body d w

  pub printable-again : IsPrintable written
  printable-again = record {
    version = printable.version;
    plain = printable.plain;
    until = short-scenario d w none;
    decls = printable.decls;
    inputs = printable.inputs;
    events = printable.events;
    tasks = printable.tasks;
    few = printable.few;
    links = printable.links;
    trace = section-kept (map (kind_of_column d.inputs) names) names rows can.names (each-row end d.inputs d.events names rows can);
    script = tt;
  }

  -- ---- its document

  abbrev spelled : SpellsBody (canonical_text written) written
  spelled = spells written printable-again

  abbrev new : Doc
  new = record { body = written; lines = spelled.lines }

  items : HasItemLines new
  items = item-lines (canonical_text written) new spelled.spelled

  abbrev longer : Diagram
  longer = record d { until = end }

  checked : IsCheckedOf new longer
  checked = checked-again old new d (record { policy = refl; decls = refl; tasks = refl }) is.each items is.checked

  traced : HasWrittenTrace new longer names rows
  traced = record { section = refl; can = can }

  -- ---- when tasks occur

  abbrev events : List (List ℕ)
  events = written_events longer names rows

  times-on-event : (i : ℕ) (t : Task) (event : ℕ) → slice_get d.tasks i ≡ Some t → IsOnEvent t event → (samples : List Sample) → times_in longer samples events t ≡ times_of_event d w event
  times-on-event i t event at on samples =
      let closed = all_place (IsClosedTask (length d.inputs) (length d.events) (length d.links)) d.tasks i t ranked.closed.each at in
      let below : event < length d.events = closed.on_event event on.clock in
      let (n, at_n) = at_place d.events event below in
      let ticks = base_times end events t.clock in
      ap (λ (when : Option ℕ). filter (is_on d.inputs samples when) ticks) on.always
      ∙ filter-all (is_on d.inputs samples None) ticks (λ k e inside. refl)
      ∙ ap (base_times end events) on.clock
      ∙ get_or_from_slice_get events event (written_times names rows n) [] (slice_get-map (written_times names rows) d.events event ∙ ap (option_map (written_times names rows)) at_n)
      ∙ event-times d w named event n at_n below

  few-times : (event : ℕ) → length (times_of_event d w event) ≤ 297
  few-times event =
      let all = range_with_len 0 count in
      let kept = filter (fires_at (firing_of_event d w event)) all in
      omega (arith, length-map kept (firing_time d w), length-filter (fires_at (firing_of_event d w event)) all, count_by-le-length (fires_at (firing_of_event d w event)) all, length-range_with_len 0 count, few-firings d w ranked.closed)

  few-occurrences : (samples : List Sample) → total_of longer samples events ≤ MAX_OCCURRENCES
  few-occurrences samples =
      let each : All (λ t. length (times_in longer samples events t) ≤ 297) d.tasks =
      all-places (λ t. length (times_in longer samples events t) ≤ 297) d.tasks (λ i t at. let (event, on) = on-event d w none i t at in
      omega (arith, ap (λ (ts : List ℕ). length ts) (times-on-event i t event at on samples), few-times event)) in
      omega (arith, sum_by-le (λ t. length (times_in longer samples events t)) 297 d.tasks each, ranked.closed.tasks)

  plan : (p : Plan) × IsPlanOf new longer p
  plan = written-plan new longer names rows traced printable-again items checked (few-occurrences (written_samples names rows d.inputs))

  -- a task occurs at the firings of its event
  times-of-task : (p : Plan) → IsPlanOf new longer p → (i : ℕ) → i < length d.tasks → (f : Firing) → firing_of_task d w i ≡ f → times_of p.batches i ≡ map (firing_time d w) (filter (fires_at f) (range_with_len 0 count))
  times-of-task p planned i below f firing =
      let (t, at) = at_place d.tasks i below in
      let (event, on) = on-event d w none i t at in
      let same : firing_of_event d w event ≡ f = ap (firing_of_first d w) (first-on-event d w none i t event at on.clock) ∙ firing in
      planned.batches.each i t at
      ∙ ap (λ (samples : List Sample). times_in longer samples (events_of new longer) t) (samples-written new longer names rows traced)
      ∙ ap (λ (times : List (List ℕ)). times_in longer (written_samples names rows d.inputs) times t) (events-written new longer names rows traced)
      ∙ times-on-event i t event at on (written_samples names rows d.inputs) ∙ ap (λ (g : Firing). map (firing_time d w) (filter (fires_at g) (range_with_len 0 count))) same

  scenario : (p : Plan) → IsPlanOf new longer p → IsScenario d w p
  scenario p planned = record {
    diagram = planned.diagram;
    samples = planned.samples ∙ samples-written new longer names rows traced ∙ no-samples d w d.inputs;
    task = times-of-task p planned w there Each (fires-each d w) ∙ ap (map (firing_time d w)) (each-number count);
    readers = λ j i at. times-of-task p planned i (is-reader d w j i at).1 (Once (firing_of_reader d w j)) (reader-fires d w j i at)
        ∙ ap (map (firing_time d w)) (one-number (firing_of_reader d w j) count (inside-scenario d w j i at));
    others = λ i below apart outside. times-of-task p planned i below Never (never-fires d w i apart outside) ∙ ap (map (firing_time d w)) (no-number count);
  }

  pub accepted : ((p : Plan) → IsService p (service p)) → (p : Plan) × Accepts (canonical_text written) p × IsScenario d w p × NeedsAllSlots p w (last_firing d w)
  accepted serves =
      let (p, planned) = plan in
      let is = scenario p planned in
      let fixed = by-rank d w none in (
        p,
        record { doc = new; diagram = longer; spelled = spelled.spelled; checked = checked; planned = planned },
        is,
        record { no_overrun = no-overrun d w there fixed p is (service p) (serves p); rows = live-rows d w there fixed ranked p is (serves p) },
      )
