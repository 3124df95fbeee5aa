-- The document of a scenario, and when tasks occur in it.
use Rattle.std.specs.Prelude.{◌≡◌, ◌≢◌, ℕ, ◌<◌, if◌then◌else◌, List, [], ◌∷◌, length, map, slice_get, slice_index_or, Some, None}
use Rattle.std.specs.List.{range_with_len}
use Rattle.dbp_plan.specs.declared.diagram.Diagram.{Diagram}
use Rattle.dbp_plan.specs.declared.plan.Plan.{Plan}
use Rattle.dbp_plan.specs.Occurrences.{times_of}
use Rattle.dia_check.specs.Checks.{IsCheckedOf}
use Rattle.dia_read.specs.declared.document.Body.{Body}
use Rattle.dia_read.specs.declared.document.DocLines.{DocLines}
use Rattle.dia_read.specs.Printable.{HasItemLines}
use Rattle.trace_rows.specs.Written.{WrittenCell, WrittenRow, mark, nothing, written_section}
use Rattle.slot_need.specs.declared.column.Column.{Column}
use Rattle.slot_need.specs.declared.column.Firing.{Firing}
use Rattle.slot_need.specs.Scenarios.{firing_count, firing_of_reader, firing_time, fires_at, lower_readers, scenario_columns, scenario_end}

-- the diagram is that of a document with this body, on some lines
pub record IsCheckedDiagramOf (body : Body) (d : Diagram) : Type 0 where
  pub lines : DocLines
  pub each : HasItemLines (record { body = body; lines = lines })
  pub checked : IsCheckedOf (record { body = body; lines = lines }) d

-- ---- the document

-- a mark where the event occurs
abbrev pub cell_at : ℕ → Firing → WrittenCell
cell_at k firing = if fires_at firing k then mark else nothing

-- the row of the firing with this number, at this time
abbrev pub row_at : List Column → ℕ → ℕ → WrittenRow
row_at columns time k = record { time = time; cells = map (λ c. cell_at k c.firing) columns }

-- a row for each firing of task w
abbrev pub scenario_rows : Diagram → ℕ → List WrittenRow
scenario_rows d w = map (λ k. row_at (scenario_columns d w) (firing_time d w k) k) (range_with_len 0 (firing_count d w))

abbrev pub column_names : List (List ℕ) → List Column → List (List ℕ)
column_names events columns = map (λ c. slice_index_or events c.event []) columns

abbrev pub scenario_trace : Diagram → ℕ → List ℕ
scenario_trace d w = written_section (column_names d.events (scenario_columns d w)) (scenario_rows d w)

-- the body with the end and the trace of the scenario of task w, and without a script
abbrev pub scenario_body : Body → Diagram → ℕ → Body
scenario_body body d w = record body { until = scenario_end d w; trace = Some (scenario_trace d w); script = None }

-- ---- its plan

-- The plan has this diagram with the end of the scenario, and no samples. Task w occurs at each firing, each reader below it
-- once, at its own, and no other task.
pub record IsScenario (d : Diagram) (w : ℕ) (p : Plan) : Type 0 where
  pub diagram : p.diagram ≡ record d { until = scenario_end d w }
  pub samples : p.samples ≡ []
  pub task : times_of p.batches w ≡ map (firing_time d w) (range_with_len 0 (firing_count d w))
  pub readers : (j i : ℕ) → slice_get (lower_readers d w) j ≡ Some i → times_of p.batches i ≡ firing_time d w (firing_of_reader d w j) ∷ []
  pub others : (i : ℕ) → i < length d.tasks → i ≢ w → ((j : ℕ) → slice_get (lower_readers d w) j ≢ Some i) → times_of p.batches i ≡ []
