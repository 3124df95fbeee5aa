use Rattle.std.proofs.Common.{◌≡◌, ◌*◌, ◌<◌, List, ℕ, length, map, ap, sym, ◌∙◌, arith}
use Rattle.std.specs.Prelude.{slice_index_or}
use Rattle.std.specs.List.{range_with_len}
use Rattle.std.proofs.lemmas.List.{get_or_default}
use Rattle.dbp_plan.specs.declared.diagram.Task.{Task}
use Rattle.dbp_plan.specs.Lookups.{no_declared_task, task_at}
use Rattle.trace_rows.specs.Written.{WrittenRow, written_section}
use Rattle.slot_need.specs.Bodies.{column_names, row_at}
use Rattle.slot_need.specs.Scenarios.{firing_time, scenario_columns}
use Rattle.slot_need.proofs.Ranges.{mapped-more}
use Rattle.slot_need.proofs.SectionLines.{first-line, next-line}
use Rattle.slot_need.proofs.text.scenario_trace.Goals as goal

pub loop-firing-init : goal.loop-firing-init
loop-firing-init c = record {
  text = first-line _ _ _ _ _ _ c.in_ok-push_header.ensures.text c.new-text.ensures c.items-2.ensures.value (c.as_slice.ensures.value ∙ c.scenario_columns-columns.ensures.columns);
  short = omega (arith, c.in_ok-push_header.ensures.short, ap (λ (text : List ℕ). length text) c.new-text.ensures);
}

pub loop-firing-preserved : goal.loop-firing-preserved
loop-firing-preserved c =
    let d = c.args.diagram.now in
    let w = c.args.task in
    let k = c.loop-firing.firing in
    let columns = scenario_columns d w in
    let names = column_names d.events columns in
    let row : ℕ → WrittenRow = λ k. row_at columns (firing_time d w k) k in
    let t = c.index-items-task.result in
    let inside : w < length c.items.result.now = omega (arith, c.requires.task, ap (λ (tasks : List Task). length tasks) c.items.ensures.value) in
    let there : t ≡ task_at d w =
    c.index-items-task.is ∙ get_or_default c.items.result.now w t no_declared_task inside ∙ ap (λ tasks. slice_index_or tasks w no_declared_task) c.items.ensures.value in
    let time = ap (λ n. n * (slice_index_or c.items.result.now w t).cost) c.from.ensures ∙ ap (λ (t : Task). k * t.cost) (sym c.index-items-task.is ∙ there) in
    record {
      text = next-line names (map row (range_with_len 0 k)) _ _ _ columns _ (firing_time d w k) k c.in_ok-push_row.ensures.text c.loop-firing.invariant.text
          (c.as_slice-in-loop-firing.ensures.value ∙ c.scenario_columns-columns.ensures.columns) time
          ∙ ap (λ rows. written_section names rows) (sym (mapped-more row k));
      short = omega (arith, c.in_ok-push_row.ensures.short, c.loop-firing.invariant.short);
    }
