use Rattle.std.proofs.Common.{◌≡◌, ◌+◌, ◌*◌, ◌≤◌, ◌∷◌, [], length}
use Rattle.std.specs.Prelude.{codes}
use Rattle.trace_rows.specs.Written.{written_section}
use Rattle.dbp_load.specs.Bodies.{trace_row}
use Rattle.dbp_load.specs.Listed.{first_items}
use Rattle.dbp_load.proofs.section.trace_text.Given as goal

abbrev pub invariant-loop-number : goal.invariant-loop-number
invariant-loop-number l = record {
  text : l.text ≡ written_section (codes "g" ∷ []) (first_items (trace_row l.size) l.number);
  short : length l.text ≤ 10 + 90 * l.number;
}
