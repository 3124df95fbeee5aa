use Rattle.std.proofs.Common.{◌++◌, ◌∷◌, [], List, ℕ, ap, sym, ◌∙◌, arith}
use Rattle.std.specs.Prelude.{codes}
use Rattle.std.proofs.lemmas.List.{append_assoc}
use Rattle.trace_rows.specs.Written.{written_row, written_section}
use Rattle.dbp_load.specs.Bodies.{trace_row}
use Rattle.dbp_load.specs.Listed.{first_items}
use Rattle.dbp_load.proofs.SectionText.{one-row-more}
use Rattle.dbp_load.proofs.section.trace_text.Goals as goal

pub loop-number-preserved : goal.loop-number-preserved
loop-number-preserved c =
    let size = c.args.size in
    let n = c.loop-number.number in
    let row = written_row (trace_row size n) in
    let before = written_section (codes "g" ∷ []) (first_items (trace_row size) n) in
    record {
      text = c.in_ok-push_row.ensures.text
          ∙ ap (λ (text : List ℕ). (text ++ row) ++ 10 ∷ []) c.loop-number.invariant.text
          ∙ append_assoc before row (10 ∷ [])
          ∙ sym (one-row-more (codes "g" ∷ []) (trace_row size) n);
      short = omega (arith, c.in_ok-push_row.ensures.short, c.loop-number.invariant.short);
    }
