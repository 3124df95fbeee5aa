use Rattle.std.proofs.Common.{◌≡◌, ℕ, ◌++◌, ◌∷◌, [], List, length, ap, ◌∙◌, arith}
use Rattle.std.specs.Prelude.{codes, pos}
use Rattle.std.proofs.lemmas.List.{length-append}
use Rattle.dia_lines.specs.declared.item.Part.{Part}
use Rattle.dia_lines.specs.declared.item.Part.TheVariants.{State, Sense, Next, Out}
use Rattle.dbp_plan.specs.Tree.{nodes_of}
use Rattle.dbp_load.specs.Bodies.{early_count, early_read, few_early, few_reads, has_late, late_read, late_reads, names_of_reads}
use Rattle.drawn_numbers.specs.Draws.{after_draws}
use Rattle.dbp_load.specs.Expressions.{next_expr, out_expr, out_tree}
use Rattle.dbp_load.specs.Listed.{first_items}
use Rattle.drawn_numbers.proofs.DrawLaws.{draws-add}
use Rattle.dbp_load.proofs.ExpressionNodes.{same-nodes}
use Rattle.dbp_load.proofs.ListedItems.{length-listed}
use Rattle.dbp_load.proofs.LateReads.{few-late-reads, joined}
use Rattle.dbp_load.proofs.tasks.body_of_task.Goals as goal

pub out_value-requires : goal.out_value-requires
out_value-requires c =
    let n = c.args.number in
    let same = c.items.ensures.value ∙ c.in_ok-reads.ensures in
    omega (arith, ap length same, few_reads (early_count n) (has_late c.args.size n) (few_early n))

pub push_late_read-requires-clause-room : goal.push_late_read-requires-clause-room
push_late_read-requires-clause-room c =
    let n = c.args.number in
    let reads = first_items (early_read c.args.draws.now n) (early_count n) in
    omega (
      arith,
      ap length c.in_ok-push_early_reads.ensures.parts,
      length-append c.push-2.new.self reads,
      length-listed (early_read c.args.draws.now n) (early_count n),
      few_early n,
      ap length c.in_ok-push-2.ensures.ok,
      length-append c.push.new.self (Sense c.name-2.result c.name-3.result ∷ []),
      ap length c.in_ok-push.ensures.ok,
      length-append c.new-parts.result (State c.name.result (pos 0) ∷ []),
      ap length c.new-parts.ensures,
    )

pub push-requires-3 : goal.push-requires-3
push-requires-3 c =
    let n = c.args.number in
    let reads = first_items (early_read c.args.draws.now n) (early_count n) in
    let read = late_read c.args.size c.push_early_reads.new.draws n 0 in
    omega (
      arith,
      ap length c.in_ok-push_late_read.ensures.parts,
      length-append c.push_early_reads.new.parts (late_reads (has_late c.args.size n) read),
      few-late-reads (has_late c.args.size n) read,
      ap length c.in_ok-push_early_reads.ensures.parts,
      length-append c.push-2.new.self reads,
      length-listed (early_read c.args.draws.now n) (early_count n),
      few_early n,
      ap length c.in_ok-push-2.ensures.ok,
      length-append c.push.new.self (Sense c.name-2.result c.name-3.result ∷ []),
      ap length c.in_ok-push.ensures.ok,
      length-append c.new-parts.result (State c.name.result (pos 0) ∷ []),
      ap length c.new-parts.ensures,
    )

pub push-requires-4 : goal.push-requires-4
push-requires-4 c =
    let n = c.args.number in
    let reads = first_items (early_read c.args.draws.now n) (early_count n) in
    let read = late_read c.args.size c.push_early_reads.new.draws n 0 in
    omega (
      arith,
      ap length c.in_ok-push-3.ensures.ok,
      length-append c.push_late_read.new.parts (Next c.name-4.result c.in_ok-next.next ∷ []),
      ap length c.in_ok-push_late_read.ensures.parts,
      length-append c.push_early_reads.new.parts (late_reads (has_late c.args.size n) read),
      few-late-reads (has_late c.args.size n) read,
      ap length c.in_ok-push_early_reads.ensures.parts,
      length-append c.push-2.new.self reads,
      length-listed (early_read c.args.draws.now n) (early_count n),
      few_early n,
      ap length c.in_ok-push-2.ensures.ok,
      length-append c.push.new.self (Sense c.name-2.result c.name-3.result ∷ []),
      ap length c.in_ok-push.ensures.ok,
      length-append c.new-parts.result (State c.name.result (pos 0) ∷ []),
      ap length c.new-parts.ensures,
    )

pub returns-clause-parts : goal.returns-clause-parts
returns-clause-parts c =
    let n = c.args.number in
    let size = c.args.size in
    let start = c.args.draws.now in
    let early = early_count n in
    let late = has_late size n in
    let names = names_of_reads early late in
    let out = out_expr names (few_reads early late (few_early n)) in
    let same : c.items.result.now ≡ names = c.items.ensures.value ∙ c.in_ok-reads.ensures in
    let value : c.in_ok-value.value ≡ out = same-nodes c.in_ok-value.value out (c.in_ok-value.ensures ∙ ap (λ (rs : List (List ℕ)). nodes_of 0 (out_tree rs)) same) in
    let first : List Part = State (codes "s") (pos 0) ∷ Sense (codes "g0") (codes "g") ∷ [] in
    let two : c.push-2.new.self ≡ first =
    c.in_ok-push-2.ensures.ok ∙ ap (λ (ps : List Part). ps ++ Sense c.name-2.result c.name-3.result ∷ []) c.in_ok-push.ensures.ok
    ∙ (λ j. (c.new-parts.ensures j ++ State (c.name.ensures j) (pos 0) ∷ []) ++ Sense (c.name-2.ensures j) (c.name-3.ensures j) ∷ []) in
    let reads = first_items (early_read start n) early in
    let drawn_read : late_read size c.push_early_reads.new.draws n 0 ≡ late_read size start n early =
    ap (λ (d : ℕ). late_read size d n 0) c.in_ok-push_early_reads.ensures.draws in
    let next = Next c.name-4.result c.in_ok-next.next in
    let last = c.out_part.result in
    let read = late_reads late (late_read size c.push_early_reads.new.draws n 0) in
    c.in_ok-push-4.ensures.ok
    ∙ ap (λ (ps : List Part). ps ++ last ∷ []) c.in_ok-push-3.ensures.ok
    ∙ ap (λ (ps : List Part). (ps ++ next ∷ []) ++ last ∷ []) c.in_ok-push_late_read.ensures.parts
    ∙ ap (λ (ps : List Part). ((ps ++ read) ++ next ∷ []) ++ last ∷ []) c.in_ok-push_early_reads.ensures.parts
    ∙ ap (λ (ps : List Part). (((ps ++ reads) ++ read) ++ next ∷ []) ++ last ∷ []) two
    ∙ (λ j. (((first ++ reads) ++ late_reads late (drawn_read j)) ++ Next (c.name-4.ensures j) (c.in_ok-next.ensures j) ∷ []) ++ (c.out_part.ensures ∙ ap (Out (codes "y") (pos n)) value) j ∷ [])
    ∙ joined first reads (late_reads late (late_read size start n early)) (Next (codes "s") next_expr) (Out (codes "y") (pos n) out)

pub returns-clause-draws : goal.returns-clause-draws
returns-clause-draws c more =
    let early = early_count c.args.number in
    c.in_ok-push_late_read.ensures.draws more ∙ ap (after_draws 1) c.in_ok-push_early_reads.ensures.draws ∙ draws-add 1 early c.args.draws.now
