use Rattle.std.proofs.Common.{◌≡◌, ℕ, ◌+◌, ◌<◌, List, [], ◌∷◌, ◌++◌, length, take, drop, get_or, sym, ap, ◌∙◌, arith, rules, length-append}
use Rattle.std.specs.Option.{option_to_list}
use Rattle.std.proofs.lemmas.List.{append-nil}
use Rattle.dbp_plan.specs.ListItems.{read_place}
use Rattle.dbp_plan.specs.declared.diagram.Read.{Read}
use Rattle.dbp_plan.proofs.ListParts.{at-any}
use Rattle.dia_check.specs.Diagrams.{firsts, read_of}
use Rattle.dia_check.specs.Shapes.{body_read_lines}
use Rattle.dia_check.proofs.ReadLines.{lines-next}
use Rattle.dia_check.proofs.ReadSteps.{known-part, reads-next, used_after, used_before, used-next, used-parts, used-whole}
use Rattle.dia_check.proofs.reads.reads_of.Goals as goal
use Rattle.dia_check.proofs.reads.reads_of.Goals.{in-Some+in_ok-push, in_default}

pub read_of-requires-clause-known : goal.read_of-requires-clause-known
read_of-requires-clause-known c =
    let parts = c.args.raw.now.parts in
    let k = c.loop-place.place in
    let p = c.part-item.result in
    let below : k < length parts = rw c.items-part-items.ensures.value at c.loop-place-test.true in
    let is : p ≡ get_or parts k p = rw c.items-part-items.ensures.value at c.part-item.is in
    known-part c.args.body.now c.args.raw.now (take k parts) p (c.requires.faultless k p (read_place parts k p below is))

pub loop-place-preserved : goal.loop-place-preserved
loop-place-preserved c =
    let tasks = c.args.body.now.tasks in
    let t = c.args.raw.now in
    let i = c.args.reader in
    let ns = c.args.lines.now in
    let k = c.loop-place.place in
    let p = c.part-item.result in
    let below : k < length t.parts = rw c.items-part-items.ensures.value at c.loop-place-test.true in
    let is : p ≡ get_or t.parts k p = rw c.items-part-items.ensures.value at c.part-item.is in
    let in_ns : k < length ns = omega (arith, below, c.requires.lines) in
    let n : ℕ = get_or ns k 0 in
    let used = used_before tasks i t c.requires.at k in
    let more = used_after tasks i t c.requires.at k p below is in
    let so_far : c.loop-place.found.links ≡ firsts used = c.loop-place.invariant.links in
    let whole = used-parts tasks i t c.requires.at k p below is in
    let one : option_to_list c.in_ok-read.field-0 ≡ read_of tasks i p = c.in_ok-read.ensures.read used more so_far whole in
    let links : c.read_of.new.found.links ≡ firsts (used_before tasks i t c.requires.at (k + 1)) = c.in_ok-read.ensures.links used so_far ∙ ap firsts (used-next tasks i t c.requires.at k p below is) in
    let lines : c.args.found.now.lines ++ body_read_lines tasks i t.parts ns ≡ c.read_of.new.found.lines ++ body_read_lines tasks i (drop (k + 1) t.parts) (drop (k + 1) ns) =
    c.loop-place.invariant.lines ∙ lines-next tasks i t.parts ns k p n below in_ns is (at-any ns k 0 in_ns) c.loop-place.found.lines
    ∙ ap (λ ls. ls ++ body_read_lines tasks i (drop (k + 1) t.parts) (drop (k + 1) ns)) (sym (c.in_ok-read.ensures.lines used more so_far whole)) in
    elim c.match-branch-2.branch [
      | in-Some+in_ok-push w ↦
          let made : List Read = w.in-Some.read ∷ [] in
          let read : made ≡ read_of tasks i p = ap option_to_list (sym w.in-Some.is) ∙ one in
          let next : c.match-branch-2.reads ≡ c.loop-place.reads ++ made = w.reads-is ∙ w.in_ok-push.ensures.ok in
          record {
            reads = reads-next (read_of tasks i) t.parts k p c.loop-place.reads c.match-branch-2.reads made below is c.loop-place.invariant.reads read next;
            links = links;
            lines = lines;
            few_reads = omega (arith, ap (λ (rs : List Read). length rs) next, length-append c.loop-place.reads made, c.loop-place.invariant.few_reads);
            few_links = omega (arith, c.in_ok-read.ensures.few.0, c.loop-place.invariant.few_links);
            few_lines = omega (arith, c.in_ok-read.ensures.few.1, c.loop-place.invariant.few_lines);
          }
      | in_default w ↦
          let made : List Read = [] in
          let read : made ≡ read_of tasks i p = ap option_to_list (sym w.in_default.is) ∙ one in
          let next : c.match-branch-2.reads ≡ c.loop-place.reads ++ made = w.reads-is ∙ sym (append-nil c.loop-place.reads) in
          record {
            reads = reads-next (read_of tasks i) t.parts k p c.loop-place.reads c.match-branch-2.reads made below is c.loop-place.invariant.reads read next;
            links = links;
            lines = lines;
            few_reads = omega (arith, ap (λ (rs : List Read). length rs) w.reads-is, c.loop-place.invariant.few_reads);
            few_links = omega (arith, c.in_ok-read.ensures.few.0, c.loop-place.invariant.few_links);
            few_lines = omega (arith, c.in_ok-read.ensures.few.1, c.loop-place.invariant.few_lines);
          }
    ]

pub returns-clause-links : goal.returns-clause-links
returns-clause-links c =
    let tasks = c.args.body.now.tasks in
    let t = c.args.raw.now in
    let end : c.loop-place.place ≡ length t.parts = search rules in
    c.loop-place.invariant.links ∙ ap (λ (k : ℕ). firsts (used_before tasks c.args.reader t c.requires.at k)) end ∙ ap firsts (used-whole tasks c.args.reader t c.requires.at)
