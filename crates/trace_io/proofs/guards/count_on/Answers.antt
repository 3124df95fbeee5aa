use Rattle.std.proofs.Common.{rules, ◌≡◌, ◌+◌, ◌≤◌, List, ℕ, length, take, drop, sym, ap, ◌∙◌, arith, w64, length-append, length-drop}
use Rattle.std.specs.Prelude.{filter}
use Rattle.std.proofs.lemmas.Int.{to_z-of_z}
use Rattle.std.proofs.lemmas.List.{length-take-le}
use Rattle.dbp_plan.specs.Clocks.{base_times}
use Rattle.trace_io.specs.Spans.{is_on_by}
use Rattle.trace_io.proofs.Spans.{end-within, last-start, next-start, span-off, span-on, span-order}
use Rattle.trace_io.proofs.guards.count_on.Goals as goal
use Rattle.trace_io.proofs.guards.count_on.Goals.{then-is_on_before, else-is_on_before}
use mir.Val.{to_z, of_z}

pub overflow_sub-count : goal.overflow_sub-count
overflow_sub-count c =
    span-order (base_times c.args.until c.args.events.now c.args.clock) c.args.own.now c.loop-k.k c.loop-k.from c.span_end-to.result c.loop-k.invariant.start c.span_end-to.ensures.end (omega (arith, c.loop-k-test.true)) c.requires.rising

pub loop-k-preserved : goal.loop-k-preserved
loop-k-preserved c =
    let base : List ℕ = base_times c.args.until c.args.events.now c.args.clock in
    let own = c.args.own.now in
    let k = c.loop-k.k in
    let from = c.loop-k.from in
    let to = c.span_end-to.result in
    let start = c.loop-k.invariant.start in
    let end = c.span_end-to.ensures.end in
    let inside : k ≤ length own = omega (arith, c.loop-k-test.true) in
    let order = span-order base own k from to start end inside c.requires.rising in
    let within = end-within base own k to end in
    let next = next-start base own k from to start end inside c.requires.rising in
    let first = to_z w64 (of_z w64 c.args.first) in
    elim c.if-is_on_before.branch [
      | then-is_on_before w ↦
          let more = ap (λ (ts : List ℕ). length ts) (span-on base own k from to start end inside c.requires.rising first (sym c.is_on_before.ensures ∙ w.if-is_on_before.true)) in
          let size = length-append (filter (is_on_by first own) (take from base)) (drop from (take to base)) in
          record {
            start = next;
            counted = omega (arith, w.count-is, c.loop-k.invariant.counted, more, size, length-drop from (take to base), length-take-le to base within, order);
            few = omega (arith, w.count-is, c.loop-k.invariant.few, order);
            small = c.span_end-to.ensures.fits;
          }
      | else-is_on_before w ↦
          let same = ap (λ (ts : List ℕ). length ts) (span-off base own k from to start end inside c.requires.rising first (sym c.is_on_before.ensures ∙ w.if-is_on_before.false)) in
          record {
            start = next;
            counted = omega (arith, w.count-is, c.loop-k.invariant.counted, same);
            few = omega (arith, w.count-is, c.loop-k.invariant.few, order);
            small = c.span_end-to.ensures.fits;
          }
    ]

pub returns-clause-is : goal.returns-clause-is
returns-clause-is c =
    let base : List ℕ = base_times c.args.until c.args.events.now c.args.clock in
    let last : c.loop-k.k ≡ length c.args.own.now + 1 = omega (arith, c.loop-k-test.false, c.loop-k.auto.k-end) in
    let all : take c.loop-k.from base ≡ base = last-start base c.args.own.now c.loop-k.k c.loop-k.from last c.loop-k.invariant.start in
    let shown : to_z w64 (of_z w64 c.args.first) ≡ c.args.first = search (rules, to_z-of_z) in
    c.loop-k.invariant.counted ∙ (λ i. length (filter (is_on_by (shown i) c.args.own.now) (all i)))
