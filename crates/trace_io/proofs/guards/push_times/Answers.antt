use Rattle.std.proofs.Common.{◌≡◌, ◌<◌, ◌++◌, ◌∷◌, [], List, ℕ, drop, length, take, Some, sym, ap, ◌∙◌, arith, append_assoc}
use Rattle.std.proofs.lemmas.List.{length_push}
use Rattle.dbp_plan.specs.Clocks.{base_times}
use Rattle.dbp_plan.specs.ListItems.{at_place}
use Rattle.trace_io.proofs.Counting.{base-place}
use Rattle.trace_io.proofs.Merges.{in-range}
use Rattle.trace_io.proofs.Spans.{span-push}
use Rattle.trace_io.proofs.guards.push_times.Goals as goal
use Rattle.trace_io.proofs.guards.push_times.Goals.{in-Some+in_ok-push, in_default}
use Rattle.std.proofs.lemmas.Option.{same_Some}

pub loop-number-preserved : goal.loop-number-preserved
loop-number-preserved c =
    let base : List ℕ = base_times c.args.until c.args.events.now c.args.clock in
    let n = c.loop-number.number in
    let inside : n < length base = omega (arith, c.requires.inside.1, c.loop-number-test.true) in
    let found = at_place base n inside in
    let is : c.nth_time.result ≡ Some found.0 = c.nth_time.ensures ∙ sym (base-place c.args.until c.args.events.now c.args.clock n (in-range (length c.args.events.now) c.args.clock c.requires.clock)) ∙ found.1 in
    elim c.match-nth_time.branch [
      | in-Some+in_ok-push w ↦
          let same : found.0 ≡ w.in-Some.time = same_Some found.0 w.in-Some.time (sym is ∙ w.in-Some.is) in
          let more = span-push base c.args.from n found.0 (omega (arith, c.loop-number.auto.number)) found.1 in
          rw (w.times-is, w.in_ok-push.ensures.ok) (record {
            made = ap (λ (ts : List ℕ). ts ++ w.in-Some.time ∷ []) c.loop-number.invariant.made ∙ append_assoc c.args.times.now (drop c.args.from (take n base)) (w.in-Some.time ∷ [])
                ∙ ap (λ (t : ℕ). c.args.times.now ++ (drop c.args.from (take n base) ++ t ∷ [])) (sym same) ∙ ap (λ (ts : List ℕ). c.args.times.now ++ ts) (sym more);
            few = omega (arith, length_push c.loop-number.times w.in-Some.time, c.loop-number.invariant.few);
          })
      | in_default w ↦ absurd (w.in_default.not-Some found.0 is)
    ]
