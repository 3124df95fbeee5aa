use Rattle.std.proofs.Common.{◌≡◌, ◌+◌, ◌<◌, arith, get_or, length, set, true, false, sym, ap, ◌∙◌}
use Rattle.std.specs.Prelude.{unwrap_or}
use Rattle.std.proofs.lemmas.List.{length_push, get_or_default, get_or-set_same}
use Rattle.dbp_plan.specs.declared.diagram.Clock.{Clock}
use Rattle.dbp_plan.specs.declared.diagram.Clock.TheVariants.{Every}
use Rattle.dbp_plan.specs.Clocks.{time_at}
use Rattle.trace_io.specs.Merging.{is_at, next_of}
use Rattle.trace_io.proofs.Due.{at-next, least-more, least-set, take-one, pass-one, next-one, not-at-next}
use Rattle.trace_io.proofs.batches.take_due.Goals as goal
use Rattle.trace_io.proofs.batches.take_due.Goals.{then-next-i+in_ok-push, else-next-i}

pub loop-i-preserved : goal.loop-i-preserved
loop-i-preserved c =
    let inv = c.loop-i.invariant in
    let i = c.loop-i.i in
    let within : i < length c.args.clocks.now = omega arith in
    let same : get_or c.loop-i.taken i 0 ≡ get_or c.args.taken.now i 0 = inv.so_far.kept i (omega arith) in
    let next : (d : Clock) → get_or c.loop-i.next i 0 ≡ unwrap_or (next_of c.args.until c.args.events.now c.args.clocks.now c.args.taken.now i d) c.args.until = λ d.
    inv.now.1 i d within ∙ ap (λ n. unwrap_or (time_at c.args.until c.args.events.now (get_or c.args.clocks.now i d) n) c.args.until) same in
    elim c.if-next-i.branch [
      | then-next-i+in_ok-push w ↦
          let here : (d : Clock) → is_at c.args.time (next_of c.args.until c.args.events.now c.args.clocks.now c.args.taken.now i d) ≡ true = λ d.
          at-next c.args.until c.args.time (next_of c.args.until c.args.events.now c.args.clocks.now c.args.taken.now i d) c.requires.time (sym (next d) ∙ w.if-next-i.true) in
          let step = take-one c.args.until c.args.events.now c.args.clocks.now c.args.taken.now c.loop-i.taken c.args.time i c.loop-i.tasks (omega arith) inv.so_far here in
          let found : (d : Clock) → w.nth_time.result ≡ time_at c.args.until c.args.events.now (get_or c.args.clocks.now i d) (get_or c.loop-i.taken i 0 + 1) = λ d.
          w.nth_time.ensures
          ∙ ap (λ n. time_at c.args.until c.args.events.now (get_or c.args.clocks.now i (Every 0 0)) n) (get_or-set_same c.loop-i.taken i (get_or c.loop-i.taken i 0 + 1) 0 (omega (arith, inv.so_far.places)))
          ∙ ap (λ cl. time_at c.args.until c.args.events.now cl (get_or c.loop-i.taken i 0 + 1)) (sym (get_or_default c.args.clocks.now i d (Every 0 0) within)) in
          let kept : (d : Clock) → w.unwrap_or.result ≡ unwrap_or (time_at c.args.until c.args.events.now (get_or c.args.clocks.now i d) (get_or c.loop-i.taken i 0 + 1)) c.args.until = λ d.
          w.unwrap_or.ensures ∙ ap (λ o. unwrap_or o c.args.until) (found d) in
          let now = next-one c.args.until c.args.events.now c.args.clocks.now c.loop-i.taken c.loop-i.next i w.unwrap_or.result (omega (arith, inv.so_far.places)) (omega (arith, inv.now.0)) inv.now kept in
          let least = least-more c.args.until (set c.loop-i.next i w.unwrap_or.result) i c.loop-i.least (least-set c.args.until c.loop-i.next i w.unwrap_or.result c.loop-i.least inv.least) in
          rw (c.min-least.ensures, w.taken-is, w.next-is, w.tasks-is, w.in_ok-push.ensures.ok) (record { so_far = step; few = omega (arith, length_push c.loop-i.tasks i, inv.few); now = now; least = least })
      | else-next-i w ↦
          let here : (d : Clock) → is_at c.args.time (next_of c.args.until c.args.events.now c.args.clocks.now c.args.taken.now i d) ≡ false = λ d.
          not-at-next c.args.until c.args.time (next_of c.args.until c.args.events.now c.args.clocks.now c.args.taken.now i d) (λ same. w.if-next-i.false (next d ∙ same)) in
          let step = pass-one c.args.until c.args.events.now c.args.clocks.now c.args.taken.now c.loop-i.taken c.args.time i c.loop-i.tasks inv.so_far here in
          rw (c.min-least.ensures, w.taken-is, w.next-is, w.tasks-is) (record { so_far = step; few = omega (arith, inv.few); now = inv.now; least = least-more c.args.until c.loop-i.next i c.loop-i.least inv.least })
    ]
