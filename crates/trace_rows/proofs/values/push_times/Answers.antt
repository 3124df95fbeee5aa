use Rattle.std.proofs.Common.{◌≡◌, ◌<◌, ℕ, List, [], ◌∷◌, ◌++◌, length, get_or, set, sym, ap, ◌∙◌, arith}
use Rattle.trace_rows.specs.Columns.{nothing}
use Rattle.trace_rows.specs.declared.cell.CellContent.{CellContent}
use Rattle.trace_rows.proofs.EventTimes.{bare-event, event-still, marked-event}
use Rattle.trace_rows.proofs.values.push_times.Goals as goal
use Rattle.trace_rows.proofs.values.push_times.Goals.{then-content_at+in_ok-push, else-content_at}

pub push-requires : goal.push-requires
push-requires c =
    let k = c.loop-event.event in
    let below : k < length c.args.columns.now = omega arith in
    let inside : k < length c.args.events.now = omega (arith, below, c.requires.columns) in
    let now : List ℕ = get_or c.loop-event.events k c.index-events-event.result in
    let is : now ≡ get_or c.args.events.now k c.index-events-event.result =
    ap (λ (es : List (List ℕ)). get_or es k c.index-events-event.result) c.loop-event.invariant ∙ event-still c.args.time c.args.columns.now c.args.said.now c.args.events.now k below c.index-events-event.result in
    omega (arith, c.requires.few k c.index-events-event.result inside, ap (λ (ts : List ℕ). length ts) is)

pub loop-event-preserved : goal.loop-event-preserved
loop-event-preserved c =
    let time = c.args.time in
    let columns = c.args.columns.now in
    let said = c.args.said.now in
    let events = c.args.events.now in
    let k = c.loop-event.event in
    let below : k < length columns = omega arith in
    let one : c.content_at.result.is_one ≡ (get_or said (get_or columns k 0) nothing).is_one = ap (λ (s : CellContent). s.is_one) c.content_at.ensures in
    elim c.if-content_at.branch [
      | then-content_at+in_ok-push w ↦
          let d = w.index-events-event.result in
          w.events-is ∙ ap (λ (ts : List ℕ). set c.loop-event.events k ts) w.in_ok-push.ensures.ok
          ∙ (λ j. set (c.loop-event.invariant j) k (get_or (c.loop-event.invariant j) k d ++ time ∷ []))
          ∙ marked-event time columns said events k below d c.requires.columns (sym one ∙ w.if-content_at.true)
      | else-content_at w ↦ w.events-is ∙ c.loop-event.invariant ∙ bare-event time columns said events k below (sym one ∙ w.if-content_at.false)
    ]
