use Rattle.std.proofs.Common.{◌≡◌, ◌≢◌, false, length, sym, ap, ◌∙◌}
use Rattle.std.specs.Prelude.{is_some}
use Rattle.std.specs.List.{list_any}
use Rattle.dbp_plan.specs.declared.diagram.Task.{Task}
use Rattle.trace_io.proofs.OwnSamples.{no-guards, none-rise, one-rise, one-samples, own-rise, own-samples, several}
use Rattle.trace_io.proofs.trace.own_samples.Goals as goal
use Rattle.trace_io.proofs.trace.own_samples.Goals.{then-has_guard+in_ok-own, else-has_guard}

pub returns-then-len-eq1-clause-own : goal.returns-then-len-eq1-clause-own
returns-then-len-eq1-clause-own c =
    one-samples c.args.diagram.now c.requires.ranked.closed c.args.samples.now (sym c.len.ensures ∙ c.if-len-eq1.true) c.requires.named c.new-own.result

pub returns-then-len-eq1-clause-rising : goal.returns-then-len-eq1-clause-rising
returns-then-len-eq1-clause-rising c =
    one-rise c.args.diagram.now c.requires.ranked.closed c.args.samples.now (sym c.len.ensures ∙ c.if-len-eq1.true) c.requires.named c.new-own.result c.requires.order

pub returns-clause-own : goal.returns-clause-own
returns-clause-own c =
    let d = c.args.diagram.now in
    let more : length d.inputs ≢ 1 = λ one. c.if-len-eq1.false (c.len.ensures ∙ one) in
    rw (several (length d.inputs) c.args.samples.now c.if-has_guard.own more) (elim c.if-has_guard.branch [
      | then-has_guard+in_ok-own w ↦ rw (w.own-is, w.in_ok-own.ensures, w.len-then-has_guard.ensures) (own-samples d c.requires.ranked.closed c.args.samples.now)
      | else-has_guard w ↦
          let none : list_any (λ (t : Task). is_some t.when) d.tasks ≡ false = ap (list_any (λ (t : Task). is_some t.when)) (sym c.items.ensures.value) ∙ sym c.has_guard.ensures ∙ w.if-has_guard.false in
          rw (w.own-is, c.new-own.ensures) (no-guards d.tasks c.args.samples.now none)
    ])

pub returns-clause-rising : goal.returns-clause-rising
returns-clause-rising c =
    let d = c.args.diagram.now in
    let more : length d.inputs ≢ 1 = λ one. c.if-len-eq1.false (c.len.ensures ∙ one) in
    rw (several (length d.inputs) c.args.samples.now c.if-has_guard.own more) (elim c.if-has_guard.branch [
      | then-has_guard+in_ok-own w ↦ rw (w.own-is, w.in_ok-own.ensures, w.len-then-has_guard.ensures) (own-rise d c.requires.ranked.closed c.args.samples.now c.requires.order)
      | else-has_guard w ↦ rw (w.own-is, c.new-own.ensures) none-rise
    ])
