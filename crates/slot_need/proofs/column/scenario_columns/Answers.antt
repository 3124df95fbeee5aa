use Rattle.std.proofs.Common.{◌≡◌, ◌<◌, ◌++◌, ◌∷◌, [], List, length, map, true, false, ap, sym, ◌∙◌, arith, length-append}
use Rattle.std.specs.Prelude.{filter}
use Rattle.std.specs.List.{range_with_len}
use Rattle.std.proofs.lemmas.List.Elements.{All-push}
use Rattle.slot_need.specs.declared.column.Column.{Column}
use Rattle.slot_need.specs.Scenarios.{column_of, firing_of_event, is_ever}
use Rattle.slot_need.proofs.Columns.{column_with}
use Rattle.slot_need.proofs.Ranges.{column-dropped, column-kept}
use Rattle.slot_need.proofs.column.scenario_columns.Goals.{then-is_ever, else-is_ever}
use Rattle.slot_need.proofs.column.scenario_columns.Goals as goal

pub loop-event-preserved : goal.loop-event-preserved
loop-event-preserved c =
    let d = c.args.diagram.now in
    let w = c.args.task in
    let n = c.loop-event.event in
    let before = c.loop-event.invariant in
    let within : n < length d.events = omega (arith, c.loop-event-test.true, c.len-event-end.ensures) in
    let one : Column = record { event = n; firing = c.firing_of_event-firing.result } in
    let is : column_of d w n ≡ one = ap (column_with n) (sym c.firing_of_event-firing.ensures) in
    elim c.if-is_ever.branch [
      | then-is_ever s ↦
          let passes : is_ever (firing_of_event d w n) ≡ true = ap is_ever (sym c.firing_of_event-firing.ensures) ∙ sym c.is_ever.ensures ∙ s.if-is_ever.true in
          rw (s.columns-is, s.push.ensures.items) record {
            columns = ap (λ (xs : List Column). xs ++ one ∷ []) before.columns ∙ ap (λ (x : Column). filter (λ (c : Column). is_ever c.firing) (map (column_of d w) (range_with_len 0 n)) ++ x ∷ []) (sym is) ∙ sym (column-kept (column_of d w) (λ (c : Column). is_ever c.firing) n passes);
            few = omega (arith, before.few, length-append c.loop-event.columns.items (one ∷ []));
            named = All-push (λ (c : Column). c.event < length d.events) c.loop-event.columns.items one before.named within;
          }
      | else-is_ever s ↦
          let fails : is_ever (firing_of_event d w n) ≡ false = ap is_ever (sym c.firing_of_event-firing.ensures) ∙ sym c.is_ever.ensures ∙ s.if-is_ever.false in
          rw s.columns-is record {
            columns = before.columns ∙ sym (column-dropped (column_of d w) (λ (c : Column). is_ever c.firing) n fails);
            few = omega (arith, before.few);
            named = before.named;
          }
    ]
