use Rattle.std.proofs.Common.{arith, rules, ◌≡◌, ◌+◌, ℕ, ℤ, length, map, take, slice_get, Some, ap, sym, ◌∙◌, w64}
use Rattle.std.proofs.lemmas.Int.{to_z-of_z}
use Rattle.std.proofs.lemmas.List.{length-map}
use Rattle.std.proofs.lemmas.Option.{slice_get-map}
use Rattle.dbp_plan.specs.declared.diagram.Sense.{Sense}
use Rattle.dbp_plan.specs.ListItems.{read_place}
use Rattle.dbp_plan.specs.Samples.{input_value}
use Rattle.dbp_rules.specs.Lookups.{time}
use Rattle.dbp_rules.specs.Moves.{with_now, with_senses}
use Rattle.dbp_rules.specs.Work.{WorkWords}
use Rattle.dbp_rules.proofs.SensePlaces.{sense_more}
use Rattle.dbp_rules.proofs.work.Work.sense.Goals as goal
use mir.Val.{to_z, of_z}

pub loop-sense-preserved : goal.loop-sense-preserved
loop-sense-preserved c =
    let value : Sense → ℤ = λ x. input_value c.args.plan.now.diagram.inputs c.args.plan.now.samples x.input (time c.args.wired.now (c.args.ended + 1)) in
    let sense : slice_get c.args.task.now.senses c.loop-sense.sense-index ≡ Some c.sense-item.result =
    read_place c.args.task.now.senses c.loop-sense.sense-index c.sense-item.result (rw c.items-sense-items.ensures.value at c.loop-sense-test.true) (rw c.items-sense-items.ensures.value at c.sense-item.is) in
    let given : c.input_at.result ≡ value c.sense-item.result = c.input_at.ensures ∙ ap (λ (t : ℕ). input_value c.args.plan.now.diagram.inputs c.args.plan.now.samples c.sense-item.result.input t) c.next_time-time.ensures in
    let here : slice_get (map value c.args.task.now.senses) c.loop-sense.sense-index ≡ Some c.input_at.result = slice_get-map value c.args.task.now.senses c.loop-sense.sense-index ∙ rw sense (ap (λ (v : ℤ). Some v) (sym given)) in
    let shown : to_z w64 (of_z w64 c.input_at.result) ≡ c.input_at.result = search (rules, to_z-of_z) in
    let size : length (map value c.args.task.now.senses) ≡ length c.args.task.now.senses = length-map c.args.task.now.senses value in
    record {
      place = omega (arith, c.loop-sense.invariant.place);
      work =
          rw shown at c.set.ensures
          ∙ ap (λ (w : WorkWords). with_now w c.loop-sense.place c.input_at.result) c.loop-sense.invariant.work
          ∙ ap (λ (n : ℕ). with_now (with_senses c.args.task.now (take c.loop-sense.sense-index (map value c.args.task.now.senses)) c.args.self.now) n c.input_at.result) c.loop-sense.invariant.place
          ∙ sense_more c.args.task.now c.args.self.now (map value c.args.task.now.senses) c.loop-sense.sense-index c.input_at.result here (omega (arith, size, c.requires.room));
    }
