use Rattle.std.proofs.Common.{◌≡◌, ⊎_elim, ℕ, List, [], ◌∷◌, ◌++◌, length, slice_get, Some, sym, ap, ◌∙◌, subst, arith, length-append}
use Rattle.word_rule.specs.FirstSeats.{IsFirstTask}
use Rattle.word_rule.specs.declared.seats.TaskSeat.{TaskSeat}
use Rattle.word_rule.proofs.Begins.{get_push}
use Rattle.word_rule.proofs.seats.SlotWords.split_seats.Goals as goal

pub loop-task-preserved : goal.loop-task-preserved
loop-task-preserved c =
    let old = c.loop-task.invariant in
    let split = c.split_seat-next.ensures in
    let item = c.split_seat-next.result in
    let pushed : c.push.new.self ≡ c.loop-task.seats ++ item ∷ [] = c.in_ok-push.ensures.ok in
    record {
      size = ap (λ (l : List TaskSeat). length l) pushed ∙ length-append c.loop-task.seats (item ∷ []) ∙ omega (arith, old.size);
      each = λ i s at. ⊎_elim
          (λ (was : slice_get c.loop-task.seats i ≡ Some s). old.each i s was)
          (λ (last : (i ≡ length c.loop-task.seats) × (item ≡ s)). subst (λ (y : ℕ × TaskSeat). IsFirstTask c.args.self.now y.0 y.1) (λ j. (sym (last.0 ∙ old.size) j, last.1 j)) split.first)
          (get_push c.loop-task.seats item s i (ap (λ (l : List TaskSeat). slice_get l i) (sym pushed) ∙ at));
      releaser = record {
        here = (split.same.table ∙ old.releaser.here.0, split.same.plan ∙ old.releaser.here.1);
        steps = split.same.steps ∙ old.releaser.steps;
        part = split.same.part ∙ old.releaser.part;
      };
      next = split.one;
    }
