use Rattle.std.proofs.Common.{◌≡◌, ℕ, suc, List, [], refl, ◌∷◌, ◌++◌, length, slice_get, sym, ap, ◌∙◌, subst, arith, length-append}
use Rattle.word_rule.specs.FirstSeats.{IsFirstTask}
use Rattle.word_rule.specs.declared.seats.TaskSeat.{TaskSeat}
use Rattle.party_turns.specs.Parties.{IsFresh, IsFreshTask}
use Rattle.party_turns.specs.declared.party.Party.{Party}
use Rattle.party_turns.specs.declared.party.Party.TheVariants.{Task}
use Rattle.party_turns.proofs.Fresh.{all_left, fresh_push, left_next}
use Rattle.party_turns.proofs.begin.push_tasks.Goals as goal

pub task_party-requires : goal.task_party-requires
task_party-requires c =
    let w = c.args.words.now in
    let seat = c.in-Some.seat in
    let next = left_next w (length c.loop-seat.yielded) _ _ _ seat c.in-Some.ensures.steps.0 refl c.loop-seat.invariant.left in
    record { first = subst (λ (n : ℕ). IsFirstTask w n seat) (sym next.0.task) next.0 }

pub loop-seat-preserved : goal.loop-seat-preserved
loop-seat-preserved c =
    let w = c.args.words.now in
    let old = c.loop-seat.invariant in
    let seat = c.in-Some.seat in
    let party = c.in_ok-party.party in
    let pushed = c.in_ok-push.ensures.ok in
    let steps = c.in-Some.ensures.steps.0 in
    let one = length-append c.loop-seat.yielded (seat ∷ []) in
    let next = left_next w (length c.loop-seat.yielded) (length (c.loop-seat.yielded ++ seat ∷ [])) _ _ seat steps (omega (arith, one)) old.left in
    let place : suc (length c.loop-seat.yielded) ≡ length c.loop-seat.parties = omega (arith, old.size) in
    let fresh = subst (λ (n : ℕ). IsFreshTask w n party) next.0.task c.in_ok-party.ensures in
    record {
      size = ap length pushed ∙ length-append c.loop-seat.parties (Task party ∷ []) ∙ omega (arith, one, old.size);
      each = λ k p at. fresh_push w c.loop-seat.parties (Task party) old.each (subst (λ (n : ℕ). IsFresh w n (Task party)) place fresh) k p (ap (λ (l : List Party). slice_get l k) (sym pushed) ∙ at);
      left = next.1;
      all = omega (arith, ap length steps, one, old.all);
    }

pub loop-seat-init : goal.loop-seat-init
loop-seat-init c =
    let w = c.args.words.now in
    let gives = c.into_iter-seat-iterator.ensures.into_iter_gives.0 ∙ c.into_items-seat-items.ensures.value in
    record {
      size = c.requires.releaser.size;
      each = c.requires.releaser.each;
      left = all_left w c.args.seats c.into_iter-seat-iterator.result.rest.items c.requires.seats gives;
      all = omega (arith, ap (λ (l : List TaskSeat). length l) gives, c.requires.seats.size);
    }
