use Rattle.std.proofs.Common.{◌+◌, length, ap, sym, ◌∙◌, arith, ◌==◌, List, ℕ}
use Rattle.std.proofs.Math.Nat.{mul-le-mul_left}
use Rattle.std.proofs.lemmas.List.Quantifiers.{position-Some}
use Rattle.slot_need.proofs.Readers.{few-readers}
use Rattle.slot_need.proofs.firings.firing_of_task.Goals as goal

pub overflow_cast-result : goal.overflow_cast-result
overflow_cast-result c =
    omega (
      arith,
      (position-Some (λ r. r == c.args.other) c.args.readers.now c.in-Some.place 0 (sym c.place_of.ensures ∙ c.in-Some.is)).0,
      few-readers c.args.diagram.now c.args.task c.requires.ranked.closed,
      ap (λ (xs : List ℕ). length xs) c.requires.readers,
    )

pub overflow_add-result : goal.overflow_add-result
overflow_add-result c =
    omega (
      arith,
      (position-Some (λ r. r == c.args.other) c.args.readers.now c.in-Some.place 0 (sym c.place_of.ensures ∙ c.in-Some.is)).0,
      few-readers c.args.diagram.now c.args.task c.requires.ranked.closed,
      ap (λ (xs : List ℕ). length xs) c.requires.readers,
    )

pub overflow_mul-result : goal.overflow_mul-result
overflow_mul-result c =
    omega (
      arith,
      mul-le-mul_left (c.in-Some.place + 1) c.group_size.ensures.few,
      (position-Some (λ r. r == c.args.other) c.args.readers.now c.in-Some.place 0 (sym c.place_of.ensures ∙ c.in-Some.is)).0,
      few-readers c.args.diagram.now c.args.task c.requires.ranked.closed,
      ap (λ (xs : List ℕ). length xs) c.requires.readers,
    )
