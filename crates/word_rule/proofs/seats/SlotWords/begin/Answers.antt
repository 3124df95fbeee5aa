use Rattle.std.proofs.Common.{sym, ap, ◌∙◌, subst}
use Rattle.dbp_rules.specs.Start.{start_releaser}
use Rattle.word_rule.specs.Showing.{HasFirstNumbers}
use Rattle.word_rule.proofs.Begins.{begins, first_seat}
use Rattle.word_rule.proofs.seats.SlotWords.begin.Goals as goal

pub of_words-requires : goal.of_words-requires
of_words-requires c = begins c.args.plan c.as_slice.result.now c.first_values_have_64_bits.ensures (subst (HasFirstNumbers c.args.plan) (sym c.as_slice.ensures.value) c.in_ok-start.ensures)

pub invariant_of-seat : goal.invariant_of-seat
invariant_of-seat c = record {
  same = first_seat c.args.plan c.in_ok-table.seat.me c.in_ok-part.part c.in_ok-table.ensures.4
      (c.in_ok-part.ensures ∙ ap start_releaser c.in_ok-wiring.ensures.wiring);
}
