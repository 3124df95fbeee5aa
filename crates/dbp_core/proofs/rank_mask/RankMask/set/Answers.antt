use Rattle.std.proofs.Common.{arith, ap, ◌∙◌, sym, w32}
use Rattle.std.specs.Prelude.{◌==◌}
use Rattle.std.proofs.lemmas.Bool.{eq-eqb, ne_eqb}
use Rattle.std.proofs.lemmas.Nat.Bits.{bit_at_clear_other, bit_at_clear_same, bit_at_set_other, bit_at_set_same}
use Rattle.dbp_core.proofs.rank_mask.RankMask.set.Goals as goal

pub returns-then-is_in-clause-same : goal.returns-then-is_in-clause-same
returns-then-is_in-clause-same c = eq-eqb _ 1 (bit_at_set_same w32 c.args.self.now.bits c.args.rank c.requires) ∙ sym c.if-is_in.true

pub returns-then-is_in-clause-others : goal.returns-then-is_in-clause-others
returns-then-is_in-clause-others c = λ r below other. ap (λ n. n == 1) (bit_at_set_other w32 c.args.self.now.bits c.args.rank c.requires r other)

pub returns-else-is_in-clause-same : goal.returns-else-is_in-clause-same
returns-else-is_in-clause-same c =
    let clear = bit_at_clear_same w32 c.args.self.now.bits c.args.rank c.requires in
    ne_eqb _ 1 (λ is. absurd (omega (arith, is, clear))) ∙ sym c.if-is_in.false

pub returns-else-is_in-clause-others : goal.returns-else-is_in-clause-others
returns-else-is_in-clause-others c = λ r below other. ap (λ n. n == 1) (bit_at_clear_other w32 c.args.self.now.bits c.args.rank c.requires r below other)
