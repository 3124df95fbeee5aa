use Rattle.std.proofs.Common.{false, replicate, arith, refl}
use Rattle.dbp_slots.proofs.Marks.{first_is_free}
use Rattle.dbp_slots.proofs.free.free_slot.Goals as goal

pub returns : goal.returns
returns c =
    let claims = c.args.claims.now in
    let kept = c.args.kept.now in
    rw c.first_unmarked.ensures.value
    (first_is_free claims kept 256 (replicate 256 false) c.mark.new.marks c.mark-2.new.marks refl c.mark.ensures c.mark-2.ensures c.args.slots c.requires (omega arith))
