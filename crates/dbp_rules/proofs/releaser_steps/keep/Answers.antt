use Rattle.std.proofs.Common.{rules, ◌<◌, length}
use Rattle.dbp_rules.proofs.Keeping.{kept_slots}
use Rattle.dbp_rules.proofs.releaser_steps.keep.Goals as goal

pub returns-then-not-is_empty : goal.returns-then-not-is_empty
returns-then-not-is_empty c =
    let some : 0 < length c.args.kept.now = search rules in
    kept_slots c.args.kept.now c.rotate_right.new.self c.args.slot some (rw c.items_mut-kept.ensures.value at c.rotate_right.ensures.after) (rw c.items_mut-kept.ensures.value at c.rotate_right.ensures.len)
