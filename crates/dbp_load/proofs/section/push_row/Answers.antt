use Rattle.std.proofs.Common.{ap, arith, length}
use Rattle.std.proofs.lemmas.List.{length_push}
use Rattle.dbp_load.proofs.section.push_row.Goals as goal

pub push-requires : goal.push-requires
push-requires c = omega (arith, c.in_ok-push_number.ensures.short, c.requires.room)

pub push_number-requires-2 : goal.push_number-requires-2
push_number-requires-2 c = omega (arith, c.in_ok-push_number.ensures.short, c.requires.room, ap length c.in_ok-push.ensures.ok, length_push c.push_number.new.text 44)

pub push-requires-2 : goal.push-requires-2
push-requires-2 c =
    omega (arith, c.in_ok-push_number.ensures.short, c.in_ok-push_number-2.ensures.short, c.requires.room, ap length c.in_ok-push.ensures.ok, length_push c.push_number.new.text 44)

pub returns-clause-short : goal.returns-clause-short
returns-clause-short c =
    omega (
      arith,
      c.in_ok-push_number.ensures.short,
      c.in_ok-push_number-2.ensures.short,
      ap length c.in_ok-push.ensures.ok,
      length_push c.push_number.new.text 44,
      ap length c.in_ok-push-2.ensures.ok,
      length_push c.push_number-2.new.text 10,
    )
