use Rattle.std.proofs.Common.{length, refl, arith}
use Rattle.std.proofs.lemmas.Option.{slice_get_read}
use Rattle.run_tests.proofs.word.sharing.share.Goals as goal

pub make_all-requires-clause-a : goal.make_all-requires-clause-a
make_all-requires-clause-a g c =
    let seats = c.args.seats.now in
    let a = c.result-item.result in
    (c.requires.tasks.each 0 a (slice_get_read seats (length seats) 0 a refl (omega arith) c.result-item.is)).here

pub make_all-requires-clause-b : goal.make_all-requires-clause-b
make_all-requires-clause-b g c =
    let seats = c.args.seats.now in
    let b = c.result-item-then-seats-lt3.result in
    (c.requires.tasks.each 1 b (slice_get_read seats (length seats) 1 b refl (omega arith) c.result-item-then-seats-lt3.is)).here
