use Rattle.std.proofs.Common.{◌≡◌, ◌≤◌, ◌++◌, ℕ, List, arith, drop, length, ap, ◌∙◌}
use Rattle.std.proofs.lemmas.List.{drop-append-le, length-append, length-drop}
use Rattle.trace_io.proofs.printed.write_number.Goals as goal

pub returns-clause-written : goal.returns-clause-written
returns-clause-written g c whole =
    let rest : List ℕ = drop 40 c.args.room.now in
    let all : length (c.write.new.buf ++ rest) ≡ 64 = whole in
    let long : length c.write.new.buf ≡ 40 = omega (arith, all, length-append c.write.new.buf rest, length-drop 40 c.args.room.now, c.told-room) in
    let fits : c.write.result ≤ length c.write.new.buf = omega (arith, c.write.ensures.within, long) in
    drop-append-le c.write.result c.write.new.buf rest fits ∙ ap (λ (l : List ℕ). l ++ rest) c.write.ensures.written
