use Rattle.std.proofs.Common.{rules, ◌≡◌, ◌+◌, ◌-◌, ◌≤◌, ◌++◌, ℕ, List, arith, drop, length, take, ap, ◌∙◌}
use Rattle.trace_io.proofs.Pieces.{cut-piece}
use Rattle.trace_io.proofs.printed.push_piece.Goals as goal

pub returns : goal.returns
returns c =
    let n : ℕ = c.args.end - c.args.start in
    let bytes : List ℕ = drop c.args.start c.args.room.now in
    let fits : n ≤ 24 = omega (arith, c.requires.end.1) in
    let len : c.len.result ≡ length c.args.text.now.items = search rules in
    let whole : c.args.start + 24 - c.args.start ≡ 24 = omega arith in
    let added : c.extend_from_slice.new.self.items ≡ c.args.text.now.items ++ take 24 bytes =
    c.in_ok-extend_from_slice.ensures.items ∙ ap (λ (k : ℕ). c.args.text.now.items ++ take k bytes) whole in
    c.truncate.ensures.items ∙ ap (λ (k : ℕ). take (k + n) c.extend_from_slice.new.self.items) len
    ∙ ap (λ (l : List ℕ). take (length c.args.text.now.items + n) l) added ∙ cut-piece c.args.text.now.items bytes n fits
