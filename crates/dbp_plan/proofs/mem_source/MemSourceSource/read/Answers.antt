use Rattle.std.proofs.Common.{◌≡◌, ℕ, ◌+◌, ◌-◌, ◌≤◌, List, ◌++◌, length, take, drop, ◌∙◌, ap, arith, length-append, length-drop}
use Rattle.std.proofs.lemmas.List.{take_at, take-append-drop, drop-drop, length-take-le}
use Rattle.dbp_plan.proofs.mem_source.MemSourceSource.read.Goals as goal

-- what was copied is a prefix of what was left
served : (bytes buf copied : List ℕ) (at n : ℕ) → at + n ≤ length bytes → copied ≡ take ((at + n) - at) (drop at bytes) → drop at bytes ≡ take n (copied ++ buf) ++ drop (at + n) bytes
served bytes buf copied at n within is_copied =
    let count : (at + n) - at ≡ n = omega arith in
    let front : copied ≡ take n (drop at bytes) = is_copied ∙ ap (λ (k : ℕ). take k (drop at bytes)) count in
    let size : length copied ≡ n = ap length front ∙ length-take-le n (drop at bytes) (omega (arith, length-drop at bytes)) in
    let given : take n (copied ++ buf) ≡ copied = take_at copied buf n size in
    let later : drop n (drop at bytes) ≡ drop (at + n) bytes = drop-drop n at bytes in
    let whole : take n (drop at bytes) ++ drop n (drop at bytes) ≡ drop at bytes = take-append-drop n (drop at bytes) in
    cc

pub returns-clause-bytes : goal.returns-clause-bytes
returns-clause-bytes c =
    let size : c.min-count.result ≤ length (c.copy_from_slice.new.self ++ drop c.min-count.result c.args.buf.now) = omega (arith, length-append c.copy_from_slice.new.self (drop c.min-count.result c.args.buf.now), length-drop c.min-count.result c.args.buf.now) in
    (omega arith, size, served c.args.self.now.bytes.items (drop c.min-count.result c.args.buf.now) c.copy_from_slice.new.self c.args.self.now.at c.min-count.result (omega arith) (rw c.deref-2.ensures.value at c.copy_from_slice.ensures.after))
