-- Where a task's senses stand among its words.
use Rattle.std.proofs.Common.{◌≡◌, ℕ, ℤ, ◌+◌, ◌-◌, ◌<◌, ◌≤◌, List, [], ◌∷◌, ◌++◌, length, take, drop, slice_get, Some, refl, sym, ◌∙◌, ap, arith, append_assoc, length-append, length-drop}
use Rattle.std.specs.Prelude.{slice_set}
use Rattle.std.proofs.lemmas.List.{length-take-le, set-append_right, take-append-drop, drop-drop}
use Rattle.std.proofs.lemmas.Option.{slice_get_within}
use Rattle.dbp_plan.specs.declared.diagram.Task.{Task}
use Rattle.dbp_plan.proofs.ListParts.{take_push}
use Rattle.dbp_rules.specs.Moves.{with_now, with_senses}
use Rattle.dbp_rules.specs.Work.{WorkWords}

-- a word is set after two lists
set_after : (front middle rest : List ℤ) (n : ℕ) (word : ℤ) → n ≡ length front + length middle → 0 < length rest → slice_set (front ++ (middle ++ rest)) n word ≡ front ++ ((middle ++ word ∷ []) ++ drop 1 rest)
set_after front middle [] n word place some = absurd (omega arith)
set_after front middle (x ∷ rest) n word place some =
    let first : n - length front ≡ length middle = omega arith in
    let second : length middle - length middle ≡ 0 = omega arith in
    set-append_right front (middle ++ x ∷ rest) (length front) n word refl (omega arith)
    ∙ ap (λ k. front ++ slice_set (middle ++ x ∷ rest) k word) first
    ∙ ap (λ xs. front ++ xs) (set-append_right middle (x ∷ rest) (length middle) (length middle) word refl (omega arith)
    ∙ ap (λ k. middle ++ slice_set (x ∷ rest) k word) second
    ∙ sym (append_assoc middle (word ∷ []) rest))

-- one sense more has its value
pub sense_more : (task : Task) (w : WorkWords) (values : List ℤ) (k : ℕ) (word : ℤ) → slice_get values k ≡ Some word → length task.states + length values ≤ length w.now
    → with_now (with_senses task (take k values) w) (length task.states + k) word ≡ with_senses task (take (k + 1) values) w
sense_more task w values k word at room =
    let below : k < length values = slice_get_within values k word at in
    let states : length (take (length task.states) w.now) ≡ length task.states = length-take-le (length task.states) w.now (omega arith) in
    let size : length (take k values) ≡ k = length-take-le k values (omega arith) in
    let more : length (take (k + 1) values) ≡ k + 1 = length-take-le (k + 1) values (omega arith) in
    let left : 0 < length (drop (length task.states + length (take k values)) w.now) = omega (arith, size, length-drop (length task.states + length (take k values)) w.now) in
    let set : slice_set (with_senses task (take k values) w).now (length task.states + k) word ≡ take (length task.states) w.now ++ ((take k values ++ word ∷ []) ++ drop 1 (drop (length task.states + length (take k values)) w.now)) =
    set_after (take (length task.states) w.now) (take k values) (drop (length task.states + length (take k values)) w.now) (length task.states + k) word (omega (arith, states, size)) left in
    let rest : drop 1 (drop (length task.states + length (take k values)) w.now) ≡ drop (length task.states + length (take (k + 1) values)) w.now =
    drop-drop 1 (length task.states + length (take k values)) w.now ∙ ap (λ n. drop n w.now) (omega (arith, size, more)) in
    let front : take k values ++ word ∷ [] ≡ take (k + 1) values = sym (take_push values k word at) in
    let all : slice_set (with_senses task (take k values) w).now (length task.states + k) word ≡ (with_senses task (take (k + 1) values) w).now =
    set ∙ ap (λ (xs : List ℤ). take (length task.states) w.now ++ (xs ++ drop 1 (drop (length task.states + length (take k values)) w.now))) front
    ∙ ap (λ (xs : List ℤ). take (length task.states) w.now ++ (take (k + 1) values ++ xs)) rest in
    λ i. record { now = all i; later = w.later; row = w.row }

pub sense_none : (task : Task) (w : WorkWords) (values : List ℤ) → length task.states ≤ length w.now → w ≡ with_senses task (take 0 values) w
sense_none task w values room =
    let zero_more : length task.states + 0 ≡ length task.states = omega arith in
    let whole : w.now ≡ take (length task.states) w.now ++ drop (length task.states + 0) w.now = sym (take-append-drop (length task.states) w.now) ∙ ap (λ n. take (length task.states) w.now ++ drop n w.now) (sym zero_more) in
    λ i. record { now = whole i; later = w.later; row = w.row }

pub length-sense : (task : Task) (w : WorkWords) (values : List ℤ) → length task.states + length values ≤ length w.now → length (with_senses task values w).now ≡ length w.now
length-sense task w values room =
    omega (arith, length-append (take (length task.states) w.now) (values ++ drop (length task.states + length values) w.now), length-append values (drop (length task.states + length values) w.now), length-take-le (length task.states) w.now (omega arith), length-drop (length task.states + length values) w.now)
