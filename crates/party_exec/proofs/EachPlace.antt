-- What holds at each place of a list, place by place.
use Rattle.std.proofs.Common.{◌≡◌, ℕ, ◌+◌, ◌<◌, List, length, get_or, ◌∙◌, ap, subst, arith}
use Rattle.std.proofs.lemmas.List.{get_or_default}
use mathlib.Core.Logic.{dite}
use native.Mathlib.Decide.{dec_lt}

-- one place more
pub next_place : {X : Type 0} (P : X → Type 0) (xs : List X) (n : ℕ) (x : X) → n < length xs → x ≡ get_or xs n x → P x → ((k : ℕ) (d : X) → k < n → P (get_or xs k d))
    → (k : ℕ) (d : X) → k < n + 1 → P (get_or xs k d)
next_place P xs n x inside read holds before k d few = dite (dec_lt k n)
    (λ lt. before k d lt)
    (λ ge. let same : n ≡ k = omega (arith, few) in subst P (read ∙ get_or_default xs n x d inside ∙ ap (λ (j : ℕ). get_or xs j d) same) holds)
