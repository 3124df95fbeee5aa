-- Slots that claims and kept slots leave free.
use Rattle.std.proofs.Common.{◌≡◌, ℕ, ◌+◌, ◌<◌, ◌≤◌, ◌⊎◌, inl, inr, Bool, true, false, Contains, List, ◌++◌, length, length-append, arith}
use Rattle.std.specs.Bool.{Decides}
use Rattle.std.specs.List.{IsAnyAnswer}
use Rattle.std.proofs.Math.Dec.{eqb}
use Rattle.std.proofs.lemmas.Bool.Decides.{Decides-eqb}
use Rattle.std.proofs.lemmas.List.Elements.{contains_decides, Decides-contains, Contains-append_left, Contains-append_right}
use Rattle.std.proofs.lemmas.Map.Made.{is_member-Decides}
use Rattle.std.proofs.lemmas.Map.Steps.{le-length_from_below}

pub listed-Decides : (xs : List ℕ) (x : ℕ) (r : Bool) → IsAnyAnswer (λ y t. eqb y x ≡ t) xs r → Decides r (Contains xs x)
listed-Decides xs x r answer = Decides-contains xs x r (contains_decides eqb Decides-eqb xs x r answer)

pub unlisted : (xs : List ℕ) (x : ℕ) (r : Bool) → IsAnyAnswer (λ y t. eqb y x ≡ t) xs r → r ≡ false → Contains xs x → ⊥
unlisted xs x r answer fails among = let passes : r ≡ true = (listed-Decides xs x r answer).1 among in cc

-- lists that are shorter together than the number of slots leave one free
pub one_free : (claims kept : List ℕ) (slots : ℕ) → length claims + length kept < slots → ((s : ℕ) → s < slots → Contains claims s ⊎ Contains kept s) → ⊥
one_free claims kept slots few all =
    let long : slots ≤ length (claims ++ kept) =
    le-length_from_below (claims ++ kept) slots (λ s below. (is_member-Decides Decides-eqb (claims ++ kept) s).1 (among s (all s below))) in
    omega (arith, length-append claims kept)
  where
    among : (s : ℕ) → Contains claims s ⊎ Contains kept s → Contains (claims ++ kept) s
    among s (inl claimed) = Contains-append_left claims kept s claimed
    among s (inr keeps) = Contains-append_right claims kept s keeps
