-- Lists of lines without a fault.
use Rattle.std.proofs.Common.{◌≡◌, ℕ, zero, suc, List, [], ◌∷◌, ◌++◌, map, take, slice_get, Option, Some, None, refl, sym, subst}
use Rattle.std.specs.Option.{option_and_then}
use Rattle.std.proofs.lemmas.List.{append-nil, append_assoc}
use Rattle.std.proofs.lemmas.Option.{none-some, same_Some}
use Rattle.dbp_plan.specs.FirstFault.{first_fault}

-- no item has a fault after those before it
abbrev pub AreFine : {A F : Type 0} → (List A → A → Option F) → List A → List A → Type 0
AreFine fault before [] = Unit {0}
AreFine fault before (x ∷ xs) = (fault before x ≡ None) × AreFine fault (before ++ x ∷ []) xs

pub fine-at : {A F : Type 0} (fault : List A → A → Option F) (before xs : List A) → AreFine fault before xs → (i : ℕ) (x : A) → slice_get xs i ≡ Some x → fault (before ++ take i xs) x ≡ None
fine-at fault before [] fine i x at = absurd (none-some x at)
fine-at fault before (y ∷ xs) fine zero x at =
    subst (λ z. fault (before ++ []) z ≡ None) (same_Some y x at) (subst (λ front. fault front y ≡ None) (sym (append-nil before)) fine.0)
fine-at fault before (y ∷ xs) fine (suc i) x at =
    subst (λ front. fault front x ≡ None) (append_assoc before (y ∷ []) (take i xs)) (fine-at fault (before ++ y ∷ []) xs fine.1 i x at)

pub map-fine : {A F : Type 0} (line : A → ℕ) (fault : A → Option F) (xs : List A) → ((x : A) → fault x ≡ None) → first_fault (map (λ x. (line x, fault x)) xs) ≡ None
map-fine line fault [] each = refl
map-fine line fault (x ∷ xs) each = rw (each x) (map-fine line fault xs each)

pub then-fine : {A F : Type 0} (fault : A → Option F) (o : Option A) → ((x : A) → o ≡ Some x → fault x ≡ None) → option_and_then fault o ≡ None
then-fine fault None each = refl
then-fine fault (Some x) each = each x refl
