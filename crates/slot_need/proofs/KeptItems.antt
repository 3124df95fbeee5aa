-- Items that a filter keeps, and pairs of items.
use Rattle.std.proofs.Common.{◌≡◌, ℕ, zero, suc, ◌<◌, ◌≤◌, Bool, true, List, [], ◌∷◌, slice_get, Some, sym, ap, ◌∙◌, inl, inr, arith}
use Rattle.std.specs.Prelude.{AllPairs, filter, max}
use Rattle.std.specs.List.{fold}
use Rattle.std.proofs.lemmas.Bool.{cases_Bool}
use Rattle.std.proofs.lemmas.Option.{none-some, same_Some, slice_get-get_or}
use Rattle.dbp_plan.specs.declared.diagram.Link.{Link}

-- an item that passes is kept
pub stays : {A : Type 0} (p : A → Bool) (xs : List A) (k : ℕ) (x : A) → slice_get xs k ≡ Some x → p x ≡ true → (j : ℕ) × (slice_get (filter p xs) j ≡ Some x)
stays p [] k x at passes = absurd (none-some x at)
stays p (y ∷ ys) zero x at passes = let here : p y ≡ true = ap p (same_Some y x at) ∙ passes in (0, rw here at)
stays p (y ∷ ys) (suc k) x at passes =
    let (j, there) = stays p ys k x at passes in
    elim (cases_Bool (p y)) [ inl is ↦ (suc j, rw is there) | inr isnt ↦ (j, rw isnt there) ]

-- one that is kept was there, and passes
pub stood : {A : Type 0} (p : A → Bool) (xs : List A) (j : ℕ) (x : A) → slice_get (filter p xs) j ≡ Some x → (k : ℕ) × (slice_get xs k ≡ Some x) × (p x ≡ true)
stood p [] j x at = absurd (none-some x at)
stood p (y ∷ ys) j x at = elim (cases_Bool (p y)) [
  | inl is ↦ first is (λ i there. stood p ys i x there) j (rw is at at)
  | inr isnt ↦ let (k, there, passes) = stood p ys j x (rw isnt at at) in (suc k, there, passes)
]
  where
    first : p y ≡ true → ((i : ℕ) → slice_get (filter p ys) i ≡ Some x → (k : ℕ) × (slice_get ys k ≡ Some x) × (p x ≡ true)) → (j : ℕ) → slice_get (y ∷ filter p ys) j ≡ Some x → (k : ℕ) × (slice_get (y ∷ ys) k ≡ Some x) × (p x ≡ true)
    first is rest zero at = (0, at, (ap p (sym (same_Some y x at)) ∙ is))
    first is rest (suc i) at = let (k, there, passes) = rest i at in (suc k, there, passes)

pub pairs-from : {A : Type 0} (R : A → A → Type 0) (xs : List A) → ((i j : ℕ) (a b : A) → i < j → slice_get xs i ≡ Some a → slice_get xs j ≡ Some b → R a b) → AllPairs R xs
pairs-from R xs each = λ i j d less below. each i j _ _ less (slice_get-get_or xs i d (omega (arith, less, below))) (slice_get-get_or xs j d below)

-- the greatest of numbers is at least each of them
most-grows : (links : List Link) (from : ℕ) → from ≤ fold (λ most l. max most l.delay) from links
most-grows [] from = omega arith
most-grows (l ∷ links) from = let rest = most-grows links (max from l.delay) in omega (arith, rest)

pub delay-within : (links : List Link) (from k : ℕ) (l : Link) → slice_get links k ≡ Some l → l.delay ≤ fold (λ most l. max most l.delay) from links
delay-within [] from k l at = absurd (none-some l at)
delay-within (m ∷ links) from zero l at =
    let same : m.delay ≡ l.delay = ap (λ (l : Link). l.delay) (same_Some m l at) in
    let rest = most-grows links (max from m.delay) in
    omega (arith, rest, same)
delay-within (m ∷ links) from (suc k) l at = delay-within links (max from m.delay) k l at
