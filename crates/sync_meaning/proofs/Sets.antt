-- Lists of zeros, and lists in which one place was written.
use Rattle.std.proofs.Common.{◌≡◌, ◌≢◌, ℕ, zero, suc, ◌<◌, get_or, List, length, slice_get, set, Some, sym, ◌∙◌, ap, arith, ◌⊎◌, inl, inr}
use Rattle.std.specs.Prelude.{replicate}
use Rattle.std.specs.List.{refill}
use Rattle.std.proofs.lemmas.Grind.{common_steps}
use Rattle.std.proofs.lemmas.Bool.{cases_eq}
use Rattle.std.proofs.lemmas.Option.{slice_get_within, same_Some}
use Rattle.std.proofs.lemmas.List.{length-set}
use Rattle.dbp_plan.specs.ListItems.{read_place, set_here, set_other}

-- an item of the list is the one that was written, or stood there before
pub set_cases : {X : Type 0} (xs : List X) (i j : ℕ) (y z : X) → slice_get (set xs i y) j ≡ Some z → ((j ≡ i) × (y ≡ z)) ⊎ ((j ≢ i) × (slice_get xs j ≡ Some z))
set_cases xs i j y z at = elim (cases_eq j i) [
  | inl same ↦
      let at_i : slice_get (set xs i y) i ≡ Some z = rw same at at in
      let inside : i < length xs = omega (arith, slice_get_within (set xs i y) i z at_i, length-set xs i y) in
      inl (same, same_Some _ _ (sym (set_here xs i y inside) ∙ at_i))
  | inr apart ↦ inr (apart, sym (set_other xs i j y apart) ∙ at)
]

zero_at : (count i n : ℕ) → slice_get (replicate count 0) i ≡ Some n → n ≡ 0
zero_at zero i n at = absurd (cc)
zero_at (suc count) zero n at = sym (same_Some _ _ at)
zero_at (suc count) (suc i) n at = zero_at count i n at

pub zero_of : (count i n : ℕ) (xs : List ℕ) → xs ≡ replicate count 0 → slice_get xs i ≡ Some n → n ≡ 0
zero_of count i n xs is at = zero_at count i n (ap (λ (l : List ℕ). slice_get l i) (sym is) ∙ at)

-- an item that was read
pub item_at : {X : Type 0} (xs ys : List X) (i : ℕ) (x : X) → ys ≡ xs → i < length xs → x ≡ get_or ys i x → slice_get xs i ≡ Some x
item_at xs ys i x same below is = read_place xs i x below (is ∙ ap (λ l. get_or l i x) same)

-- what is written back for a whole list is all of it
pub refill_all : {X : Type 0} (xs ws : List X) → length ws ≡ length xs → refill (length xs) xs ws ≡ ws
refill_all xs ws size = grind (arith, common_steps)
