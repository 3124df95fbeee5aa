-- Orders of lets from the front.
use Rattle.std.proofs.Common.{◌≡◌, ℕ, zero, suc, ◌+◌, ◌-◌, ◌<◌, ◌≤◌, IsTrue, true, Contains, List, [], ◌∷◌, ◌++◌, length, take, get_or, slice_get, Some, refl, sym, ◌∙◌, ap, subst, arith, inl, inr, length-append, eqb-true, eq-eqb}
use Rattle.std.specs.List.{list_any}
use Rattle.std.proofs.Math.Dec.{eqb}
use Rattle.std.proofs.lemmas.Bool.{cases_lt}
use Rattle.std.proofs.lemmas.Option.{slice_get-get_or, slice_get_within, same_Some, none-some}
use Rattle.std.proofs.lemmas.List.{take-append-le, take_all, take_more}
use Rattle.std.proofs.lemmas.List.Folds.{Any-from_list_any, list_any_at}
use Rattle.std.proofs.Math.Seq.{take-append_seam}
use Rattle.dbp_plan.specs.declared.node.Node.TheVariants.{Var}
use Rattle.dbp_plan.specs.declared.diagram.Let.{Let}
use Rattle.dbp_plan.specs.LetOrder.{IsLetOrder}
use Rattle.dbp_plan.specs.Listed.{AreListed}
use Rattle.dbp_plan.specs.ListItems.{front_place, last_place, take_inside}
use Rattle.expr_eval.specs.LetOrders.{Uses, IsReady, Waits, IsNextReady, IsFrontOrder}
use Rattle.dbp_plan.proofs.Listed.{place_of, contains_at, one_place, listed_none, listed_push}

-- among so many numbers is this one, said of their variables
from_variables : (base j : ℕ) (xs : List ℕ) → list_any (λ i. eqb (base + i) (base + j)) xs ≡ true → Contains xs j
from_variables base j xs some =
    let (k, x, below, here, passes) = Any-from_list_any (λ i. eqb (base + i) (base + j)) xs some in
    let same : base + x ≡ base + j = eqb-true (base + x) (base + j) passes in
    let number : x ≡ j = omega arith in
    contains_at xs k j (slice_get-get_or xs k x below ∙ ap (λ (z : ℕ). Some z) (here ∙ number))

to_variables : (base j : ℕ) (xs : List ℕ) → Contains xs j → list_any (λ i. eqb (base + i) (base + j)) xs ≡ true
to_variables base j xs among =
    list_any_at (λ i. eqb (base + i) (base + j)) xs among.0 j among.1 (eq-eqb (base + get_or xs among.0 j) (base + j) (ap (λ (z : ℕ). base + z) among.2))

-- each let of an order stands after those that it uses
pub order_ready : (base : ℕ) (lets : List Let) (order : List ℕ) → IsLetOrder base lets order → (p i : ℕ) → slice_get order p ≡ Some i → IsReady base lets (take p order) i
order_ready base lets order is p i at j used =
    from_variables base j (take p order) (is.after p i used.place (base + j) used.user at used.is used.variable (omega arith))

pub ready_order : (base : ℕ) (lets : List Let) (order : List ℕ) → AreListed (length lets) order → length order ≡ length lets
    → ((p i : ℕ) → slice_get order p ≡ Some i → IsReady base lets (take p order) i) → IsLetOrder base lets order
ready_order base lets order listed full ready = record {
  size = full;
  named = listed.named;
  once = listed.once;
  after = λ p i k v l at there here above.
      let number : base + (v - base) ≡ v = omega arith in
      let used : Uses base lets i (v - base) = record { user = l; place = k; is = there; variable = here ∙ ap (λ (z : ℕ). Some (Var z)) (sym number) } in
      subst (λ (z : ℕ). IsTrue (list_any (λ j. eqb (base + j) z) (take p order))) number (to_variables base (v - base) (take p order) (ready p i at (v - base) used));
}

-- the front of an order
pub record IsFront (base : ℕ) (lets : List Let) (placed : List ℕ) : Type 0 where
  pub listed : AreListed (length lets) placed
  pub ready : (p i : ℕ) → slice_get placed p ≡ Some i → IsReady base lets (take p placed) i
  pub earliest : (p next i : ℕ) → slice_get placed p ≡ Some next → i < next → (Contains (take p placed) i → ⊥) → Waits base lets (take p placed) i

pub front_none : (base : ℕ) (lets : List Let) → IsFront base lets []
front_none base lets = record {
  listed = listed_none (length lets);
  ready = λ p i at. absurd (none-some i at);
  earliest = λ p next i at. absurd (none-some next at);
}

-- a place of a list with one more at its end
push_places : (P : List ℕ → ℕ → Type 0) (xs : List ℕ) (y : ℕ) → ((p x : ℕ) → slice_get xs p ≡ Some x → P (take p xs) x) → P xs y
    → (p x : ℕ) → slice_get (xs ++ y ∷ []) p ≡ Some x → P (take p (xs ++ y ∷ [])) x
push_places P xs y each last p x at = elim (cases_lt p (length xs)) [
  | inl before ↦
      let here : slice_get xs p ≡ Some x = sym (front_place xs (y ∷ []) p before) ∙ at in
      let order : p ≤ length xs = omega arith in
      subst (λ (l : List ℕ). P l x) (sym (take-append-le p xs (y ∷ []) order)) (each p x here)
  | inr later ↦
      let end : p ≡ length xs = omega (arith, slice_get_within (xs ++ y ∷ []) p x at, length-append xs (y ∷ [])) in
      let same : y ≡ x = same_Some y x (sym (last_place xs y p end) ∙ at) in
      let front : take p (xs ++ y ∷ []) ≡ xs = ap (λ (n : ℕ). take n (xs ++ y ∷ [])) end ∙ take-append_seam xs (y ∷ []) in
      subst (λ (l : List ℕ). P l x) (sym front) (subst (λ (z : ℕ). P xs z) same last)
]

pub front_more : (base : ℕ) (lets : List Let) (placed : List ℕ) (next : ℕ) → IsFront base lets placed → IsNextReady base lets placed next → IsFront base lets (placed ++ next ∷ [])
front_more base lets placed next front is = record {
  listed = listed_push (length lets) placed next front.listed is.named is.unplaced;
  ready = push_places (λ l x. IsReady base lets l x) placed next front.ready is.ready;
  earliest = λ p x i at.
      push_places (λ l z. i < z → (Contains l i → ⊥) → Waits base lets l i) placed next (λ q z here. front.earliest q z i here) (is.earliest i) p x at;
}

pub front_end : (base : ℕ) (lets : List Let) (placed : List ℕ) → IsFront base lets placed → length placed ≡ length lets → IsFrontOrder base lets placed
front_end base lets placed front full = record { is_order = ready_order base lets placed front.listed full front.ready; earliest = front.earliest }

-- there is one at most

-- if two orders have the same front, the next of the one isn't less than that of the other
not_less : (base : ℕ) (lets : List Let) (one other : List ℕ) (p a b : ℕ) → IsFrontOrder base lets one → IsFrontOrder base lets other
    → take p one ≡ take p other → slice_get one p ≡ Some a → slice_get other p ≡ Some b → a < b → ⊥
not_less base lets one other p a b is_one is_other same at_one at_other less =
    let fresh : Contains (take p other) a → ⊥ = λ among.
    let place = place_of (take p one) a (subst (λ (l : List ℕ). Contains l a) (sym same) among) in
    let at : slice_get one place.0 ≡ Some a = (take_inside one p place.0 a place.2).1 in
    let before : place.0 < p = (take_inside one p place.0 a place.2).0 in
    let one_is : place.0 ≡ p = one_place one is_one.is_order.once place.0 p a at at_one in
    absurd (omega arith) in
    let waits = is_other.earliest p b a at_other less fresh in
    waits.2 (subst (λ (l : List ℕ). Contains l waits.0) same (order_ready base lets one is_one.is_order p a at_one waits.0 waits.1))

same_front : (base : ℕ) (lets : List Let) (one other : List ℕ) → IsFrontOrder base lets one → IsFrontOrder base lets other → (p : ℕ) → p ≤ length lets → take p one ≡ take p other
same_front base lets one other is_one is_other zero below = refl
same_front base lets one other is_one is_other (suc p) below =
    let front : take p one ≡ take p other = same_front base lets one other is_one is_other p (omega arith) in
    let in_one : p < length one = omega (arith, is_one.is_order.size) in
    let in_other : p < length other = omega (arith, is_other.is_order.size) in
    let at_one : slice_get one p ≡ Some (get_or one p 0) = slice_get-get_or one p 0 in_one in
    let at_other : slice_get other p ≡ Some (get_or other p 0) = slice_get-get_or other p 0 in_other in
    let next : get_or one p 0 ≡ get_or other p 0 = elim (cases_lt (get_or one p 0) (get_or other p 0)) [
      | inl less ↦ absurd (not_less base lets one other p _ _ is_one is_other front at_one at_other less)
      | inr above ↦ elim (cases_lt (get_or other p 0) (get_or one p 0)) [
        | inl more ↦ absurd (not_less base lets other one p _ _ is_other is_one (sym front) at_other at_one more)
        | inr under ↦ omega arith
      ]
    ] in
    let after : p + 1 ≡ suc p = omega arith in
    let step : take (p + 1) one ≡ take (p + 1) other =
    take_more one p 0 in_one ∙ ap (λ (l : List ℕ). l ++ get_or one p 0 ∷ []) front ∙ ap (λ (z : ℕ). take p other ++ z ∷ []) next ∙ sym (take_more other p 0 in_other) in
    subst (λ (n : ℕ). take n one ≡ take n other) after step

pub one_front : (base : ℕ) (lets : List Let) (one other : List ℕ) → IsFrontOrder base lets one → IsFrontOrder base lets other → one ≡ other
one_front base lets one other is_one is_other =
    let all_one : take (length lets) one ≡ one = take_all (length lets) one (omega (arith, is_one.is_order.size)) in
    let all_other : take (length lets) other ≡ other = take_all (length lets) other (omega (arith, is_other.is_order.size)) in
    sym all_one ∙ same_front base lets one other is_one is_other (length lets) (omega arith) ∙ all_other
