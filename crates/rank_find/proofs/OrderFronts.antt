-- Orders from the front.
use Rattle.std.proofs.Common.{◌≡◌, ℕ, zero, suc, ◌+◌, ◌<◌, ◌≤◌, List, [], ◌∷◌, ◌++◌, length, take, get_or, slice_get, Some, refl, sym, ◌∙◌, ap, subst, arith, inl, inr}
use Rattle.std.proofs.lemmas.Bool.{cases_lt}
use Rattle.std.proofs.lemmas.List.{length_push, take-append-le, take_all, take_more}
use Rattle.std.proofs.lemmas.Option.{none-some, same_Some, slice_get-get_or, slice_get_within}
use Rattle.std.proofs.Math.Seq.{take-append_seam}
use Rattle.dbp_plan.specs.declared.diagram.Diagram.{Diagram}
use Rattle.dbp_plan.specs.ListItems.{front_place, last_place, take_place}
use Rattle.dbp_plan.proofs.Listed.{contains_at, listed_none, listed_push}
use Rattle.rank_find.specs.Fronts.{IsFront}
use Rattle.rank_find.specs.Orders.{HoldsEachOnce, IsFirstFree, IsOrder}
use Rattle.rank_find.proofs.FreeTasks.{first-apart}

pub front_none : (d : Diagram) → IsFront d []
front_none d = record { listed = listed_none (length d.tasks); each = λ p i at. absurd (none-some i at) }

pub front_more : (d : Diagram) (placed : List ℕ) (next : ℕ) → IsFront d placed → IsFirstFree d placed next → IsFront d (placed ++ next ∷ [])
front_more d placed next front is = record {
  listed = listed_push (length d.tasks) placed next front.listed is.free.named is.free.unplaced;
  each = λ p i at. elim (cases_lt p (length placed)) [
    | inl before ↦
        let here : slice_get placed p ≡ Some i = sym (front_place placed (next ∷ []) p before) ∙ at in
        subst (λ (xs : List ℕ). IsFirstFree d xs i) (sym (take-append-le p placed (next ∷ []) (omega arith))) (front.each p i here)
    | inr later ↦
        let end : p ≡ length placed = omega (arith, slice_get_within (placed ++ next ∷ []) p i at, length_push placed next) in
        let same : next ≡ i = same_Some next i (sym (last_place placed next p end) ∙ at) in
        let all : take p (placed ++ next ∷ []) ≡ placed = ap (λ (n : ℕ). take n (placed ++ next ∷ [])) end ∙ take-append_seam placed (next ∷ []) in
        subst (λ (xs : List ℕ). IsFirstFree d xs i) (sym all) (subst (λ (z : ℕ). IsFirstFree d placed z) same is)
  ];
}

pub order_of_front : (d : Diagram) (placed : List ℕ) → IsFront d placed → length placed ≡ length d.tasks → IsOrder d placed
order_of_front d placed front all = record { size = all; each = front.each }

-- there is one order at most

-- if two orders have the same front they have the same next task
same_next : (d : Diagram) (front : List ℕ) (i j : ℕ) → IsFirstFree d front i → IsFirstFree d front j → i ≡ j
same_next d front i j one other = elim (one.first j other.free) [
  | inl same ↦ sym same
  | inr before ↦ elim (other.first i one.free) [
    | inl same ↦ same
    | inr after ↦ absurd (first-apart d i j before after)
  ]
]

same_front : (d : Diagram) (one other : List ℕ) → IsOrder d one → IsOrder d other → (p : ℕ) → p ≤ length d.tasks → take p one ≡ take p other
same_front d one other is_one is_other zero below = refl
same_front d one other is_one is_other (suc p) below =
    let front : take p one ≡ take p other = same_front d one other is_one is_other p (omega arith) in
    let in_one : p < length one = omega (arith, is_one.size) in
    let in_other : p < length other = omega (arith, is_other.size) in
    let first : IsFirstFree d (take p other) (get_or one p 0) = subst (λ (xs : List ℕ). IsFirstFree d xs (get_or one p 0)) front (is_one.each p (get_or one p 0) (slice_get-get_or one p 0 in_one)) in
    let next : get_or one p 0 ≡ get_or other p 0 = same_next d (take p other) (get_or one p 0) (get_or other p 0) first (is_other.each p (get_or other p 0) (slice_get-get_or other p 0 in_other)) in
    let after : p + 1 ≡ suc p = omega arith in
    let step : take (p + 1) one ≡ take (p + 1) other =
    take_more one p 0 in_one ∙ ap (λ (xs : List ℕ). xs ++ get_or one p 0 ∷ []) front ∙ ap (λ (z : ℕ). take p other ++ z ∷ []) next ∙ sym (take_more other p 0 in_other) in
    subst (λ (n : ℕ). take n one ≡ take n other) after step

pub one-order : (d : Diagram) (one other : List ℕ) → IsOrder d one → IsOrder d other → one ≡ other
one-order d one other is_one is_other =
    let all_one : take (length d.tasks) one ≡ one = take_all (length d.tasks) one (omega (arith, is_one.size)) in
    let all_other : take (length d.tasks) other ≡ other = take_all (length d.tasks) other (omega (arith, is_other.size)) in
    sym all_one ∙ same_front d one other is_one is_other (length d.tasks) (omega arith) ∙ all_other

-- an order holds each task once
pub order_once : (d : Diagram) (order : List ℕ) → IsOrder d order → HoldsEachOnce (length d.tasks) order
order_once d order is = record {
  size = is.size;
  listed = record {
    named = λ k e inside. (is.each k (get_or order k e) (slice_get-get_or order k e inside)).free.named;
    once = λ k m e less inside same.
        let here : slice_get order k ≡ Some (get_or order k e) = slice_get-get_or order k e (omega arith) in
        let later = is.each m (get_or order m e) (slice_get-get_or order m e inside) in
        later.free.unplaced (contains_at (take m order) k (get_or order m e) (take_place order m k less ∙ here ∙ ap (λ (z : ℕ). Some z) same));
  };
}
