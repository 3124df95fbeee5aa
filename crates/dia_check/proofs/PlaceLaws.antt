-- Places of names, and lists that are made part by part.
use Rattle.std.proofs.Common.{◌≡◌, ℕ, zero, suc, ◌<◌, Bool, true, false, All, List, [], ◌∷◌, length, map, get_or, slice_get, Some, refl, sym, ◌∙◌, subst, length-append}
use Rattle.std.specs.Prelude.{cond, count_by}
use Rattle.std.specs.List.{flat_map, list_any}
use Rattle.std.proofs.lemmas.Bool.{not-false, or_parts}
use Rattle.std.proofs.lemmas.List.Elements.{All-nil, All-cons}
use Rattle.std.proofs.lemmas.List.Sums.{sum_by-cons}
use Rattle.std.proofs.lemmas.Option.{slice_get-get_or}
use Rattle.dbp_plan.specs.declared.expr.Expr.{Expr}
use Rattle.dbp_plan.specs.declared.node.Node.{Node}
use Rattle.dbp_plan.specs.declared.node.Node.TheVariants.{Num, Var, Un, Bin, Pick}
use Rattle.dbp_plan.specs.LetOrder.{VariablesBelow}
use Rattle.dbp_plan.specs.NameLists.{is_among, index_of}
use Rattle.dbp_plan.proofs.NameLaws.{index-below}
use Rattle.dia_check.specs.Placed.{placed_node, placed_expr, nodes-of-placed}
use Rattle.dia_check.specs.Faults.{is_unbound, has_unbound}

-- parts that make as many items
pub made-alike : {A B C : Type 0} (f : A → List B) (g : A → List C) → ((x : A) → length (f x) ≡ length (g x)) → (xs : List A) → length (flat_map f xs) ≡ length (flat_map g xs)
made-alike f g same [] = refl
made-alike f g same (x ∷ xs) = length-append (f x) (flat_map f xs) ∙ rw (same x, made-alike f g same xs) (sym (length-append (g x) (flat_map g xs)))

-- parts of which each that passes the test makes one item
pub made-count : {A B : Type 0} (f : A → List B) (test : A → Bool) → ((x : A) → length (f x) ≡ cond (test x) 1 0) → (xs : List A) → length (flat_map f xs) ≡ count_by test xs
made-count f test one [] = refl
made-count f test one (x ∷ xs) = length-append (f x) (flat_map f xs) ∙ rw (one x, made-count f test one xs) (sym (sum_by-cons (λ y. cond (test y) 1 0) x xs))

pub only-one : {A : Type 0} (P : A → Type 0) (x : A) → P x → All P (x ∷ [])
only-one P x holds = All-cons P x [] holds (All-nil P)

-- what holds at each place holds of all
pub all-places : {A : Type 0} (P : A → Type 0) (xs : List A) → ((k : ℕ) (x : A) → slice_get xs k ≡ Some x → P x) → All P xs
all-places P xs each k d below = each k (get_or xs k d) (slice_get-get_or xs k d below)

-- ---- variables

nodes-below : (names : List (List ℕ)) (nodes : List (Node (List ℕ))) → list_any (is_unbound names) nodes ≡ false → VariablesBelow (length names) (map (placed_node names) nodes)
nodes-below names [] none k v at = absurd cc
nodes-below names (Var n ∷ nodes) none zero v at =
    let known : is_among names n ≡ true = not-false (is_among names n) (or_parts (is_unbound names (Var n)) (list_any (is_unbound names) nodes) none).0 in
    let is : index_of names n ≡ v = cc in
    subst (λ w. w < length names) is (index-below names n known)
nodes-below names (Num z ∷ nodes) none zero v at = absurd cc
nodes-below names (Un op a ∷ nodes) none zero v at = absurd cc
nodes-below names (Bin op a b ∷ nodes) none zero v at = absurd cc
nodes-below names (Pick c a b ∷ nodes) none zero v at = absurd cc
nodes-below names (node ∷ nodes) none (suc k) v at = nodes-below names nodes (or_parts (is_unbound names node) (list_any (is_unbound names) nodes) none).1 k v at

pub placed-below : (names : List (List ℕ)) (e : Expr (List ℕ)) → has_unbound names e ≡ false → VariablesBelow (length names) (placed_expr names e).nodes
placed-below names e none = subst (λ nodes. VariablesBelow (length names) nodes) (sym (nodes-of-placed names e)) (nodes-below names e.nodes none)
