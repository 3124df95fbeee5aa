-- The environment of an instance, from the values that it is given: there is one, and one only.
use Rattle.std.proofs.Common.{◌≡◌, ◌≢◌, ℕ, ℤ, pos, zero, suc, ◌<◌, ◌≤◌, ◌+◌, ◌-◌, true, List, [], ◌∷◌, ◌++◌, length, take, get_or, slice_get, set, Some, refl, sym, ◌∙◌, ap, subst, arith, ◌⊎◌, inl, inr, length-append, length-take}
use Rattle.std.specs.Prelude.{◌==◌, All, AllPairs, replicate}
use Rattle.std.specs.List.{Any}
use Rattle.std.specs.Option.{option_map_or}
use Rattle.std.proofs.lemmas.Bool.{cases_eq, cases_lt, eqb-true}
use Rattle.std.proofs.lemmas.List.{get_or-take, length-replicate}
use Rattle.std.proofs.lemmas.List.Folds.{Any-from_list_any}
use Rattle.std.proofs.lemmas.Option.{slice_get-get_or, slice_get_within}
use Rattle.dbp_plan.specs.declared.diagram.Let.{Let}
use Rattle.dbp_plan.specs.declared.diagram.Next.{Next}
use Rattle.dbp_plan.specs.declared.diagram.Task.{Task}
use Rattle.dbp_plan.specs.Closed.{let_base, place_count}
use Rattle.dbp_plan.specs.LetOrder.{IsLetOrder}
use Rattle.expr_eval.specs.Values.{value_of}
use Rattle.sync_meaning.specs.Lets.{AgreeOn, LetsUpTo, lets_all, lets_more, lets_none, order_ranking, same_value}
use Rattle.sync_meaning.specs.Meaning.{AreStatesAfter, HasLets}
use Rattle.sync_meaning.specs.Nexts.{NextsUpTo, nexts_all, nexts_more, nexts_none}
use Rattle.dbp_plan.specs.ListItems.{all_place, front_place, at_place, same_item, same_list}
use Rattle.dbp_plan.specs.Rankings.{task_of}

-- the environment begins with the values that are given, and after them stand the lets
pub record IsEnvFrom (task : Task) (given env : List ℤ) : Type 0 where
  pub size : length env ≡ place_count task
  pub given_values : (j : ℕ) → j < let_base task → slice_get env j ≡ slice_get given j
  pub lets : HasLets task env

-- the lets at the first places of the order, one after another
let_set : Task → ℕ → List ℤ → List ℤ
let_set task k env = option_map_or (λ l. set env (let_base task + k) (value_of l.expr env)) (slice_get task.lets k) env

lets_set : Task → List ℤ → ℕ → List ℤ
unfolding let_set
lets_set task env zero = env
lets_set task env (suc n) = let_set task (get_or task.order n 0) (lets_set task env n)

let_set-is : (task : Task) (k : ℕ) (l : Let) (env : List ℤ) → slice_get task.lets k ≡ Some l → let_set task k env ≡ set env (let_base task + k) (value_of l.expr env)
unfolding let_set
let_set-is task k l env at = rw at refl

lets_set-is : (n : ℕ) (task : Task) (env : List ℤ) → IsLetOrder (let_base task) task.lets task.order → length env ≡ place_count task → n ≤ length task.order → LetsUpTo n task env (lets_set task env n)
unfolding lets_set
lets_set-is zero task env order size few = lets_none task env
lets_set-is (suc n) task env order size few =
    let before : LetsUpTo n task env (lets_set task env n) = lets_set-is n task env order size (omega arith) in
    let k : ℕ = get_or task.order n 0 in
    let at_k : slice_get task.order n ≡ Some k = slice_get-get_or task.order n 0 (omega arith) in
    let below : k < length task.lets = all_place (λ i. i < length task.lets) task.order n k order.named at_k in
    let l : (l : Let) × (slice_get task.lets k ≡ Some l) = at_place task.lets k below in
    let inside : let_base task + k < length (lets_set task env n) = omega (arith, before.size) in
    let next : LetsUpTo (n + 1) task env (set (lets_set task env n) (let_base task + k) (value_of l.0.expr (lets_set task env n))) = lets_more n k l.0 task env (lets_set task env n) order at_k l.1 inside before in
    let one : n + 1 ≡ suc n = omega arith in
    subst (λ (m : ℕ). LetsUpTo m task env (let_set task k (lets_set task env n))) one (rw (let_set-is task k l.0 (lets_set task env n) l.1) next)

-- the environment that begins with the values
pub env_from : Task → List ℤ → List ℤ
env_from task given = lets_set task (given ++ replicate (length task.lets) (pos 0)) (length task.order)

pub env_from-is : (task : Task) (given : List ℤ) → IsLetOrder (let_base task) task.lets task.order → length given ≡ let_base task → IsEnvFrom task given (env_from task given)
unfolding env_from
env_from-is task given order size =
    let whole : length (given ++ replicate (length task.lets) (pos 0)) ≡ place_count task = length-append given (replicate (length task.lets) (pos 0)) ∙ omega (arith, size, length-replicate (length task.lets) (pos 0)) in
    let done : LetsUpTo (length task.order) task (given ++ replicate (length task.lets) (pos 0)) (env_from task given) = lets_set-is (length task.order) task (given ++ replicate (length task.lets) (pos 0)) order whole (omega arith) in
    record {
      size = done.size ∙ whole;
      given_values = λ j below. done.given j below ∙ front_place given (replicate (length task.lets) (pos 0)) j (omega arith);
      lets = lets_all (length task.order) task (given ++ replicate (length task.lets) (pos 0)) (env_from task given) order (omega arith) done;
    }

-- two environments that begin with the same values agree at the lets that stand first in the order
record AgreeUpTo (n : ℕ) (task : Task) (one other : List ℤ) : Type 0 where
  same : (p k : ℕ) → p < n → slice_get task.order p ≡ Some k → slice_get one (let_base task + k) ≡ slice_get other (let_base task + k)

-- so they have the same values at the variables of the next let
agree_next : (n k : ℕ) (l : Let) (task : Task) (given one other : List ℤ) → IsLetOrder (let_base task) task.lets task.order → slice_get task.order n ≡ Some k → slice_get task.lets k ≡ Some l
    → IsEnvFrom task given one → IsEnvFrom task given other → AgreeUpTo n task one other → AgreeOn l.expr.nodes one other
agree_next n k l task given one other order at_k at_l a b agree = record {
  same = λ place v at_v. same_item one other v (pos 0) (elim (cases_lt v (let_base task)) [
    | inl below ↦ a.given_values v below ∙ sym (b.given_values v below)
    | inr above ↦
        let used : Any (λ j. (let_base task + j == v) ≡ true) (take n task.order) = Any-from_list_any (λ j. let_base task + j == v) (take n task.order) (order.after n k place v l at_k at_l at_v above) in
        let same : let_base task + used.1 ≡ v = eqb-true (let_base task + used.1) v used.4 in
        let lower : used.0 < n = omega (arith, used.2, length-take n task.order) in
        let inside : used.0 < length task.order = omega (arith, used.2, length-take n task.order) in
        let there : slice_get task.order used.0 ≡ Some used.1 = slice_get-get_or task.order used.0 used.1 inside ∙ ap (λ (j : ℕ). Some j) (sym (get_or-take n task.order used.0 used.1 lower) ∙ used.3) in
        subst (λ (w : ℕ). slice_get one w ≡ slice_get other w) same (agree.same used.0 used.1 lower there)
  ]);
}

agree_all : (n : ℕ) (task : Task) (given one other : List ℤ) → IsLetOrder (let_base task) task.lets task.order → n ≤ length task.order → IsEnvFrom task given one → IsEnvFrom task given other → AgreeUpTo n task one other
agree_all zero task given one other order few a b = record { same = λ p k below. absurd (omega arith) }
agree_all (suc n) task given one other order few a b =
    let before : AgreeUpTo n task one other = agree_all n task given one other order (omega arith) a b in
    record {
      same = λ p k below at_k. elim (cases_eq p n) [
        | inl here ↦
            let at_n : slice_get task.order n ≡ Some k = ap (λ q. slice_get task.order q) (sym here) ∙ at_k in
            let named : k < length task.lets = all_place (λ i. i < length task.lets) task.order p k order.named at_k in
            let l : (l : Let) × (slice_get task.lets k ≡ Some l) = at_place task.lets k named in
            let value : value_of l.0.expr one ≡ value_of l.0.expr other = same_value l.0.expr one other (agree_next n k l.0 task given one other order at_n l.1 a b before) in
            a.lets k l.0 l.1 ∙ ap (λ (z : ℤ). Some z) value ∙ sym (b.lets k l.0 l.1)
        | inr apart ↦ before.same p k (omega arith) at_k
      ];
    }

pub one_env : (task : Task) (given one other : List ℤ) → IsLetOrder (let_base task) task.lets task.order → IsEnvFrom task given one → IsEnvFrom task given other → one ≡ other
one_env task given one other order a b = same_list one other (a.size ∙ sym b.size) (λ j below. elim (cases_lt j (let_base task)) [
  | inl lower ↦ a.given_values j lower ∙ sym (b.given_values j lower)
  | inr above ↦
      let k : ℕ = j - let_base task in
      let place : let_base task + k ≡ j = omega arith in
      let named : k < length task.order = omega (arith, a.size, order.size) in
      let p : (p : ℕ) × (slice_get task.order p ≡ Some k) = task_of task.order k (order_ranking task order) named in
      let agree : AgreeUpTo (length task.order) task one other = agree_all (length task.order) task given one other order (omega arith) a b in
      subst (λ (w : ℕ). slice_get one w ≡ slice_get other w) place (agree.same p.0 k (slice_get_within task.order p.0 k p.1) p.1)
])

-- the states after an instance, by the first `next`s
next_set : List Next → List ℤ → List ℤ → ℕ → List ℤ
next_set nexts env states k = option_map_or (λ n. set states n.state (value_of n.expr env)) (slice_get nexts k) states

nexts_set : List Next → List ℤ → List ℤ → ℕ → List ℤ
nexts_set nexts env states zero = states
nexts_set nexts env states (suc k) = next_set nexts env (nexts_set nexts env states k) k

next_set-is : (nexts : List Next) (env states : List ℤ) (k : ℕ) (n : Next) → slice_get nexts k ≡ Some n → next_set nexts env states k ≡ set states n.state (value_of n.expr env)
unfolding next_set
next_set-is nexts env states k n at = rw at refl

nexts_set-is : (m : ℕ) (nexts : List Next) (env states : List ℤ) → AllPairs (λ a b. a.state ≢ b.state) nexts → All (λ n. n.state < length states) nexts → m ≤ length nexts → NextsUpTo m nexts env states (nexts_set nexts env states m)
unfolding nexts_set
nexts_set-is zero nexts env states apart inside few = nexts_none nexts env states
nexts_set-is (suc m) nexts env states apart inside few =
    let before : NextsUpTo m nexts env states (nexts_set nexts env states m) = nexts_set-is m nexts env states apart inside (omega arith) in
    let n : (n : Next) × (slice_get nexts m ≡ Some n) = at_place nexts m (omega arith) in
    let there : n.0.state < length states = all_place (λ (o : Next). o.state < length states) nexts m n.0 inside n.1 in
    let next : NextsUpTo (m + 1) nexts env states (set (nexts_set nexts env states m) n.0.state (value_of n.0.expr env)) = nexts_more m n.0 nexts env states (nexts_set nexts env states m) apart n.1 (omega (arith, before.size)) before in
    let one : m + 1 ≡ suc m = omega arith in
    subst (λ (k : ℕ). NextsUpTo k nexts env states (next_set nexts env (nexts_set nexts env states m) m)) one (rw (next_set-is nexts env (nexts_set nexts env states m) m n.0 n.1) next)

-- the states after an instance of the task with this environment
pub states_after : Task → List ℤ → List ℤ → List ℤ
states_after task env before = nexts_set task.nexts env before (length task.nexts)

pub states_after-are : (task : Task) (env before : List ℤ) → AllPairs (λ a b. a.state ≢ b.state) task.nexts → All (λ n. n.state < length task.states) task.nexts → length before ≡ length task.states
    → AreStatesAfter task env before (states_after task env before)
unfolding states_after
states_after-are task env before apart inside size =
    nexts_all (length task.nexts) task env before (states_after task env before) (omega arith)
    (nexts_set-is (length task.nexts) task.nexts env before apart (rw size inside) (omega arith))

-- a state has a `next` or none
has_next : (nexts : List Next) (j : ℕ) → ((k : ℕ) × (n : Next) × (slice_get nexts k ≡ Some n) × (n.state ≡ j)) ⊎ All (λ n. n.state ≢ j) nexts
has_next [] j = inr (λ k d below. absurd (omega arith))
has_next (n ∷ nexts) j = elim (cases_eq n.state j) [
  | inl here ↦ inl (0, n, refl, here)
  | inr apart ↦ elim (has_next nexts j) [
    | inl there ↦ inl (suc there.0, there.1, there.2, there.3)
    | inr none ↦ inr (others n nexts j apart none)
  ]
]
  where
    others : (n : Next) (nexts : List Next) (j : ℕ) → n.state ≢ j → All (λ o. o.state ≢ j) nexts → All (λ o. o.state ≢ j) (n ∷ nexts)
    others n nexts j apart none zero d below = apart
    others n nexts j apart none (suc k) d below = none k d (omega arith)

pub one_states_after : (task : Task) (env before one other : List ℤ) → AreStatesAfter task env before one → AreStatesAfter task env before other → one ≡ other
one_states_after task env before one other a b = same_list one other (a.size ∙ sym b.size) (λ j below. elim (has_next task.nexts j) [
  | inl next ↦
      let first : slice_get one j ≡ Some (value_of next.1.expr env) = ap (λ k. slice_get one k) (sym next.3) ∙ a.next next.0 next.1 next.2 in
      let second : slice_get other j ≡ Some (value_of next.1.expr env) = ap (λ k. slice_get other k) (sym next.3) ∙ b.next next.0 next.1 next.2 in
      first ∙ sym second
  | inr none ↦ a.kept j none ∙ sym (b.kept j none)
])
