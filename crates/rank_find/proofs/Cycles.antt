-- Orders and cycles of direct links.
use Rattle.std.proofs.Common.{◌≡◌, ℕ, suc, ◌<◌, List, [], ◌∷◌, length, take, Option, Some, None, refl, sym, subst, arith, ◌⊎◌, inl, inr}
use Rattle.std.specs.Prelude.{MatchOption, reverse}
use Rattle.std.proofs.lemmas.Bool.{cases_lt}
use Rattle.std.proofs.lemmas.Option.{MatchOption-at_none, MatchOption-at_some}
use Rattle.dbp_plan.specs.declared.diagram.Diagram.{Diagram}
use Rattle.dbp_plan.specs.Closed.{IsClosed}
use Rattle.dbp_plan.specs.Cycles.{IsCycle, LiesOnCycle}
use Rattle.dbp_plan.specs.Listed.{AreListed}
use Rattle.dbp_plan.specs.ListItems.{all_place, at_place}
use Rattle.dbp_plan.proofs.Cycles as cycles
use Rattle.rank_find.specs.Distances.{AreNamed}
use Rattle.rank_find.specs.FirstCycles.{IsBefore, IsFirstCycle}
use Rattle.rank_find.specs.Fronts.{AllWait, IsFront, ReadsFrom}
use Rattle.rank_find.specs.Links.{AreWriters, IsWriter, WritesTo}
use Rattle.rank_find.specs.Orders.{HoldsEachOnce, IsOrder}
use Rattle.rank_find.proofs.Turned.{first_cycle_also, lies_also, turned_cycle}
use Rattle.rank_find.proofs.Writers.{reader_below, writer_below}

-- ---- no order of a cycle

pub no-order : (d : Diagram) (order cycle : List ℕ) → IsClosed d → HoldsEachOnce (length d.tasks) order → IsOrder d order → IsCycle (WritesTo d) cycle → ⊥
no-order d order cycle closed once is loops =
    cycles.no_order (ReadsFrom d) (length d.tasks) order (reverse cycle) (λ i j reads. reader_below d j i closed reads) once.listed (omega (arith, is.size))
    (λ p i at. (is.each p i at).free.ready) (turned_cycle (WritesTo d) cycle loops)

-- if none of the tasks that are left is free, and none lies on a cycle, all are placed
all_placed : (d : Diagram) (writers : List (List ℕ)) (placed : List ℕ) → IsClosed d → AreWriters d writers → IsFront d placed → AllWait d placed
    → ((i : ℕ) → i < length writers → LiesOnCycle (IsWriter writers) i → ⊥) → length placed ≡ length d.tasks
all_placed d writers placed closed are front wait none =
    cycles.all_placed (ReadsFrom d) (length d.tasks) placed (λ i j reads. writer_below d j i closed reads) front.listed wait
    (λ i below lies.
    let turned : IsCycle (WritesTo d) (reverse lies.0) = turned_cycle (ReadsFrom d) lies.0 lies.1.is in
    let first = at_place (reverse lies.0) 0 turned.some in
    let listed = cycles.cycle_listed (WritesTo d) (length d.tasks) (reverse lies.0) (λ a b writes. writer_below d a b closed writes) turned in
    let inside : first.0 < length d.tasks = all_place (λ a. a < length d.tasks) (reverse lies.0) 0 first.0 listed.named first.1 in
    let on : LiesOnCycle (WritesTo d) first.0 = (reverse lies.0, record { is = turned; begins = first.1 }) in
    none first.0 (omega (arith, inside, are.size)) (lies_also (WritesTo d) (IsWriter writers) first.0 (λ a b writes. (are.each a b).1 writes) on))

pub first_cycle_listed : (d : Diagram) (start : ℕ) (cycle : List ℕ) → IsClosed d → IsFirstCycle (WritesTo d) start cycle → AreListed (length d.tasks) cycle
first_cycle_listed d start cycle closed is = cycles.cycle_listed (WritesTo d) (length d.tasks) cycle (λ a b writes. writer_below d a b closed writes) is.from.is.is

-- ---- one first cycle

-- two lists of one length are one, or one of them is before the other
first_difference : (one other : List ℕ) → length one ≡ length other → (one ≡ other) ⊎ (IsBefore one other ⊎ IsBefore other one)
first_difference [] [] size = inl refl
first_difference [] (y ∷ ys) size = absurd (omega arith)
first_difference (x ∷ xs) [] size = absurd (omega arith)
first_difference (x ∷ xs) (y ∷ ys) size = elim (cases_lt x y) [
  | inl less ↦ inr (inl (record { place = 0; lesser = x; greater = y; front = refl; in_one = refl; in_other = refl; less = less }))
  | inr above ↦ elim (cases_lt y x) [
    | inl more ↦ inr (inr (record { place = 0; lesser = y; greater = x; front = refl; in_one = refl; in_other = refl; less = more }))
    | inr under ↦
        let same : x ≡ y = omega arith in
        elim (first_difference xs ys (omega arith)) [
          | inl rest ↦ inl (cc)
          | inr (inl b) ↦ inr (inl (record { place = suc b.place; lesser = b.lesser; greater = b.greater; front = joined x y xs ys b.place same b.front; in_one = b.in_one; in_other = b.in_other; less = b.less }))
          | inr (inr b) ↦ inr (inr (record { place = suc b.place; lesser = b.lesser; greater = b.greater; front = joined y x ys xs b.place (sym same) b.front; in_one = b.in_one; in_other = b.in_other; less = b.less }))
        ]
  ]
]
  where
    joined : (a b : ℕ) (xs ys : List ℕ) (k : ℕ) → a ≡ b → take k xs ≡ take k ys → take (suc k) (a ∷ xs) ≡ take (suc k) (b ∷ ys)
    joined a b xs ys k same rest = cc

pub one-first_cycle : (R : ℕ → ℕ → Type 0) (start begin : ℕ) (one other : List ℕ) → IsFirstCycle R start one → IsFirstCycle R begin other → (start ≡ begin) × (one ≡ other)
one-first_cycle R start begin one other is_one is_other =
    let same : start ≡ begin = elim (cases_lt start begin) [
      | inl less ↦ absurd (is_other.earliest start less (one, is_one.from.is))
      | inr above ↦ elim (cases_lt begin start) [
        | inl more ↦ absurd (is_one.earliest begin more (other, is_other.from.is))
        | inr under ↦ omega arith
      ]
    ] in
    let there : IsFirstCycle R start other = subst (λ (z : ℕ). IsFirstCycle R z other) (sym same) is_other in
    let size : length one ≡ length other = omega (arith, is_one.from.shortest other there.from.is, there.from.shortest one is_one.from.is) in (
      same,
      elim (first_difference one other size) [
        | inl equal ↦ equal
        | inr (inl before) ↦ absurd (there.from.first one is_one.from.is size before)
        | inr (inr before) ↦ absurd (is_one.from.first other there.from.is (sym size) before)
      ],
    )

-- ---- what the search over all tasks found

pub writers_named : (d : Diagram) (writers : List (List ℕ)) → IsClosed d → AreWriters d writers → AreNamed writers
writers_named d writers closed are = λ i j writes. omega (arith, writer_below d i j closed ((are.each i j).0 writes), are.size)

abbrev pub IsSearched : List (List ℕ) → Option (List ℕ) → Type 0
IsSearched writers found = MatchOption found ((i : ℕ) → i < length writers → LiesOnCycle (IsWriter writers) i → ⊥) (λ cycle. (start : ℕ) × IsFirstCycle (IsWriter writers) start cycle)

pub found_cycle : (d : Diagram) (writers : List (List ℕ)) (found : Option (List ℕ)) (cycle : List ℕ) → AreWriters d writers → IsSearched writers found → found ≡ Some cycle
    → (start : ℕ) × IsFirstCycle (WritesTo d) start cycle
found_cycle d writers found cycle are searched is =
    let there : (start : ℕ) × IsFirstCycle (IsWriter writers) start cycle =
    MatchOption-at_some ((i : ℕ) → i < length writers → LiesOnCycle (IsWriter writers) i → ⊥) (λ cycle. (start : ℕ) × IsFirstCycle (IsWriter writers) start cycle) cycle is searched in
    (there.0, first_cycle_also (IsWriter writers) (WritesTo d) there.0 cycle are.each there.1)

pub found_none : (d : Diagram) (writers : List (List ℕ)) (placed : List ℕ) (found : Option (List ℕ)) → IsClosed d → AreWriters d writers → IsFront d placed → AllWait d placed
    → IsSearched writers found → found ≡ None → length placed ≡ length d.tasks
found_none d writers placed found closed are front wait searched is =
    all_placed d writers placed closed are front wait
    (MatchOption-at_none ((i : ℕ) → i < length writers → LiesOnCycle (IsWriter writers) i → ⊥) (λ cycle. (start : ℕ) × IsFirstCycle (IsWriter writers) start cycle) is searched)
