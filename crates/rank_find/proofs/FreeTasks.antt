-- The first of the free tasks.
use Rattle.std.proofs.Common.{◌≡◌, ◌≢◌, ◌⊎◌, ℕ, ◌+◌, ◌<◌, Bool, true, false, not, ◌&&◌, ◌||◌, IsTrue, Contains, List, [], length, Option, Some, None, refl, sym, ◌∙◌, ◌≤◌, subst, arith, inl, inr, below_more}
use Rattle.std.specs.Prelude.{nat_lt, MatchBool, MatchOption, slice_index_or}
use Rattle.std.specs.Option.{IfSome}
use Rattle.std.proofs.lemmas.Bool.{false≢true}
use Rattle.std.proofs.lemmas.Bool.Decides.{nat_tests}
use Rattle.dbp_plan.specs.declared.diagram.Clock.{Clock}
use Rattle.dbp_plan.specs.declared.diagram.Clock.TheVariants.{Every, On}
use Rattle.dbp_plan.specs.declared.diagram.Diagram.{Diagram}
use Rattle.dbp_plan.specs.Lookups.{task_at}
use Rattle.rank_find.specs.Fronts.{AllWait, IsReady, IsUnready, Waits}
use Rattle.rank_find.specs.Links.{AreWriters}
use Rattle.rank_find.specs.Orders.{IsFirstFree, IsFree, is_first_of, is_shorter}

-- ---- the order is transitive, asymmetric and total

abbrev comes_first : Clock → Clock → ℕ → ℕ → Bool
comes_first a b i j = is_shorter a b || (not (is_shorter b a) && nat_lt i j)

clocks-trans : (a b c : Clock) (i j k : ℕ) → comes_first a b i j ≡ true → comes_first b c j k ≡ true → comes_first a c i k ≡ true
clocks-trans (Every p o) (Every q r) (Every s t) i j k one other = grind (arith, nat_tests)
clocks-trans (Every p o) (Every q r) (On e) i j k one other = grind (arith, nat_tests)
clocks-trans (Every p o) (On e) (Every s t) i j k one other = grind (arith, nat_tests)
clocks-trans (Every p o) (On e) (On f) i j k one other = grind (arith, nat_tests)
clocks-trans (On e) (Every q r) (Every s t) i j k one other = grind (arith, nat_tests)
clocks-trans (On e) (Every q r) (On f) i j k one other = grind (arith, nat_tests)
clocks-trans (On e) (On f) (Every s t) i j k one other = grind (arith, nat_tests)
clocks-trans (On e) (On f) (On g) i j k one other = grind (arith, nat_tests)

clocks-apart : (a b : Clock) (i j : ℕ) → comes_first a b i j ≡ true → comes_first b a j i ≡ true → ⊥
clocks-apart (Every p o) (Every q r) i j one other = grind (arith, nat_tests)
clocks-apart (Every p o) (On e) i j one other = grind (arith, nat_tests)
clocks-apart (On e) (Every q r) i j one other = grind (arith, nat_tests)
clocks-apart (On e) (On f) i j one other = grind (arith, nat_tests)

clocks-total : (a b : Clock) (i j : ℕ) → i ≢ j → comes_first a b i j ≡ false → comes_first b a j i ≡ true
clocks-total (Every p o) (Every q r) i j apart isnt = grind (arith, nat_tests)
clocks-total (Every p o) (On e) i j apart isnt = grind (arith, nat_tests)
clocks-total (On e) (Every q r) i j apart isnt = grind (arith, nat_tests)
clocks-total (On e) (On f) i j apart isnt = grind (arith, nat_tests)

first-trans : (d : Diagram) (i j k : ℕ) → is_first_of d i j ≡ true → is_first_of d j k ≡ true → is_first_of d i k ≡ true
first-trans d i j k one other = clocks-trans (task_at d i).clock (task_at d j).clock (task_at d k).clock i j k one other

pub first-apart : (d : Diagram) (i j : ℕ) → is_first_of d i j ≡ true → is_first_of d j i ≡ true → ⊥
first-apart d i j one other = clocks-apart (task_at d i).clock (task_at d j).clock i j one other

first-total : (d : Diagram) (i j : ℕ) → i ≢ j → is_first_of d i j ≡ false → is_first_of d j i ≡ true
first-total d i j apart isnt = clocks-total (task_at d i).clock (task_at d j).clock i j apart isnt

-- ---- the first of the free tasks among the first ones

abbrev IsFirstBelow : Diagram → List ℕ → ℕ → ℕ → Type 0
IsFirstBelow d placed count i = IsFree d placed i × (i < count) × ((j : ℕ) → j < count → IsFree d placed j → (j ≡ i) ⊎ IsTrue (is_first_of d i j))

abbrev pub FirstSoFar : Diagram → List ℕ → ℕ → Option ℕ → Type 0
FirstSoFar d placed count first = MatchOption first ((i : ℕ) → i < count → (Contains placed i → ⊥) → Waits d placed i) (IsFirstBelow d placed count)

-- a task that waits isn't free
waits_unfree : (d : Diagram) (placed : List ℕ) (i : ℕ) → ((Contains placed i → ⊥) → Waits d placed i) → IsFree d placed i → ⊥
waits_unfree d placed i waits free = let wait = waits free.unplaced in wait.2 (free.ready wait.0 wait.1)

pub first_waits : (d : Diagram) (placed : List ℕ) (count : ℕ) (first : Option ℕ) → FirstSoFar d placed count first → ((Contains placed count → ⊥) → Waits d placed count) → FirstSoFar d placed (count + 1) first
first_waits d placed count None none waits = below_more (λ i. (Contains placed i → ⊥) → Waits d placed i) count none waits
first_waits d placed count (Some i) (free, below, each) waits = (
  free,
  omega arith,
  below_more (λ j. IsFree d placed j → (j ≡ i) ⊎ IsTrue (is_first_of d i j)) count each (λ other. absurd (waits_unfree d placed count waits other)),
)

first_kept : (d : Diagram) (placed : List ℕ) (count i : ℕ) → FirstSoFar d placed count (Some i) → is_first_of d count i ≡ false → FirstSoFar d placed (count + 1) (Some i)
first_kept d placed count i (free, below, each) later = (
  free,
  omega arith,
  below_more (λ j. IsFree d placed j → (j ≡ i) ⊎ IsTrue (is_first_of d i j)) count each (λ other. inr (first-total d count i (λ same. absurd (omega arith)) later)),
)

first_one : (d : Diagram) (placed : List ℕ) (count : ℕ) → FirstSoFar d placed count None → IsFree d placed count → FirstSoFar d placed (count + 1) (Some count)
first_one d placed count none free = (
  free,
  omega arith,
  below_more (λ j. IsFree d placed j → (j ≡ count) ⊎ IsTrue (is_first_of d count j)) count (λ j below other. absurd (waits_unfree d placed j (none j below) other)) (λ other. inl refl),
)

first_new : (d : Diagram) (placed : List ℕ) (count i : ℕ) → FirstSoFar d placed count (Some i) → IsFree d placed count → is_first_of d count i ≡ true → FirstSoFar d placed (count + 1) (Some count)
first_new d placed count i (free, below, each) new before = (
  new,
  omega arith,
  below_more (λ j. IsFree d placed j → (j ≡ count) ⊎ IsTrue (is_first_of d count j)) count
      (λ j less other. elim (each j less other) [
        | inl same ↦ inr (subst (λ (k : ℕ). is_first_of d count k ≡ true) (sym same) before)
        | inr after ↦ inr (first-trans d count i j before after)
      ])
      (λ other. inl refl),
)

pub first_all : (d : Diagram) (placed : List ℕ) (first : Option ℕ) → FirstSoFar d placed (length d.tasks) first → MatchOption first (AllWait d placed) (IsFirstFree d placed)
first_all d placed None none = none
first_all d placed (Some i) (free, below, each) = record { free = free; first = λ j other. each j other.named other }

-- whether a task that isn't placed is free
pub free_tells : (d : Diagram) (writers : List (List ℕ)) (placed : List ℕ) (task : ℕ) (result : Bool) → AreWriters d writers → task < length d.tasks → (Contains placed task → ⊥)
    → MatchBool result (IsReady (slice_index_or writers task []) placed) (IsUnready (slice_index_or writers task []) placed)
    → MatchBool result (IsFree d placed task) ((Contains placed task → ⊥) → Waits d placed task)
free_tells d writers placed task true are below unplaced ready = record { named = below; unplaced = unplaced; ready = λ j writes. ready j ((are.each j task).1 writes) }
free_tells d writers placed task false are below unplaced (j, writes, missing) = λ _. (j, (are.each j task).0 writes, missing)

-- a free task that is before the first so far, if there is one, is the first now
pub first_changes : (d : Diagram) (placed : List ℕ) (count : ℕ) (first : Option ℕ) (result : Bool) → FirstSoFar d placed count first → IsFree d placed count
    → MatchOption first (result ≡ true) (λ other. result ≡ is_first_of d count other) → result ≡ true → FirstSoFar d placed (count + 1) (Some count)
first_changes d placed count None result none free tells is = first_one d placed count none free
first_changes d placed count (Some i) result first free tells is = first_new d placed count i first free (sym tells ∙ is)

-- one that isn't leaves it
pub first_stays : (d : Diagram) (placed : List ℕ) (count : ℕ) (first : Option ℕ) (result : Bool) → FirstSoFar d placed count first
    → MatchOption first (result ≡ true) (λ other. result ≡ is_first_of d count other) → result ≡ false → FirstSoFar d placed (count + 1) first
first_stays d placed count None result none tells isnt = absurd (false≢true (sym isnt ∙ tells))
first_stays d placed count (Some i) result first tells isnt = first_kept d placed count i first (sym tells ∙ isnt)

pub first_inside : (d : Diagram) (placed : List ℕ) (count bound : ℕ) (first : Option ℕ) → FirstSoFar d placed count first → count ≤ bound → IfSome first (λ i. i < bound)
first_inside d placed count bound None none few = tt
first_inside d placed count bound (Some i) (free, below, each) few = omega arith
