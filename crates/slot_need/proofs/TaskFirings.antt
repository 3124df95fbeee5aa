-- At which firings each task fires, as numbers.
use Rattle.std.proofs.Common.{◌≡◌, ◌≢◌, ℕ, zero, suc, ◌+◌, ◌*◌, ◌<◌, ◌≤◌, true, false, List, [], ◌∷◌, ◌++◌, length, slice_get, Some, refl, sym, ap, ◌∙◌, inl, inr, arith}
use Rattle.std.specs.Prelude.{filter, slice_index, AllPairs, ◌==◌}
use Rattle.std.specs.List.{list_any, position, range_with_len}
use Rattle.std.proofs.Math.Nat.{mul-le-mul_right}
use Rattle.std.proofs.lemmas.Bool.{and_parts, both_ways, cases_Bool, eq-eqb, eqb-true, ltb-true}
use Rattle.std.proofs.lemmas.List.FromFn.{length-range_with_len, get_or-range_with_len}
use Rattle.std.proofs.lemmas.List.Elements.{All-filter, filter_passes}
use Rattle.std.proofs.lemmas.List.Kept.{AllPairs-filter}
use Rattle.std.proofs.lemmas.Option.{slice_get_within}
use Rattle.dbp_plan.specs.declared.diagram.Diagram.{Diagram}
use Rattle.dbp_plan.specs.ListItems.{all_place, pair_at}
use Rattle.dbp_plan.proofs.ListMaps.{filter-all, filter-none}
use Rattle.dia_check.proofs.PortLaws.{position-none}
use Rattle.slot_need.specs.declared.column.Firing.TheVariants.{Never, Each, Once}
use Rattle.slot_need.specs.Scenarios.{firing_at_place, firing_count, firing_of_reader, firing_of_task, fires_at, group_size, is_lower_reader, lower_readers}
use Rattle.slot_need.proofs.NeedFaults.{position-at}
use Rattle.slot_need.proofs.Ranges.{dropped-more, kept-more}

other-number : (a b : ℕ) → a ≢ b → (a == b) ≡ false
other-number a b apart = elim (cases_Bool (a == b)) [ inl is ↦ absurd (apart (eqb-true a b is)) | inr isnt ↦ isnt ]

-- ---- the numbers at which a firing is

pub each-number : (n : ℕ) → filter (fires_at Each) (range_with_len 0 n) ≡ range_with_len 0 n
each-number n = filter-all (fires_at Each) (range_with_len 0 n) (λ k d below. refl)

pub no-number : (n : ℕ) → filter (fires_at Never) (range_with_len 0 n) ≡ []
no-number n = filter-none (fires_at Never) (range_with_len 0 n) (λ k d below. refl)

not-yet : (at n : ℕ) → n ≤ at → filter (fires_at (Once at)) (range_with_len 0 n) ≡ []
not-yet at n before =
    filter-none (fires_at (Once at)) (range_with_len 0 n) (λ k d below.
    let inside : k < n = omega (arith, below, length-range_with_len 0 n) in
    other-number _ at (λ same. absurd (omega (arith, same, get_or-range_with_len 0 n k d inside))))

pub one-number : (at n : ℕ) → at < n → filter (fires_at (Once at)) (range_with_len 0 n) ≡ at ∷ []
one-number at zero below = absurd (omega arith)
one-number at (suc n) below =
    let next : n + 1 ≡ suc n = omega arith in
    ap (λ m. filter (fires_at (Once at)) (range_with_len 0 m)) (sym next) ∙ elim (cases_Bool (n == at)) [
      | inl is ↦
          let last : n ≡ at = eqb-true n at is in
          kept-more (fires_at (Once at)) n is ∙ ap (λ xs. xs ++ n ∷ []) (not-yet at n (omega (arith, last))) ∙ ap (λ k. k ∷ []) last
      | inr isnt ↦
          let other : n ≢ at = λ same. both_ways (n == at) isnt (eq-eqb n at same) in
          dropped-more (fires_at (Once at)) n isnt ∙ one-number at n (omega (arith, other))
    ]

-- ---- the readers

module _ (d : Diagram) (w : ℕ) where
  abbrev readers : List ℕ
  readers = lower_readers d w

  pub is-reader : (j i : ℕ) → slice_get readers j ≡ Some i → (is_lower_reader d w i ≡ true) × (i < length d.tasks)
  is-reader j i at = (
    all_place (λ k. is_lower_reader d w k ≡ true) readers j i (filter_passes (is_lower_reader d w) (range_with_len 0 (length d.tasks))) at,
    all_place (λ k. k < length d.tasks) readers j i
        (All-filter (is_lower_reader d w) (λ k. k < length d.tasks) (range_with_len 0 (length d.tasks))
        (λ k e below. let inside : k < length d.tasks = omega (arith, below, length-range_with_len 0 (length d.tasks)) in omega (arith, inside, get_or-range_with_len 0 (length d.tasks) k e inside))) at,
  )

  -- they rise
  pub readers-rise : AllPairs (λ a b. a < b) readers
  readers-rise = AllPairs-filter (λ a b. a < b) (is_lower_reader d w) (range_with_len 0 (length d.tasks)) (λ k l e less below.
      let inside : l < length d.tasks = omega (arith, below, length-range_with_len 0 (length d.tasks)) in
      omega (arith, less, get_or-range_with_len 0 (length d.tasks) k e (omega (arith, less, inside)), get_or-range_with_len 0 (length d.tasks) l e inside))

  pub not-itself : (i : ℕ) → is_lower_reader d w i ≡ true → i ≢ w
  not-itself i is same =
      let less : slice_index d.ranks w < slice_index d.ranks i = ltb-true _ _ (and_parts _ _ is).0 in
      absurd (omega (arith, less, ap (slice_index d.ranks) same))

  pub fires-each : firing_of_task d w w ≡ Each
  fires-each = rw (eq-eqb w w refl) refl

  pub reader-fires : (j i : ℕ) → slice_get readers j ≡ Some i → firing_of_task d w i ≡ Once (firing_of_reader d w j)
  reader-fires j i at =
      let other : (i == w) ≡ false = other-number i w (not-itself i (is-reader j i at).0) in
      let place : position (λ r. r == i) readers ≡ Some j =
      position-at (λ r. r == i) readers j i at (eq-eqb i i refl)
      (λ k r less at_r. other-number r i (λ same. absurd (omega (arith, same, pair_at (λ a b. a < b) readers k j r i readers-rise less at_r at)))) in
      rw other (ap (firing_at_place d w) place)

  pub inside-scenario : (j i : ℕ) → slice_get readers j ≡ Some i → firing_of_reader d w j < firing_count d w
  inside-scenario j i at =
      let below : j < length readers = slice_get_within readers j i at in
      let most : (j + 1) * group_size d w ≤ (length readers + 1) * group_size d w = mul-le-mul_right (group_size d w) (omega (arith, below)) in
      let some : 1 * group_size d w ≤ (j + 1) * group_size d w = mul-le-mul_right (group_size d w) (omega arith) in
      omega (arith, most, some)

  none-in : (xs : List ℕ) (i : ℕ) → ((j : ℕ) → slice_get xs j ≢ Some i) → list_any (λ r. r == i) xs ≡ false
  none-in [] i others = refl
  none-in (x ∷ xs) i others =
      let first : (x == i) ≡ false = other-number x i (λ same. others 0 (ap Some same)) in
      rw first (none-in xs i (λ j. others (suc j)))

  pub never-fires : (i : ℕ) → i ≢ w → ((j : ℕ) → slice_get readers j ≢ Some i) → firing_of_task d w i ≡ Never
  never-fires i apart others =
      rw (other-number i w apart) (ap (firing_at_place d w) (position-none (λ r. r == i) readers (none-in readers i others)))
