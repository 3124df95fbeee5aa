-- The value of an input from its own samples.
use Rattle.std.proofs.Common.{◌≡◌, ℕ, zero, suc, ℤ, ◌-◌, ◌<◌, ◌≤◌, Bool, true, false, List, [], ◌∷◌, length, take, get_or, slice_get, Some, refl, ◌∙◌, ap, arith, inl, inr}
use Rattle.std.specs.Prelude.{filter, map, nat_le, ◌==◌, AllPairs, IsTrue}
use Rattle.std.specs.List.{AllWithin}
use Rattle.std.specs.List.Sorted.{IsNonDecreasingBy, IsPartitionPoint, IsPartitionedBy}
use Rattle.std.specs.Fn.{Called, ComputesKey}
use denote.Ref.{Bor}
use denote.Param.Members.{Mut}
use Rattle.std.proofs.lemmas.List.Sorted.{IsPartitionPoint-from_clause, IsPartitionedBy-leb}
use Rattle.std.proofs.lemmas.Bool.{cases_Bool, cases_lt, le-leb, lt-leb}
use Rattle.std.proofs.lemmas.Bool.Decides.{nat_tests}
use Rattle.std.proofs.lemmas.List.Kept.{AllPairs-filter}
use Rattle.dbp_plan.specs.declared.schedule.Sample.{Sample}
use Rattle.dbp_plan.specs.declared.diagram.Input.{Input}
use Rattle.dbp_plan.specs.Samples.{input_value, is_before, is_given, last_value, own_samples, value_until}

-- if the items that pass stand first, a filter takes just them from the front
parted : {X : Type 0} (p : X → Bool) (xs : List X) (n : ℕ) → n ≤ length xs → AllWithin (λ x. p x ≡ true) xs 0 n → AllWithin (λ x. p x ≡ false) xs n (length xs) → filter p xs ≡ take n xs
parted p [] zero few front rest = refl
parted p [] (suc n) few front rest = absurd (omega arith)
parted p (x ∷ xs) zero few front rest =
    let fails : p x ≡ false = rest 0 x (omega arith) (omega arith) in
    rw fails (parted p xs 0 (omega arith) (λ k d above below. absurd (omega arith)) (λ k d above below. rest (suc k) d (omega arith) (omega arith)))
parted p (x ∷ xs) (suc n) few front rest =
    let passes : p x ≡ true = front 0 x (omega arith) (omega arith) in
    rw passes (ap (λ ys. x ∷ ys) (parted p xs n (omega arith) (λ k d above below. front (suc k) d (omega arith) (omega arith)) (λ k d above below. rest (suc k) d (omega arith) (omega arith))))

-- the last value of a front of the samples is that of its last sample
last_front : (first : ℤ) (samples : List Sample) (n : ℕ) (d : Sample) → n < length samples → last_value first (map (λ s. s.value) (take (suc n) samples)) ≡ (get_or samples n d).value
last_front first [] n d below = absurd (omega arith)
last_front first (x ∷ xs) zero d below = refl
last_front first (x ∷ xs) (suc n) d below = last_front x.value xs n d (omega arith)

-- so many samples are at or before the time
pub IsUntil : List Sample → ℕ → ℕ → Type 0
IsUntil samples time n = IsPartitionPoint (λ s. nat_le s.time time ≡ true) (λ s. nat_le s.time time ≡ false) samples n

-- with no sample at or before the time the value is the first one
pub value_none : (first : ℤ) (samples : List Sample) (time n : ℕ) → IsUntil samples time n → n ≡ 0 → value_until first samples time ≡ first
unfolding IsUntil
value_none first samples time n until none =
    let point = rw none at until in
    ap (λ given. last_value first (map (λ (s : Sample). s.value) given)) (parted (λ (s : Sample). nat_le s.time time) samples 0 (omega arith) point.0 point.1)

-- with some samples at or before the time the value is that of the last of them
pub value_last : (first : ℤ) (samples : List Sample) (time n : ℕ) (d : Sample) → n ≤ length samples → IsUntil samples time n → 0 < n → value_until first samples time ≡ (get_or samples (n - 1) d).value
unfolding IsUntil
value_last first samples time n d few until some =
    let one : n ≡ suc (n - 1) = omega arith in
    ap (λ given. last_value first (map (λ (s : Sample). s.value) given)) (parted (λ (s : Sample). nat_le s.time time) samples n few until.0 until.1 ∙ ap (λ k. take k samples) one)
    ∙ last_front first samples (n - 1) d (omega arith)

-- a search by halves for the first sample after the time finds how many are at or before it
pub until_point : {F : Type 0} {g : Mut F (Bor Sample × Unit {0}) Bool} {f : F} (samples : List Sample) (time n : ℕ)
    → ((q : Sample → Bool) → ComputesKey g q f → IsPartitionedBy q samples → IsPartitionPoint (λ y. q y ≡ true) (λ y. q y ≡ false) samples n)
    → IsNonDecreasingBy (λ s. s.time) samples → ((a : Bor Sample × Unit {0}) (r : Bool) (f' : F) → Called g f a r f' → (r ≡ nat_le a.0.now.time time) × (f' ≡ f)) → IsUntil samples time n
unfolding IsUntil
until_point samples time n clause rising calls = IsPartitionPoint-from_clause (λ (s : Sample). nat_le s.time time) samples n clause (IsPartitionedBy-leb (λ (s : Sample). s.time) samples time rising) calls

-- the samples of an input at or before a time are those of its own samples
pub given_until : (input time : ℕ) (samples : List Sample) → filter (is_given input time) samples ≡ filter (λ s. nat_le s.time time) (own_samples input samples)
given_until input time [] = refl
given_until input time (s ∷ ss) = elim (cases_Bool (s.input == input)) [
  | inl mine ↦ rw (mine, given_until input time ss) refl
  | inr other ↦ rw (other, given_until input time ss) refl
]

-- an input has the value that its own samples give it
pub input_until : (inputs : List Input) (samples : List Sample) (input time : ℕ) (i : Input) → slice_get inputs input ≡ Some i → value_until i.first (own_samples input samples) time ≡ input_value inputs samples input time
input_until inputs samples input time i at = rw (at, given_until input time samples) refl

-- the samples of one input rise with those of all
pub input_rising : (input : ℕ) (samples : List Sample) → AllPairs (λ a b. IsTrue (is_before a b)) samples → IsNonDecreasingBy (λ s. s.time) (own_samples input samples)
input_rising input samples pairs i j d less below = elim (cases_lt i j) [
  | inl before ↦
      let order : IsTrue (is_before (get_or (own_samples input samples) i d) (get_or (own_samples input samples) j d)) =
      AllPairs-filter (λ (a b : Sample). IsTrue (is_before a b)) (λ (s : Sample). s.input == input) samples pairs i j d before below in
      earlier (get_or (own_samples input samples) i d) (get_or (own_samples input samples) j d) order
  | inr last ↦ let same : i ≡ j = omega arith in rw same (omega arith)
]
  where
    earlier : (a b : Sample) → IsTrue (is_before a b) → a.time ≤ b.time
    earlier a b order = grind (arith, nat_tests)

-- the value at a time that is at or after so many samples, and before the others, is the last of theirs
pub value_in_front : (first : ℤ) (samples : List Sample) (time n : ℕ) → n ≤ length samples → ((k : ℕ) (d : Sample) → k < n → (get_or samples k d).time ≤ time)
    → ((k : ℕ) (d : Sample) → n ≤ k → k < length samples → time < (get_or samples k d).time) → value_until first samples time ≡ last_value first (map (λ s. s.value) (take n samples))
value_in_front first samples time n few front rest =
    ap (λ given. last_value first (map (λ (s : Sample). s.value) given)) (parted (λ (s : Sample). nat_le s.time time) samples n few
    (λ k d above below. le-leb (get_or samples k d).time time (front k d below))
    (λ k d above below. lt-leb (get_or samples k d).time time (rest k d above below)))
