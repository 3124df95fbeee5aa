-- An occurrence's number: how many batches up to its own name the task.
use Rattle.std.proofs.Common.{◌≡◌, ℕ, zero, suc, ◌+◌, ◌<◌, All, List, [], ◌∷◌, length, map, take, get_or, arith, sym, ap, ◌∙◌, inl, inr}
use Rattle.std.specs.Prelude.{AllPairs}
use Rattle.std.specs.List.Sorted.{IsStrictlyIncreasing}
use Rattle.std.proofs.lemmas.Bool.{cases_Bool}
use Rattle.std.proofs.lemmas.List.{length-map}
use Rattle.std.proofs.lemmas.List.Kept.{AllPairs-from_increasing}
use Rattle.std.proofs.Math.ListN.{get_or-map}
use Rattle.dbp_plan.specs.declared.schedule.Batch.{Batch}
use Rattle.dbp_plan.specs.Times.{count-come, none-come, times_all}
use Rattle.dbp_plan.specs.Occurrences.{count_until, names, times_of}

-- each batch is before all later ones
pub record Rise (bs : List Batch) : Type 0 where
  pub pairs : AllPairs (λ a b. a.time < b.time) bs

pub rise : (bs : List Batch) → IsStrictlyIncreasing (map (λ b. b.time) bs) → Rise bs
rise bs rising = record {
  pairs = λ i j d less fits.
      let size : length (map (λ (b : Batch). b.time) bs) ≡ length bs = length-map bs (λ (b : Batch). b.time) in
      let pair = AllPairs-from_increasing (map (λ (b : Batch). b.time) bs) rising i j d.time less (omega arith) in
      rw (sym (get_or-map (λ (b : Batch). b.time) bs i d), sym (get_or-map (λ (b : Batch). b.time) bs j d)) pair;
}

pub rise-rest : (b : Batch) (bs : List Batch) → Rise (b ∷ bs) → Rise bs
rise-rest b bs up = record { pairs = λ i j d less fits. up.pairs (suc i) (suc j) d (omega arith) (omega arith) }

-- of a task's times as many have come at a batch as batches up to it name the task
come-by : (bs : List Batch) (i k : ℕ) (d : Batch) → Rise bs → k < length bs → count_until (times_of bs i) (get_or bs k d).time ≡ length (times_of (take (suc k) bs) i)
come-by [] i k d up fits = absurd (omega arith)
come-by (b ∷ bs) i zero d up fits =
    let later : All (λ (a : Batch). b.time < a.time) bs = λ j e less. up.pairs 0 (suc j) e (omega arith) (omega arith) in
    let none : count_until (times_of bs i) b.time ≡ 0 =
    none-come (times_of bs i) b.time (times_all (λ t. b.time < t) bs i later) in
    elim (cases_Bool (names i b)) [
      | inl is ↦ rw is (count-come b.time (times_of bs i) b.time (omega arith) ∙ omega (arith, none))
      | inr not ↦ rw not none
    ]
come-by (b ∷ bs) i (suc k) d up fits =
    let rest : count_until (times_of bs i) (get_or bs k d).time ≡ length (times_of (take (suc k) bs) i) = come-by bs i k d (rise-rest b bs up) (omega arith) in
    let less : b.time < (get_or bs k d).time = up.pairs 0 (suc k) d (omega arith) (omega arith) in
    elim (cases_Bool (names i b)) [
      | inl is ↦ rw is (count-come b.time (times_of bs i) (get_or bs k d).time (omega arith) ∙ omega (arith, rest))
      | inr not ↦ rw not rest
    ]

pub number-is : (bs : List Batch) (i k : ℕ) (d : Batch) → Rise bs → k < length bs → count_until (times_of bs i) (get_or bs k d).time ≡ length (times_of (take (k + 1) bs) i)
number-is bs i k d up fits =
    let next : suc k ≡ k + 1 = omega arith in
    come-by bs i k d up fits ∙ ap (λ n. length (times_of (take n bs) i)) next
