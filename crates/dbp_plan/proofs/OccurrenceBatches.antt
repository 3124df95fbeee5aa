-- The batch of each occurrence of a task.
use Rattle.std.proofs.Common.{◌≡◌, ℕ, zero, suc, ◌+◌, ◌-◌, ◌<◌, true, false, inl, inr, List, [], ◌∷◌, length, take, get_or, slice_get, Some, refl, ap, ◌∙◌, arith}
use Rattle.std.proofs.lemmas.Bool.{cases_Bool}
use Rattle.std.proofs.lemmas.List.{get_or_default}
use Rattle.std.proofs.lemmas.Option.{get_or_from_slice_get}
use Rattle.dbp_plan.specs.declared.schedule.Batch.{Batch}
use Rattle.dbp_plan.specs.Occurrences.{names, time_of, times_of}
use Rattle.dbp_plan.proofs.OccurrenceLemmas.{time_here}

-- the task's occurrence with this number, from 0, is that of the batch with the number k
pub record IsOfBatch (bs : List Batch) (i n k : ℕ) : Type 0 where
  pub within : k < length bs
  pub named : (d : Batch) → names i (get_or bs k d) ≡ true
  pub number : length (times_of (take k bs) i) ≡ n
  pub time : (d : Batch) → slice_get (times_of bs i) n ≡ Some (get_or bs k d).time

named_shift : (b : Batch) (bs : List Batch) (i n k : ℕ) → names i b ≡ true → IsOfBatch bs i n k → IsOfBatch (b ∷ bs) i (suc n) (suc k)
named_shift b bs i n k is at = record {
  within = omega (arith, at.within);
  named = at.named;
  number = rw is (ap suc at.number);
  time = λ d. rw is (at.time d);
}

other_shift : (b : Batch) (bs : List Batch) (i n k : ℕ) → names i b ≡ false → IsOfBatch bs i n k → IsOfBatch (b ∷ bs) i n (suc k)
other_shift b bs i n k isnt at = record {
  within = omega (arith, at.within);
  named = at.named;
  number = rw isnt at.number;
  time = λ d. rw isnt (at.time d);
}

-- each occurrence has its batch
pub batch_of : (bs : List Batch) (i n : ℕ) → n < length (times_of bs i) → (k : ℕ) × IsOfBatch bs i n k
batch_of [] i n below = absurd (omega (arith, below))
batch_of (b ∷ bs) i n below =
    let rest : (m : ℕ) → m < length (times_of bs i) → (k : ℕ) × IsOfBatch bs i m k = batch_of bs i in
    elim (cases_Bool (names i b)) [
      | inl is ↦ named n is rest (rw is at below)
      | inr isnt ↦ let found = rest n (rw isnt at below) in (suc found.0, other_shift b bs i n found.0 isnt found.1)
    ]
  where
    named : (m : ℕ) → names i b ≡ true → ((j : ℕ) → j < length (times_of bs i) → (k : ℕ) × IsOfBatch bs i j k) → m < length (b.time ∷ times_of bs i) → (k : ℕ) × IsOfBatch (b ∷ bs) i m k
    named zero is rest less = (0, record { within = omega arith; named = λ d. is; number = refl; time = λ d. rw is refl })
    named (suc m) is rest less = let found = rest m (omega (arith, less)) in (suc found.0, named_shift b bs i m found.0 is found.1)

-- and each batch that names the task has an occurrence of it
pub occurrence_of : (bs : List Batch) (i k : ℕ) → k < length bs → ((d : Batch) → names i (get_or bs k d) ≡ true) → IsOfBatch bs i (length (times_of (take k bs) i)) k
occurrence_of bs i k below named = record {
  within = below;
  named = named;
  number = refl;
  time = λ d. time_here bs k i d below (named d);
}

-- its time is that of the batch
pub batch-time : {bs : List Batch} {i n k : ℕ} → IsOfBatch bs i n k → (d : Batch) → get_or (times_of bs i) n 0 ≡ (get_or bs k d).time
batch-time {bs} {i} {n} {k} at d = get_or_from_slice_get (times_of bs i) n (get_or bs k d).time 0 (at.time d)

-- so a batch that names the task has the time that comes after those of the batches before it
pub named-time : (bs : List Batch) (i k : ℕ) (d : Batch) → k < length bs → names i (get_or bs k d) ≡ true → get_or (times_of bs i) (length (times_of (take k bs) i)) 0 ≡ (get_or bs k d).time
named-time bs i k d below named = batch-time (occurrence_of bs i k below (λ e. ap (names i) (get_or_default bs k e d below) ∙ named)) d

-- the time of the instance, which is counted from 1
pub time_of-batch : (bs : List Batch) (i n k : ℕ) (d : Batch) → IsOfBatch bs i n k → time_of bs i (n + 1) ≡ (get_or bs k d).time
time_of-batch bs i n k d at =
    let place : n + 1 - 1 ≡ n = omega arith in
    ap (λ m. get_or (times_of bs i) m 0) place ∙ batch-time at d
