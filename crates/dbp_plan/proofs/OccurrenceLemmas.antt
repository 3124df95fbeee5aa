-- The time of a batch among the times of a task.
use Rattle.std.proofs.Common.{◌≡◌, ℕ, zero, suc, ◌<◌, true, List, [], ◌∷◌, length, take, get_or, slice_get, Some, refl, arith, inl, inr}
use Rattle.std.proofs.lemmas.Bool.{cases_Bool}
use Rattle.dbp_plan.specs.declared.schedule.Batch.{Batch}
use Rattle.dbp_plan.specs.Occurrences.{names, times_of}

-- it comes after those of the batches before it
pub time_here : (bs : List Batch) (i task : ℕ) (d : Batch) → i < length bs → names task (get_or bs i d) ≡ true → slice_get (times_of bs task) (length (times_of (take i bs) task)) ≡ Some (get_or bs i d).time
time_here [] i task d below named = absurd (omega arith)
time_here (b ∷ bs) zero task d below named = rw named refl
time_here (b ∷ bs) (suc i) task d below named =
    let rest = time_here bs i task d (omega arith) named in
    elim (cases_Bool (names task b)) [ inl is_named ↦ rw is_named rest | inr not_named ↦ rw not_named rest ]
