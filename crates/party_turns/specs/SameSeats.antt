-- Parties that stay at their places.
use Rattle.std.specs.Prelude.{◌≡◌, ℕ, ◌<◌, List, length, slice_get, slice_index_or, Some}
use Rattle.word_rule.specs.declared.seats.ReleaserSeat.{ReleaserSeat}
use Rattle.word_rule.specs.declared.seats.TaskSeat.{TaskSeat}
use Rattle.party_turns.specs.declared.party.Party.{Party}
use Rattle.party_turns.specs.declared.party.Party.TheVariants.{Releaser, Task}

-- the same seat of the same words
pub record IsSameReleaserSeat (old new : ReleaserSeat) : Type 0 where
  pub table : new.seat.table_id ≡ old.seat.table_id
  pub seat : new.seat.id ≡ old.seat.id
  pub plan : new.seat.me.0.plan ≡ old.seat.me.0.plan

pub record IsSameTaskSeat (old new : TaskSeat) : Type 0 where
  pub table : new.seat.table_id ≡ old.seat.table_id
  pub seat : new.seat.id ≡ old.seat.id
  pub plan : new.seat.me.0.plan ≡ old.seat.me.0.plan
  pub task : new.task ≡ old.task

-- the releaser's party, or that of the same task, with the same seat
abbrev pub IsSameParty : Party → Party → Type 0
IsSameParty (Releaser old) (Releaser new) = IsSameReleaserSeat old.seat new.seat
IsSameParty (Task old) (Task new) = IsSameTaskSeat old.seat new.seat
IsSameParty _ _ = ⊥

-- the party at each place is still that of the same seat, by places that have one
abbrev pub AreSame : List Party → List Party → Type 0
AreSame old new = (k : ℕ) (d : Party) → k < length old → IsSameParty (slice_index_or old k d) (slice_index_or new k d)

-- the party at each place is still that of the same seat
pub record AreSameParties (old new : List Party) : Type 0 where
  pub size : length new ≡ length old
  pub each : (k : ℕ) (p q : Party) → slice_get old k ≡ Some p → slice_get new k ≡ Some q → IsSameParty p q
