-- What is said of a party, and of the parties of one table.
use Rattle.std.specs.Prelude.{◌≡◌, ℕ, zero, suc, ◌+◌, List, length, All, slice_get, Some}
use Rattle.dbp_plan.specs.Lookups.{declared_task}
use Rattle.dbp_plan.specs.Occurrences.{times_of}
use Rattle.dbp_rules.specs.Lookups.{no_task_wiring}
use Rattle.dbp_rules.specs.Start as start
use Rattle.word_rule.specs.FirstSeats.{IsFirstReleaser, IsFirstTask}
use Rattle.word_rule.specs.Seats.{ReleaserSits, TaskSits, releaser_steps, task_steps}
use Rattle.word_rule.specs.declared.seats.SlotWords.{SlotWords}
use Rattle.party_turns.specs.Rows.{first_and_zeros}
use Rattle.party_turns.specs.Turns.{IsReleaserTurn, IsTaskTurn, ReleaserHasFinished, TaskHasFinished}
use Rattle.party_turns.specs.declared.party.Party.{Party}
use Rattle.party_turns.specs.declared.party.Party.TheVariants.{Releaser, Task}
use Rattle.party_turns.specs.declared.releaser_party.ReleaserParty.{ReleaserParty}
use Rattle.party_turns.specs.declared.task_party.TaskParty.{TaskParty}
use Rattle.party_turns.specs.declared.turn.Turn.{Turn}

-- the party belongs to the table
abbrev pub Belongs : SlotWords → Party → Type 0
Belongs w (Releaser s) = ReleaserSits w s.seat
Belongs w (Task s) = TaskSits w s.seat

-- how many atomic steps it has made
abbrev pub steps : Party → ℕ
steps (Releaser s) = releaser_steps s.seat
steps (Task s) = task_steps s.seat

-- it has no more steps to make
abbrev pub HasFinished : SlotWords → Party → Type 0
HasFinished w (Releaser s) = ReleaserHasFinished w s
HasFinished w (Task s) = TaskHasFinished w s

-- one step of the party, or none if it has finished
abbrev pub IsTurn : SlotWords → Party → Party → Turn → Type 0
IsTurn w (Releaser old) (Releaser new) turn = IsReleaserTurn w old new turn
IsTurn w (Task old) (Task new) turn = IsTaskTurn w old new turn
IsTurn w _ _ turn = ⊥

-- ---- all parties of a table

-- the releaser's party before its first step: no turn of it is counted
pub record IsFreshReleaser (w : SlotWords) (s : ReleaserParty) : Type 0 where
  pub seat : IsFirstReleaser w s.seat
  pub turns : s.turns ≡ 0

-- a task's party before its first step: it has the environment and the row of the first values
pub record IsFreshTask (w : SlotWords) (i : ℕ) (s : TaskParty) : Type 0 where
  pub seat : IsFirstTask w i s.seat
  pub turns : s.turns ≡ 0
  pub work : s.work ≡ (start.start_task no_task_wiring (declared_task w.plan i)).work
  pub rows : s.rows ≡ first_and_zeros (declared_task w.plan i) (length (times_of w.plan.batches i))

-- the party at the place k before its first step: the releaser's, or that of task k - 1
abbrev pub IsFresh : SlotWords → ℕ → Party → Type 0
IsFresh w zero (Releaser s) = IsFreshReleaser w s
IsFresh w (suc i) (Task s) = IsFreshTask w i s
IsFresh w _ _ = ⊥

pub record AreFresh (w : SlotWords) (ps : List Party) : Type 0 where
  pub size : length ps ≡ length w.plan.diagram.tasks + 1
  pub each : (k : ℕ) (p : Party) → slice_get ps k ≡ Some p → IsFresh w k p

-- the releaser's party before its first step, and no other
pub record IsReleaserAlone (w : SlotWords) (ps : List Party) : Type 0 where
  pub size : length ps ≡ 1
  pub each : (k : ℕ) (p : Party) → slice_get ps k ≡ Some p → IsFresh w k p

-- the party at the place k
abbrev pub IsPartyAt : SlotWords → ℕ → Party → Type 0
IsPartyAt w zero (Releaser s) = ReleaserSits w s.seat
IsPartyAt w (suc i) (Task s) = TaskSits w s.seat × (s.seat.task ≡ i)
IsPartyAt w _ _ = ⊥

-- the releaser's party and then one of each task, in order
pub record AreParties (w : SlotWords) (ps : List Party) : Type 0 where
  pub size : length ps ≡ length w.plan.diagram.tasks + 1
  pub each : (k : ℕ) (p : Party) → slice_get ps k ≡ Some p → IsPartyAt w k p

-- all of them have finished
pub record HaveFinished (w : SlotWords) (ps : List Party) : Type 0 where
  pub parties : AreParties w ps
  pub finished : All (HasFinished w) ps
