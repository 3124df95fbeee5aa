-- What a crew makes of a party: a job of one round, and so many turns. And the rounds of a crew of threads.
use Rattle.std.specs.Prelude.{◌≡◌, ◌⊎◌, ℕ, ◌+◌, ◌<◌, List, length, All, slice_index_or}
use Rattle.word_rule.specs.declared.seats.SlotWords.{SlotWords}
use Rattle.party_turns.specs.Counts.{IsCounted}
use Rattle.party_turns.specs.Parties.{HasFinished, IsTurn}
use Rattle.party_turns.specs.declared.party.Party.{Party}
use Rattle.party_turns.specs.declared.party.Party.TheVariants.{Releaser, Task}
use Rattle.party_turns.specs.declared.turn.Turn.{Turn}
use Rattle.party_turns.specs.declared.turn.Turn.TheVariants.{Idle}

-- ---- what a pace hears

-- the number of the task; of the releaser the number of tasks
abbrev pub number_of : SlotWords → Party → ℕ
number_of w (Releaser s) = length w.plan.diagram.tasks
number_of w (Task s) = s.seat.task

-- a turn that was counted first
pub record IsCountedTurn (w : SlotWords) (old new : Party) (t : Turn) : Type 0 where
  pub counted : Party
  pub count : IsCounted old counted
  pub turn : IsTurn w counted new t

-- ---- a job of one round

-- how many turns in a row were idle, after this one
abbrev pub idle_after : ℕ → Turn → ℕ
idle_after idle (Idle cause) = idle + 1
idle_after idle other = 0

-- A job has made so many turns of a party, of which the last ones, so many, were idle. Before each the party hadn't
-- finished, and it had made fewer than 4,096 and fewer than 64 idle ones in a row.
pub data HasWorked (w : SlotWords) (p : Party) : ℕ → ℕ → Party → Type 0 where
  at_first : HasWorked w p 0 0 p
  after_one : (made idle : ℕ) (q r : Party) (t : Turn) → HasWorked w p made idle q → made < 4096 → idle < 64 → (HasFinished w q → ⊥)
      → IsCountedTurn w q r t → HasWorked w p (made + 1) (idle_after idle t) r

-- it stops if the party has finished, with the last of 4,096 turns, or with the last of 64 idle ones in a row
pub record IsJob (w : SlotWords) (p q : Party) : Type 0 where
  pub made : ℕ
  pub idle : ℕ
  pub turns : HasWorked w p made idle q
  pub stops : HasFinished w q ⊎ ((made ≡ 4096) ⊎ (idle ≡ 64))

-- the party's next job: it rests once it has finished
abbrev pub IsNextJob : SlotWords → Party → Party → Type 0
IsNextJob w p q = (HasFinished w p × (q ≡ p)) ⊎ ((HasFinished w p → ⊥) × IsJob w p q)

-- so many next jobs in a row
pub data MakesJobs (w : SlotWords) (p : Party) : ℕ → Party → Type 0 where
  no_job : MakesJobs w p 0 p
  one_job : (made : ℕ) (q r : Party) → MakesJobs w p made q → IsNextJob w q r → MakesJobs w p (made + 1) r

-- so many of each party
pub record MakeJobs (w : SlotWords) (ps : List Party) (made : ℕ) (qs : List Party) : Type 0 where
  pub size : length qs ≡ length ps
  pub jobs : (k : ℕ) (d : Party) → k < length ps → MakesJobs w (slice_index_or ps k d) made (slice_index_or qs k d)

-- a job of each party
abbrev pub AreJobs : SlotWords → List Party → List Party → Type 0
AreJobs w ps qs = (k : ℕ) (d : Party) → k < length ps → IsJob w (slice_index_or ps k d) (slice_index_or qs k d)

-- ---- rounds

-- a round: a job of each party
pub record IsRound (w : SlotWords) (ps qs : List Party) : Type 0 where
  pub size : length qs ≡ length ps
  pub jobs : AreJobs w ps qs

-- the parties have made rounds; before each not all of them had finished
pub data HaveRounds (w : SlotWords) (ps : List Party) : List Party → Type 0 where
  no_round : HaveRounds w ps ps
  one_round : (qs rs : List Party) → HaveRounds w ps qs → (All (HasFinished w) qs → ⊥) → IsRound w qs rs → HaveRounds w ps rs

-- ---- so many turns

pub data MakesTurns (w : SlotWords) (p : Party) : ℕ → Party → Type 0 where
  no_turn : MakesTurns w p 0 p
  one_turn : (made : ℕ) (q r : Party) (t : Turn) → MakesTurns w p made q → IsTurn w q r t → MakesTurns w p (made + 1) r
