-- The rounds that are drawn.
use Rattle.std.specs.Prelude.{◌≡◌, ℕ, ◌+◌, ◌-◌, ◌<◌, ◌≤◌, nat_lt, if◌then◌else◌, List, length, All, slice_index_or}
use Rattle.drawn_numbers.specs.Draws.{drawn, after_draws}
use Rattle.word_rule.specs.declared.seats.SlotWords.{SlotWords}
use Rattle.party_turns.specs.Parties.{HasFinished}
use Rattle.party_turns.specs.declared.party.Party.{Party}
use Rattle.party_exec.specs.Jobs.{MakesTurns}

-- the place among so many at which a round begins
abbrev pub first_place : ℕ → ℕ → ℕ
first_place count draws = drawn count draws

-- how many turns a party makes
abbrev pub turn_count : ℕ → ℕ
turn_count draws = drawn 3 draws + 1

-- the party makes as many turns as the generator draws after so many draws
abbrev pub MakesDrawnTurns : SlotWords → ℕ → ℕ → Party → Party → Type 0
MakesDrawnTurns w words draws old new = MakesTurns w old (turn_count (after_draws words draws)) new

-- the parties from one place on and before another make their turns, the one at the first place with the first word; all
-- others stay
pub record MakeTurnsBetween (w : SlotWords) (from to draws : ℕ) (old new : List Party) : Type 0 where
  pub size : length new ≡ length old
  pub turns : (k : ℕ) (d : Party) → from ≤ k → k < to → MakesDrawnTurns w (k - from) draws (slice_index_or old k d) (slice_index_or new k d)
  pub earlier : (k : ℕ) (d : Party) → k < from → slice_index_or new k d ≡ slice_index_or old k d
  pub later : (k : ℕ) (d : Party) → to ≤ k → slice_index_or new k d ≡ slice_index_or old k d

-- how many parties of so many have their turns before the one at this place, if a round begins at the place first
abbrev pub turns_before : ℕ → ℕ → ℕ → ℕ
turns_before count first k = if nat_lt k first then count - first + k else k - first

-- A round: its first word draws the place at which it begins, and then each party draws its turns, from that place on to
-- the last one, and then from the first one on.
pub record IsDrawnRound (w : SlotWords) (draws : ℕ) (old new : List Party) : Type 0 where
  pub size : length new ≡ length old
  pub turns : (k : ℕ) (d : Party) → k < length old
      → MakesDrawnTurns w (1 + turns_before (length old) (first_place (length old) draws) k) draws (slice_index_or old k d) (slice_index_or new k d)

-- the generator after a round of so many parties
abbrev pub after_round : ℕ → ℕ → ℕ
after_round count draws = after_draws (count + 1) draws

-- rounds, each drawn from where the one before it left the generator; before each not all parties have finished
pub data HaveDrawnRounds (w : SlotWords) (draws : ℕ) (ps : List Party) : ℕ → List Party → Type 0 where
  no_round : HaveDrawnRounds w draws ps draws ps
  one_round : (now : ℕ) (qs rs : List Party) → HaveDrawnRounds w draws ps now qs → (All (HasFinished w) qs → ⊥) → IsDrawnRound w now qs rs
      → HaveDrawnRounds w draws ps (after_round (length qs) now) rs
