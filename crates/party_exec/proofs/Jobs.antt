-- The turns of a job.
use Rattle.std.proofs.Common.{◌≡◌, ℕ, ◌+◌, ◌<◌, ◌≤◌, sym, subst, arith}
use Rattle.word_rule.specs.declared.seats.SlotWords.{SlotWords}
use Rattle.party_turns.specs.Parties.{HasFinished}
use Rattle.party_turns.specs.declared.party.Party.{Party}
use Rattle.party_turns.specs.declared.turn.Turn.{Turn}
use Rattle.party_turns.specs.declared.turn.Turn.TheVariants.{Finished, Idle, Stepped}
use Rattle.party_exec.specs.Jobs.{IsCountedTurn, HasWorked, after_one, idle_after}

pub idle_most : (idle : ℕ) (t : Turn) → idle < 64 → idle_after idle t ≤ 64
idle_most idle Stepped few = omega arith
idle_most idle (Idle cause) few = omega (arith, few)
idle_most idle Finished few = omega arith

pub worked_further : (w : SlotWords) (p : Party) (made idle now : ℕ) (q r : Party) (t : Turn) → HasWorked w p made idle q → made < 4096 → idle < 64 → (HasFinished w q → ⊥)
    → IsCountedTurn w q r t → now ≡ idle_after idle t → HasWorked w p (made + 1) now r
worked_further w p made idle now q r t before few quiet more turn is = subst (λ (n : ℕ). HasWorked w p (made + 1) n r) (sym is) (after_one made idle q r t before few quiet more turn)
