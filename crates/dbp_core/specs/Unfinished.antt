-- The ranks that have an unfinished instance, as bits of a number.
use Rattle.std.specs.Prelude.{◌≡◌, ◌≢◌, ℕ, ◌<◌, ◌==◌, nat_lt, Bool, length, Option, Some, None}
use Rattle.std.specs.Int.{bit_at}
use Rattle.dbp_core.specs.declared.rank_mask.RankMask.{RankMask}
use Rattle.dbp_rules.specs.Lookups.{task, task_entry, wired_task}
use Rattle.dbp_rules.specs.declared.state.State.{State}
use Rattle.dbp_rules.specs.declared.step.Step.{Step}
use Rattle.dbp_rules.specs.declared.step.Step.TheVariants.{Aim, End}
use Rattle.dbp_rules.specs.declared.wiring.Wiring.{Wiring}

-- the mask has the rank
abbrev pub has_rank : RankMask → ℕ → Bool
has_rank m r = bit_at m.bits r == 1

-- the task has an aimed instance that hasn't ended
abbrev pub is_unfinished : State → ℕ → Bool
is_unfinished s i = nat_lt (task s i).part.ended (task_entry s i).aimed

-- the mask has the rank of a task exactly if the task has such an instance
abbrev pub HasUnfinished : Wiring → State → RankMask → Type 0
HasUnfinished w s m = (i : ℕ) → i < length w.tasks → has_rank m (wired_task w i).rank ≡ is_unfinished s i

-- the ranks of the tasks are bits of a mask, each of one task
pub record HasRanks (w : Wiring) : Type 0 where
  pub few : (i : ℕ) → i < length w.tasks → (wired_task w i).rank < 32
  pub apart : (i j : ℕ) → i < length w.tasks → j < length w.tasks → i ≢ j → (wired_task w i).rank ≢ (wired_task w j).rank

-- the task that the step aims or ends, if it does
abbrev pub recounted_task : Step → Option ℕ
recounted_task (Aim i slot) = Some i
recounted_task (End i) = Some i
recounted_task _ = None
