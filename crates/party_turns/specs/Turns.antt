-- What a turn of a party makes of it, and what it returns.
use Rattle.std.specs.Prelude.{◌≡◌, ◌≢◌, ℕ, ◌<◌, nat_lt, Bool, true, false, length, slice_index_or, Some, None}
use Rattle.dbp_plan.specs.Lookups.{declared_task, no_read}
use Rattle.dbp_rules.specs.PartyRules.{Loaded, is_opened_by, is_stamp_of, loaded_number, read_order_in, task_after, task_refusal, turn_at}
use Rattle.dbp_rules.specs.Lookups.{entry_in, link, wired_task}
use Rattle.dbp_rules.specs.SharedWords.{made_by}
use Rattle.dbp_rules.specs.declared.parts.ReleaserPart.{ReleaserPart}
use Rattle.dbp_rules.specs.declared.parts.TaskPart.{TaskPart}
use Rattle.dbp_rules.specs.declared.step.Step.{Step}
use Rattle.dbp_rules.specs.declared.step.Step.TheVariants as step
use Rattle.dbp_rules.specs.declared.wiring.TaskWiring.{TaskWiring}
use Rattle.release_book.specs.NextStep.{IsNextStep, MayHear, part_after}
use Rattle.release_book.specs.declared.release_step.ReleaseStep.{ReleaseStep}
use Rattle.release_book.specs.declared.release_step.ReleaseStep.TheVariants as release
use Rattle.word_rule.specs.Seats.{ReleaserSteps, TaskSteps}
use Rattle.word_rule.specs.declared.seats.SlotWords.{SlotWords}
use Rattle.party_turns.specs.declared.releaser_party.ReleaserParty.{ReleaserParty}
use Rattle.party_turns.specs.declared.task_party.TaskParty.{TaskParty}
use Rattle.party_turns.specs.declared.turn.Cause.TheVariants.{NotOpened, WriterNotDone, LastNotEnded}
use Rattle.party_turns.specs.declared.turn.Turn.{Turn}
use Rattle.party_turns.specs.declared.turn.Turn.TheVariants.{Stepped, Idle, Finished}

-- ---- of a task

abbrev pub stepped_if : Bool → Turn → Turn
stepped_if true other = Stepped
stepped_if false other = other

-- it waits if it loaded a gate that isn't open for its next instance, or a stamp that isn't that of the ordered row
abbrev pub task_answer : TaskWiring → TaskPart → Step → Loaded → Turn
task_answer w t (step.Start i) l = stepped_if (is_opened_by t (loaded_number l)) (Idle NotOpened)
task_answer w t (step.Look i r) l = stepped_if (is_stamp_of (read_order_in w t (turn_at t.place)) (loaded_number l)) (Idle WriterNotDone)
task_answer w t e l = Stepped

-- the delay of the link of this read of the task
abbrev pub delay_of_read : SlotWords → ℕ → ℕ → ℕ
delay_of_read w i r = (link w.wiring (slice_index_or (declared_task w.plan i).reads r no_read).link).delay

-- one step of its own, which its part allows; a look over a delayed link doesn't wait
pub record TaskTurn (w : SlotWords) (old new : TaskParty) (turn : Turn) : Type 0 where
  pub made : Step
  pub loaded : Loaded
  pub own : made_by made ≡ Some old.seat.task
  pub seat : TaskSteps old.seat new.seat
  pub turns : new.turns ≡ old.turns
  pub allowed : task_refusal (wired_task w.wiring old.seat.task) old.seat.part made ≡ None
  pub part : new.seat.part ≡ task_after (wired_task w.wiring old.seat.task) old.seat.part made loaded
  pub answer : turn ≡ task_answer (wired_task w.wiring old.seat.task) old.seat.part made loaded
  pub delayed : (r : ℕ) → made ≡ step.Look old.seat.task r → 0 < delay_of_read w old.seat.task r → turn ≡ Stepped

-- ---- of the releaser

abbrev pub idle_if : Bool → Turn
idle_if true = Idle LastNotEnded
idle_if false = Stepped

-- it waits if it saw a task of which fewer instances have ended than are aimed
abbrev pub releaser_answer : ReleaserPart → ReleaseStep → Turn
releaser_answer new (release.Seen i) = idle_if (nat_lt (entry_in new i).known (entry_in new i).aimed)
releaser_answer new e = Stepped

-- the step of its book
pub record ReleaserTurn (w : SlotWords) (old new : ReleaserParty) (turn : Turn) : Type 0 where
  pub made : ReleaseStep
  pub heard : ℕ
  pub seat : ReleaserSteps old.seat new.seat
  pub turns : new.turns ≡ old.turns
  pub some : made ≢ release.Finished
  pub next : IsNextStep w.wiring old.seat.part made
  pub may : MayHear old.seat.part made heard
  pub part : new.seat.part ≡ part_after w.wiring old.seat.part made heard
  pub answer : turn ≡ releaser_answer new.seat.part made

-- ---- of both

-- a task has finished if all its occurrences have ended, the releaser if its book has no next step
abbrev pub TaskHasFinished : SlotWords → TaskParty → Type 0
TaskHasFinished w s = s.seat.part.ended ≡ length (wired_task w.wiring s.seat.task).times

abbrev pub ReleaserHasFinished : SlotWords → ReleaserParty → Type 0
ReleaserHasFinished w s = IsNextStep w.wiring s.seat.part release.Finished

abbrev pub IsTaskTurn : SlotWords → TaskParty → TaskParty → Turn → Type 0
IsTaskTurn w old new Finished = new ≡ old
IsTaskTurn w old new Stepped = TaskTurn w old new Stepped
IsTaskTurn w old new (Idle cause) = TaskTurn w old new (Idle cause)

abbrev pub IsReleaserTurn : SlotWords → ReleaserParty → ReleaserParty → Turn → Type 0
IsReleaserTurn w old new Finished = new ≡ old
IsReleaserTurn w old new Stepped = ReleaserTurn w old new Stepped
IsReleaserTurn w old new (Idle cause) = ReleaserTurn w old new (Idle cause)
