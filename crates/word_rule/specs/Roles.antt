-- The rules of the protocol as a seat's party sees them, from its own part alone.
use Rattle.std.specs.Prelude.{◌≡◌, ℕ, ℤ, pos, ◌+◌, ◌<◌, true, FitsSigned, slice_index_or, List, Option, Some, None}
use Rattle.std.specs.Int.{w64}
use Rattle.dbp_plan.specs.declared.plan.Plan.{Plan}
use Rattle.dbp_plan.specs.Lookups.{declared_task, no_read}
use Rattle.dbp_slots.specs.TableWords.{TableWord}
use Rattle.sync_meaning.specs.SomeMeaning.{meaning_of}
use Rattle.dbp_plan.specs.Table.{table_row}
use Rattle.dbp_rules.specs.LoadedWords.{loaded_in, loaded_word, number_of_releaser, number_of_task}
use Rattle.dbp_rules.specs.PartyRules.{Loaded, is_stamp_of, loaded_number, read_order_in, releaser_after, releaser_refusal, task_after, task_refusal, turn_at}
use Rattle.dbp_rules.specs.PartyShapes.{ReleaserLoads, ReleaserShape, TaskLoads, TaskPartShape}
use Rattle.dbp_rules.specs.Lookups.{link, no_task, wired_task}
use Rattle.dbp_rules.specs.Promises.{IsMeant}
use Rattle.dbp_rules.specs.SharedWords.{stored_in}
use Rattle.dbp_rules.specs.Wired.{wiring_of}
use Rattle.dbp_rules.specs.declared.parts.TaskPart.{TaskPart}
use Rattle.dbp_rules.specs.declared.step.Count.TheVariants.{All}
use Rattle.dbp_rules.specs.declared.step.Illegal.{Illegal}
use Rattle.dbp_rules.specs.declared.step.Step.{Step}
use Rattle.dbp_rules.specs.declared.step.Step.TheVariants.{Look, Take, Put}
use Rattle.dbp_rules.specs.declared.wiring.Wiring.{Wiring}
use Rattle.word_rule.specs.declared.views.Role.{Role}
use Rattle.word_rule.specs.declared.views.Role.TheVariants.{Releaser, Task}

-- the wiring of a run
abbrev pub run_wiring : Plan → Wiring
run_wiring p = wiring_of p All

-- the row of the task's instance, by the meaning of the plan; row 0 has the first values of its outs
abbrev pub meaning_row : Plan → ℕ → ℕ → List ℤ
meaning_row p i n = table_row (meaning_of p) i n

-- the task whose seat it is; none of the releaser's
abbrev pub task_of : Role → Option ℕ
task_of (Releaser r seats) = None
task_of (Task i t) = Some i

-- its part; of the releaser's seat that of no task
abbrev pub task_part_of : Role → TaskPart
task_part_of (Releaser r seats) = no_task.part
task_part_of (Task i t) = t

-- why its part doesn't allow the step, if so
abbrev pub role_refusal : Wiring → Role → Step → Option Illegal
role_refusal w (Releaser r seats) e = releaser_refusal w r e
role_refusal w (Task i t) e = task_refusal (wired_task w i) t e

-- what an allowed step makes of it, from what it loads
abbrev pub role_after : Wiring → Role → Step → Loaded → Role
role_after w (Releaser r seats) e l = Releaser (releaser_after w r e l) seats
role_after w (Task i t) e l = Task i (task_after (wired_task w i) t e l)

-- the word that the step loads, and the one that it stores, if there is one
abbrev pub word_loaded : Wiring → Role → Step → Option TableWord
word_loaded w role e = loaded_in w (task_part_of role) e

abbrev pub word_stored : Role → Step → Option TableWord
word_stored role e = stored_in (task_part_of role) e

-- the number that the step stores: a put stores the word that the meaning gives the running instance
abbrev pub number_stored : Plan → Role → Step → ℕ
number_stored p (Releaser r seats) e = number_of_releaser (run_wiring p) r e
number_stored p (Task i t) e = number_of_task t (meaning_row p i (t.ended + 1)) e

-- the word of a put has 64 bits
abbrev pub PutFits : Plan → Role → Step → Type 0
PutFits p (Task i t) (Put j port) = FitsSigned w64 (slice_index_or (meaning_row p i (t.ended + 1)) port (pos 0))
PutFits p _ _ = Unit {0}

-- what it loads is in range
abbrev pub RoleLoads : Wiring → Role → Step → Loaded → Type 0
RoleLoads w (Releaser r seats) e l = ReleaserLoads r e l
RoleLoads w (Task i t) e l = TaskLoads w i t e l

-- what its part keeps by itself
abbrev pub RoleShape : Plan → Role → Type 0
RoleShape p (Releaser r seats) = ReleaserShape p (run_wiring p) r
RoleShape p (Task i t) = TaskPartShape (run_wiring p) i t

-- What the protocol promises of what it loads: a take loads the word that the meaning gives its read in the running
-- instance, and a look over a delayed link finds its row.
abbrev pub RolePromise : Plan → Role → Step → Loaded → Type 0
RolePromise p (Task i t) (Take j r) l = IsMeant p (meaning_of p) i (t.ended + 1) r (loaded_word l)
RolePromise p (Task i t) (Look j r) l = 0 < (link (run_wiring p) (slice_index_or (declared_task p i).reads r no_read).link).delay
    → is_stamp_of (read_order_in (wired_task (run_wiring p) i) t (turn_at t.place)) (loaded_number l) ≡ true
RolePromise p _ _ _ = Unit {0}
