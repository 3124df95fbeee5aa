-- Who is named by what a party's steps concern.
use Rattle.std.specs.Prelude.{◌<◌, ◌≤◌, length}
use Rattle.dbp_plan.specs.declared.limits.TheConstants.{MAX_TASKS}
use Rattle.word_rule.specs.declared.seats.SlotWords.{SlotWords}
use Rattle.party_exec.specs.declared.concern.Concern.{Concern}
use Rattle.party_exec.specs.declared.concern.Concern.TheVariants.{Nobody, Opened, Party, Readers}

-- the party is one of a run's, and the task one of the plan's
abbrev pub IsConcernIn : SlotWords → Concern → Type 0
IsConcernIn w Nobody = Unit {0}
IsConcernIn w (Party number) = number ≤ MAX_TASKS
IsConcernIn w (Opened task) = task ≤ MAX_TASKS
IsConcernIn w (Readers task) = task < length w.plan.diagram.tasks
