-- What a command looks at, and what it prints of it.
use Rattle.std.specs.Prelude.{ℕ, Bool, true, false, not, List}
use Rattle.dbp_plan.specs.declared.plan.Plan.{Plan}
use Rattle.dbp_rules.specs.declared.step.Count.{Count}
use Rattle.dbp_rules.specs.declared.step.Count.TheVariants.{Ranked, All}
use Rattle.dia_read.specs.Canonical.{canonical_text}
use Rattle.dia_read.specs.Documents.{upgraded}
use Rattle.dia_read.specs.declared.document.Body.{Body}
use Rattle.dbp_answers.specs.SlotLines.{slot_lines}
use Rattle.dbp_answers.specs.declared.command.Command.{Command}
use Rattle.dbp_answers.specs.declared.command.Command.TheVariants.{Cpus, Gen, Mean, Form, Need, Plan as Slots, Rank, Replay, Rta, Run, Sim, Soak, Upgrade}
use Rattle.dbp_answers.specs.declared.processors.Processors.{Processors}
use Rattle.dbp_answers.specs.declared.processors.Processors.TheVariants.{One, Declared}

-- what is printed of a plan: the lines of its table, what its simulation on these processors writes (with true the steps
-- of the record, else the lines of the table), a text that is made of the plan alone, the response times of its tasks, the
-- scenario of the task of a name, or what the steps of the document's script hear
pub data Output : Type 0 where
  the_table : Output
  a_simulation : Processors → Bool → Output
  a_text_of_it : (Plan → List ℕ) → Output
  the_response_times : Output
  a_scenario : List ℕ → Output
  a_replay : Count → Output

-- what a command looks at: nothing; the text of the input, of whose body it prints a text; its shape, of which it makes an
-- order of the tasks; or the input's plan
pub data Looks : Type 0 where
  at_nothing : Looks
  at_text : (Body → List ℕ) → Looks
  at_shape : Looks
  at_plan : Output → Looks

-- by which slots and in which order the steps of a replay are taken
abbrev pub count_of : Bool → Count
count_of true = Ranked
count_of false = All

-- one row for each command
abbrev pub looks : Command → Looks
looks Mean = at_plan the_table
looks (Sim record_it) = at_plan (a_simulation One record_it)
looks (Cpus record_it) = at_plan (a_simulation Declared record_it)
looks (Run turns) = at_plan the_table
looks Form = at_text (λ body. canonical_text body)
looks Upgrade = at_text (λ body. canonical_text (upgraded body))
looks Rank = at_shape
looks Slots = at_plan (a_text_of_it (λ plan. slot_lines plan.diagram))
looks Rta = at_plan the_response_times
looks (Need task) = at_plan (a_scenario task)
looks (Replay ranked) = at_plan (a_replay (count_of ranked))
looks (Gen seed size) = at_nothing
looks (Soak seed size) = at_nothing

-- ---- what follows from it

abbrev pub is_at_plan : Looks → Bool
is_at_plan (at_plan output) = true
is_at_plan _ = false

abbrev pub is_at_nothing : Looks → Bool
is_at_nothing at_nothing = true
is_at_nothing _ = false

-- whether the command checks the whole document
abbrev pub needs_plan : Command → Bool
needs_plan command = is_at_plan (looks command)

-- whether it reads the input
abbrev pub reads_input : Command → Bool
reads_input command = not (is_at_nothing (looks command))

-- ---- who serves it

-- whether a call without crews serves it: those that run no tasks
abbrev pub serves_plain : Command → Bool
serves_plain (Run turns) = false
serves_plain (Soak seed size) = false
serves_plain _ = true
