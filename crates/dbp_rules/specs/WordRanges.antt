-- Words of slots that are values of 64 bits.
use Rattle.std.specs.Prelude.{ℕ, ℤ, pos, All, FitsSigned, slice_index_or}
use Rattle.std.specs.Int.{w64}
use Rattle.dbp_plan.specs.declared.diagram.Diagram.{Diagram}
use Rattle.dbp_rules.specs.Lookups.{slot_at, task}
use Rattle.dbp_rules.specs.declared.state.State.{State}
use Rattle.dbp_rules.specs.declared.step.Step.{Step}
use Rattle.dbp_rules.specs.declared.step.Step.TheVariants.{Put}

-- the word for the port in the task's slot
abbrev pub slot_word : State → ℕ → ℕ → ℕ → ℤ
slot_word s i n port = slice_index_or (slot_at (task s i).words.slots n).words port (pos 0)

-- each word of each slot is one
abbrev pub SlotWordsFit : State → Type 0
SlotWordsFit s = (i n port : ℕ) → FitsSigned w64 (slot_word s i n port)

-- so is the first value of each out
abbrev pub FirstValuesFit : Diagram → Type 0
FirstValuesFit d = All (λ t. All (λ o. FitsSigned w64 o.first) t.outs) d.tasks

-- so is the word that a put stores
abbrev pub PutWordFits : State → Step → Type 0
PutWordFits s (Put i port) = FitsSigned w64 (slice_index_or (task s i).work.row port (pos 0))
PutWordFits s _ = Unit {0}
