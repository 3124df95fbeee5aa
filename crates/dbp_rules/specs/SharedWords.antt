-- The words that the parties share, as numbers of the table, the one that each step stores, and the party that makes it.
use Rattle.std.specs.Prelude.{◌≡◌, ◌≢◌, ℕ, ℤ, pos, negsuc, ◌+◌, ◌-◌, ◌*◌, ◌^◌, slice_index_or, Option, Some, None}
use Rattle.std.specs.Option.{option_map_or}
use Rattle.dbp_slots.specs.TableWords.{TableWord, gate, ended, aim, claim, stamp, word}
use Rattle.dbp_rules.specs.Moves.{own_slot}
use Rattle.dbp_rules.specs.Lookups.{no_task, order, slot_at, task}
use Rattle.dbp_rules.specs.declared.parts.Order.{Order}
use Rattle.dbp_rules.specs.declared.parts.TaskPart.{TaskPart}
use Rattle.dbp_rules.specs.declared.state.State.{State}
use Rattle.dbp_rules.specs.declared.step.Step.{Step}
use Rattle.dbp_rules.specs.declared.step.Step.TheVariants.{Seen, Aim, Claim, OpenGate, Start, Hear, Look, Take, Shut, Put, Done, End}

-- an order has its slot in the low 32 bits
abbrev pub order_value : Order → ℕ
order_value o = o.slot + o.number * 2 ^ 32

-- a value below 0 counts down from 2^64
abbrev pub signed_value : ℤ → ℕ
signed_value (pos n) = n
signed_value (negsuc n) = 2 ^ 64 - (n + 1)

-- what stands in the word
abbrev pub value_in : State → TableWord → ℕ
value_in s (gate i) = (task s i).words.gate
value_in s (ended i) = (task s i).words.ended
value_in s (aim i) = order_value (task s i).words.aim
value_in s (claim k) = order_value (order s k)
value_in s (stamp i n) = (slot_at (task s i).words.slots n).stamp
value_in s (word i n p) = signed_value (slice_index_or (slot_at (task s i).words.slots n).words p (pos 0))

-- the task that makes the step; none if the releaser does
abbrev pub made_by : Step → Option ℕ
made_by (Seen i) = None
made_by (Aim i slot) = None
made_by (Claim k) = None
made_by (OpenGate i) = None
made_by (Start i) = Some i
made_by (Hear i) = Some i
made_by (Look i r) = Some i
made_by (Take i r) = Some i
made_by (Shut i) = Some i
made_by (Put i p) = Some i
made_by (Done i) = Some i
made_by (End i) = Some i

-- the part of the task that makes the step; of a step of the releaser that of no task
abbrev pub maker_part : State → Step → TaskPart
maker_part s e = option_map_or (λ i. (task s i).part) (made_by e) no_task.part

-- the word that the step stores, if the task that makes it has this part
abbrev pub stored_in : TaskPart → Step → Option TableWord
stored_in t (Seen i) = None
stored_in t (Aim i slot) = Some (aim i)
stored_in t (Claim k) = Some (claim k)
stored_in t (OpenGate i) = Some (gate i)
stored_in t (Start i) = None
stored_in t (Hear i) = None
stored_in t (Look i r) = None
stored_in t (Take i r) = None
stored_in t (Shut i) = Some (stamp i (own_slot t))
stored_in t (Put i p) = Some (word i (own_slot t) p)
stored_in t (Done i) = Some (stamp i (own_slot t))
stored_in t (End i) = Some (ended i)

-- the word that the step stores
abbrev pub stored_by : State → Step → Option TableWord
stored_by s e = stored_in (maker_part s e) e

-- all words but this one are as they were
abbrev pub KeepsOtherWords : Option TableWord → State → State → Type 0
KeepsOtherWords stored s new = (q : TableWord) → stored ≢ Some q → value_in new q ≡ value_in s q

-- the parts of all parties but this one are as they were: what the releaser knows, and what each task has heard and computes with
pub record KeepsOtherParts (party : Option ℕ) (s new : State) : Type 0 where
  pub releaser : party ≢ None → new.releaser ≡ s.releaser
  pub tasks : (j : ℕ) → party ≢ Some j → ((task new j).part ≡ (task s j).part) × ((task new j).work ≡ (task s j).work)
