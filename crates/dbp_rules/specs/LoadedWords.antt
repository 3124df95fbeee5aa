-- The steps word by word of the table: which word a step loads, what it hears of the number there, which number it stores,
-- and the numbers before the first step.
use Rattle.std.specs.Prelude.{ℕ, zero, suc, ℤ, pos, negsuc, ◌+◌, ◌-◌, ◌/◌, ◌%◌, ◌^◌, nat_lt, if◌then◌else◌, List, length, map, slice_index_or, Option, Some, None}
use Rattle.std.specs.Option.{option_map_or}
use Rattle.dbp_plan.specs.declared.plan.Plan.{Plan}
use Rattle.dbp_plan.specs.Lookups.{declared_task}
use Rattle.dbp_slots.specs.TableWords.{Sizes, TableWord, gate, ended, aim, claim, stamp, word}
use Rattle.dbp_rules.specs.Moves.{claim_order}
use Rattle.dbp_rules.specs.PartyRules.{Loaded, a_number, a_value, an_order, hears_at, is_stamp_of, loaded_number, loaded_order, next_claim, no_word, is_opened_by, read_order_in, turn_at}
use Rattle.dbp_rules.specs.Lookups.{entry_in, read_at, task, wired_task}
use Rattle.dbp_rules.specs.Shapes.{link_in}
use Rattle.dbp_rules.specs.SharedWords.{made_by, maker_part, order_value, signed_value, value_in}
use Rattle.dbp_rules.specs.Start.{first_row}
use Rattle.dbp_rules.specs.declared.parts.Order.{Order}
use Rattle.dbp_rules.specs.declared.parts.ReleaserPart.{ReleaserPart}
use Rattle.dbp_rules.specs.declared.parts.TaskPart.{TaskPart}
use Rattle.dbp_rules.specs.declared.state.State.{State}
use Rattle.dbp_rules.specs.declared.step.Heard.{Heard}
use Rattle.dbp_rules.specs.declared.step.Heard.TheVariants as heard
use Rattle.dbp_rules.specs.declared.step.Step.{Step}
use Rattle.dbp_rules.specs.declared.step.Step.TheVariants.{Seen, Aim, Claim, OpenGate, Start, Hear, Look, Take, Shut, Put, Done, End}
use Rattle.dbp_rules.specs.declared.wiring.Wiring.{Wiring}

-- the sizes of the table for the slots and ports of a wiring
abbrev pub sizes_of_wiring : Wiring → Sizes
sizes_of_wiring w = record { tasks = map (λ t. record { slots = t.slots; ports = t.ports }) w.tasks; links = length w.links }

-- ---- how a number is read

-- the order with this number: its slot is in the low 32 bits
abbrev pub order_of : ℕ → Order
order_of x = record { slot = x % 2 ^ 32; number = x / 2 ^ 32 }

-- the value with this number: from 2^63 on it is below 0
abbrev pub value_of_word : ℕ → ℤ
value_of_word x = if nat_lt x (2 ^ 63) then pos x else negsuc (2 ^ 64 - (x + 1))

-- what the step loads, from the number of its word
abbrev pub loaded_of : Step → ℕ → Loaded
loaded_of (Seen i) x = a_number x
loaded_of (Start i) x = a_number x
loaded_of (Hear i) x = an_order (order_of x)
loaded_of (Look i r) x = a_number x
loaded_of (Take i r) x = a_value (value_of_word x)
loaded_of _ x = no_word

-- ---- words that are loaded

-- the word of the order at this place: the task's aim, then the claim of each link into it
abbrev pub word_of_order : Wiring → ℕ → ℕ → TableWord
word_of_order w i zero = aim i
word_of_order w i (suc n) = claim (link_in (wired_task w i) n)

-- the stamp of the slot that the task heard of for the read of this turn, and the word of the read's port there
abbrev pub stamp_of_read : Wiring → TaskPart → ℕ → ℕ → TableWord
stamp_of_read w t i n = stamp (read_at (wired_task w i) n).writer (read_order_in (wired_task w i) t n).slot

abbrev pub word_of_read : Wiring → TaskPart → ℕ → ℕ → TableWord
word_of_read w t i n = word (read_at (wired_task w i) n).writer (read_order_in (wired_task w i) t n).slot (read_at (wired_task w i) n).port

-- the word that the step loads, if the task that makes it has this part
abbrev pub loaded_in : Wiring → TaskPart → Step → Option TableWord
loaded_in w t (Seen i) = Some (ended i)
loaded_in w t (Aim i slot) = None
loaded_in w t (Claim k) = None
loaded_in w t (OpenGate i) = None
loaded_in w t (Start i) = Some (gate i)
loaded_in w t (Hear i) = Some (word_of_order w i (hears_at t.place))
loaded_in w t (Look i r) = Some (stamp_of_read w t i (turn_at t.place))
loaded_in w t (Take i r) = Some (word_of_read w t i (turn_at t.place))
loaded_in w t (Shut i) = None
loaded_in w t (Put i p) = None
loaded_in w t (Done i) = None
loaded_in w t (End i) = None

-- the word that the step loads, and the number that stands there; 0 if it loads none
abbrev pub loaded_by : Wiring → State → Step → Option TableWord
loaded_by w s e = loaded_in w (maker_part s e) e

abbrev pub number_to_load : Wiring → State → Step → ℕ
number_to_load w s e = option_map_or (value_in s) (loaded_by w s e) 0

-- ---- what is heard

abbrev pub loaded_word : Loaded → ℤ
loaded_word (a_value z) = z
loaded_word _ = pos 0

-- what the step hears of what it loads, if the task that makes it has this part
abbrev pub heard_of : Wiring → TaskPart → Step → Loaded → Heard
heard_of w t (Seen i) l = heard.Ended (loaded_number l)
heard_of w t (Start i) l = if is_opened_by t (loaded_number l) then heard.Started else heard.Closed
heard_of w t (Hear i) l = heard.Order (loaded_order l).slot (loaded_order l).number
heard_of w t (Look i r) l = if is_stamp_of (read_order_in (wired_task w i) t (turn_at t.place)) (loaded_number l) then heard.Ready else heard.NotYet
heard_of w t (Take i r) l = heard.Word (loaded_word l)
heard_of w t _ l = heard.Stored

-- ---- numbers that are stored; 0 if the step stores none

-- by the releaser, from its part
abbrev pub number_of_releaser : Wiring → ReleaserPart → Step → ℕ
number_of_releaser w r (Aim i slot) = order_value (record { slot = slot; number = (entry_in r i).aimed + 1 })
number_of_releaser w r (Claim k) = order_value (claim_order (next_claim w r k))
number_of_releaser w r (OpenGate i) = (entry_in r i).aimed
number_of_releaser w r _ = 0

-- by a task, from its part and its row
abbrev pub number_of_task : TaskPart → List ℤ → Step → ℕ
number_of_task t row (Shut i) = 0
number_of_task t row (Put i p) = signed_value (slice_index_or row p (pos 0))
number_of_task t row (Done i) = t.ended + 2
number_of_task t row (End i) = t.ended + 1
number_of_task t row _ = 0

-- by the party that makes the step
abbrev pub stored_number : Wiring → State → Step → ℕ
stored_number w s e = option_map_or (λ i. number_of_task (task s i).part (task s i).work.row e) (made_by e) (number_of_releaser w s.releaser e)

-- ---- numbers before the first step

-- slot 0 of each task is stamped and holds its first values; all other words are 0
abbrev pub start_number : Plan → TableWord → ℕ
start_number p (stamp i zero) = 1
start_number p (word i zero port) = signed_value (slice_index_or (first_row (declared_task p i)) port (pos 0))
start_number p _ = 0
