-- The steps of the protocol: for each the first broken condition, or what it hears and the next state. A step's refusal, and
-- what it makes of its party's part, are said by that part; a task's step is also tried against the tasks ranked above.
use Rattle.std.specs.Prelude.{◌≡◌, ℕ, zero, suc, ℤ, pos, ◌+◌, ◌<◌, Bool, List, length, map, slice_index_or, slice_set, nat_lt, nat_le, ◌&&◌, if◌then◌else◌, Option, Some, None, Result, Ok, Err}
use Rattle.dbp_plan.specs.declared.diagram.Diagram.{Diagram}
use Rattle.dbp_plan.specs.declared.plan.Plan.{Plan}
use Rattle.dbp_plan.specs.Samples.{input_value}
use Rattle.dbp_plan.specs.Lookups.{declared_task}
use Rattle.dbp_rules.specs.Moves as move
use Rattle.dbp_rules.specs.PartyRules.{Loaded, a_number, a_value, an_order, next_claim, no_word, is_opened_by, is_stamp_of, read_order_in, releaser_after, releaser_next, releaser_refusal, task_after, task_next, task_refusal, with_entry_in, with_claim_in, one_further}
pub use Rattle.dbp_rules.specs.PartyRules.{claims_slot_in, hears_at, is_next, least, none_of, or_else, place_kind, release_kind, kept_after_aim, stays_kept, turn_at, unless}
use Rattle.dbp_rules.specs.Lookups.{task, task_entry, order, slot_at, wired_task, read_at, time}
use Rattle.dbp_rules.specs.declared.parts.LinkEntry.{LinkEntry}
use Rattle.dbp_rules.specs.declared.parts.Order.{Order}
use Rattle.dbp_rules.specs.declared.parts.ReleaserPart.{ReleaserPart}
use Rattle.dbp_rules.specs.declared.parts.TaskEntry.{TaskEntry}
use Rattle.dbp_rules.specs.declared.parts.TaskPart.{TaskPart}
use Rattle.dbp_rules.specs.declared.state.Slot.{Slot}
use Rattle.dbp_rules.specs.declared.state.State.{State}
use Rattle.dbp_rules.specs.declared.state.TaskState.{TaskState}
use Rattle.dbp_rules.specs.declared.step.Broken.TheVariants as broken
use Rattle.dbp_rules.specs.declared.step.Count.{Count}
use Rattle.dbp_rules.specs.declared.step.Count.TheVariants as count
use Rattle.dbp_rules.specs.declared.step.Heard.{Heard}
use Rattle.dbp_rules.specs.declared.step.Heard.TheVariants as heard
use Rattle.dbp_rules.specs.declared.step.Illegal.{Illegal}
use Rattle.dbp_rules.specs.declared.step.Step.{Step}
use Rattle.dbp_rules.specs.declared.step.Step.TheVariants.{Seen, Aim, Claim, OpenGate, Start, Hear, Look, Take, Shut, Put, Done, End}
use Rattle.dbp_rules.specs.declared.wiring.Wiring.{Wiring}

-- ---- states with one record changed

abbrev pub with_task : State → ℕ → TaskState → State
with_task s i t = record s { tasks = slice_set s.tasks i t }

abbrev pub with_releaser : State → ReleaserPart → State
with_releaser s r = record s { releaser = r }

abbrev pub with_entry : State → ℕ → TaskEntry → State
with_entry s i t = with_releaser s (with_entry_in s.releaser i t)

-- the releaser goes on to its next action
abbrev pub further : State → State
further s = with_releaser s (one_further s.releaser)

abbrev pub with_claim : State → ℕ → LinkEntry → State
with_claim s k c = record { releaser = with_claim_in s.releaser k c; tasks = s.tasks; orders = slice_set s.orders k (move.claim_order c) }

-- ---- conditions

-- the step of this kind with this subject is the next one of the releaser, and of a task
abbrev pub releases_next : Wiring → State → ℕ → ℕ → Option Illegal
releases_next w s kind subject = releaser_next w s.releaser kind subject

abbrev pub steps_next : Wiring → State → ℕ → ℕ → ℕ → Option Illegal
steps_next w s i kind subject = task_next (wired_task w i) (task s i).part kind subject

-- a counted link from the task claims the slot for an instance that isn't known to have ended
abbrev pub claims_slot : Wiring → State → ℕ → ℕ → ℕ → Bool
claims_slot w s i slot k = claims_slot_in w s.releaser i slot k

-- the time of the task's first instance that hasn't ended; 0 if all have
abbrev pub own_time : Wiring → State → ℕ → ℕ
own_time w s i = time (wired_task w i) ((task s i).part.ended + 1)

-- task r is ranked above task i, and has an instance that hasn't ended and that was aimed no later than that of i
abbrev pub blocks : Wiring → State → ℕ → ℕ → Bool
blocks w s i r = nat_lt (wired_task w r).rank (wired_task w i).rank && (nat_lt (task s r).part.ended (task_entry s r).aimed && nat_le (own_time w s r) (own_time w s i))

-- the higher-ranked of the task found so far and this one
abbrev pub higher : Wiring → Option ℕ → ℕ → ℕ
higher w None r = r
higher w (Some q) r = if nat_lt (wired_task w q).rank (wired_task w r).rank then q else r

-- the highest-ranked task below n that passes
abbrev pub highest : Wiring → (ℕ → Bool) → ℕ → Option ℕ
highest w f zero = None
highest w f (suc n) = if f n then Some (higher w (highest w f n) n) else highest w f n

-- under `Ranked` no task blocks the task's step
abbrev pub blocker_refusal : Count → Wiring → State → ℕ → Option Illegal
blocker_refusal count.All w s i = None
blocker_refusal count.Ranked w s i = none_of (highest w (blocks w s i) (length w.tasks)) broken.HigherUnfinished i

-- ---- what is loaded

-- the gate is open for the task's next instance
abbrev pub is_open : State → ℕ → Bool
is_open s i = is_opened_by (task s i).part (task s i).words.gate

-- the order at the place: the task's own, then that of each link into it
abbrev pub order_word : Wiring → State → ℕ → ℕ → Order
order_word w s i zero = (task s i).words.aim
order_word w s i (suc n) = order s (slice_index_or (wired_task w i).links n 0)

-- the order that the task heard for the read of this turn
abbrev pub read_order : Wiring → State → ℕ → ℕ → Order
read_order w s i n = read_order_in (wired_task w i) (task s i).part n

-- the slot that it names
abbrev pub read_slot : Wiring → State → ℕ → ℕ → Slot
read_slot w s i n = slot_at (task s (read_at (wired_task w i) n).writer).words.slots (read_order w s i n).slot

-- the slot holds the row that was ordered
abbrev pub is_ready : Wiring → State → ℕ → ℕ → Bool
is_ready w s i n = is_stamp_of (read_order w s i n) (read_slot w s i n).stamp

-- the word of the read's port in it
abbrev pub read_value : Wiring → State → ℕ → ℕ → ℤ
read_value w s i n = slice_index_or (read_slot w s i n).words (read_at (wired_task w i) n).port (pos 0)

-- what stands in the word that the step loads
abbrev pub loaded_value : Wiring → State → Step → Loaded
loaded_value w s (Seen i) = a_number (task s i).words.ended
loaded_value w s (Start i) = a_number (task s i).words.gate
loaded_value w s (Hear i) = an_order (order_word w s i (hears_at (task s i).part.place))
loaded_value w s (Look i r) = a_number (read_slot w s i (turn_at (task s i).part.place)).stamp
loaded_value w s (Take i r) = a_value (read_value w s i (turn_at (task s i).part.place))
loaded_value w s _ = no_word

-- the values of the task's senses at the release of its running instance
abbrev pub sense_values : Plan → Wiring → State → ℕ → List ℤ
sense_values p w s i = map (λ x. input_value p.diagram.inputs p.samples x.input (own_time w s i)) (declared_task p i).senses

-- ---- the steps

-- why the task's own part, or else a task ranked above it, forbids the step
abbrev pub ranked_refusal : Wiring → State → ℕ → Step → Option Illegal
ranked_refusal w s i e = or_else (task_refusal (wired_task w i) (task s i).part e) (blocker_refusal w.count w s i)

-- the first broken condition
abbrev pub refusal : Wiring → State → Step → Option Illegal
refusal w s (Seen i) = releaser_refusal w s.releaser (Seen i)
refusal w s (Aim i slot) = releaser_refusal w s.releaser (Aim i slot)
refusal w s (Claim k) = releaser_refusal w s.releaser (Claim k)
refusal w s (OpenGate i) = releaser_refusal w s.releaser (OpenGate i)
refusal w s (Start i) = or_else (task_refusal (wired_task w i) (task s i).part (Start i)) (if is_open s i then blocker_refusal w.count w s i else None)
refusal w s (Hear i) = ranked_refusal w s i (Hear i)
refusal w s (Look i r) = ranked_refusal w s i (Look i r)
refusal w s (Take i r) = ranked_refusal w s i (Take i r)
refusal w s (Shut i) = ranked_refusal w s i (Shut i)
refusal w s (Put i p) = ranked_refusal w s i (Put i p)
refusal w s (Done i) = ranked_refusal w s i (Done i)
refusal w s (End i) = ranked_refusal w s i (End i)

-- what an allowed step hears
abbrev pub hears : Wiring → State → Step → Heard
hears w s (Seen i) = heard.Ended (task s i).words.ended
hears w s (Start i) = if is_open s i then heard.Started else heard.Closed
hears w s (Hear i) = let o = order_word w s i (hears_at (task s i).part.place) in heard.Order o.slot o.number
hears w s (Look i r) = if is_ready w s i (turn_at (task s i).part.place) then heard.Ready else heard.NotYet
hears w s (Take i r) = heard.Word (read_value w s i (turn_at (task s i).part.place))
hears w s _ = heard.Stored

-- the task with another part
abbrev pub with_part : State → ℕ → TaskPart → State
with_part s i t = with_task s i (record (task s i) { part = t })

-- the releaser's part, and that of a task, after an allowed step
abbrev pub next_releaser : Wiring → State → Step → ReleaserPart
next_releaser w s e = releaser_after w s.releaser e (loaded_value w s e)

abbrev pub next_part : Wiring → State → ℕ → Step → TaskPart
next_part w s i e = task_after (wired_task w i) (task s i).part e (loaded_value w s e)

-- the state after an allowed step
abbrev pub next : Plan → Wiring → State → Step → State
next p w s (Seen i) = with_releaser s (next_releaser w s (Seen i))
next p w s (Aim i slot) = with_task (with_releaser s (next_releaser w s (Aim i slot))) i (record (task s i) { words = move.words_after_aim (task s i).words (move.after_aim (task_entry s i) slot) })
next p w s (Claim k) = record { releaser = next_releaser w s (Claim k); tasks = s.tasks; orders = slice_set s.orders k (move.claim_order (next_claim w s.releaser k)) }
next p w s (OpenGate i) = with_task (with_releaser s (next_releaser w s (OpenGate i))) i (record (task s i) { words = move.words_after_open (task s i).words (task_entry s i).aimed })
next p w s (Start i) = with_part s i (next_part w s i (Start i))
next p w s (Hear i) = with_part s i (next_part w s i (Hear i))
next p w s (Look i r) = with_part s i (next_part w s i (Look i r))
next p w s (Take i r) = with_task s i (record {
  words = (task s i).words;
  part = next_part w s i (Take i r);
  work = move.with_read (declared_task p i) (task s i).work r (read_value w s i (turn_at (task s i).part.place));
})
next p w s (Shut i) = with_task s i (record {
  words = move.with_stamp (task s i).words (move.own_slot (task s i).part) 0;
  part = next_part w s i (Shut i);
  work = move.after_compute (declared_task p i) (sense_values p w s i) (task s i).work;
})
next p w s (Put i port) = with_task s i (record {
  words = move.with_word (task s i).words (move.own_slot (task s i).part) port (slice_index_or (task s i).work.row port (pos 0));
  part = next_part w s i (Put i port);
  work = (task s i).work;
})
next p w s (Done i) = with_task s i (record {
  words = move.with_stamp (task s i).words (move.own_slot (task s i).part) ((task s i).part.ended + 2);
  part = next_part w s i (Done i);
  work = (task s i).work;
})
next p w s (End i) = with_task s i (record {
  words = move.with_ended (task s i).words ((task s i).part.ended + 1);
  part = next_part w s i (End i);
  work = move.after_advance (task s i).work;
})

-- a step that is allowed, and one that is refused
abbrev pub IsAnswer : Option Illegal → Plan → Wiring → State → Step → Result Heard Illegal → State → Type 0
IsAnswer None p w s e result new = (result ≡ Ok (hears w s e)) × (new ≡ next p w s e)
IsAnswer (Some why) p w s e result new = (result ≡ Err why) × (new ≡ s)

-- one step: what is heard and the next state, or the first broken condition and the same state
abbrev pub IsStep : Plan → Wiring → State → Step → Result Heard Illegal → State → Type 0
IsStep p w s e result new = IsAnswer (refusal w s e) p w s e result new

-- of so many tasks and links, the one that a step names is there
abbrev pub IsNamedWithin : ℕ → ℕ → Step → Type 0
IsNamedWithin tasks links (Seen i) = i < tasks
IsNamedWithin tasks links (Aim i slot) = i < tasks
IsNamedWithin tasks links (Claim k) = k < links
IsNamedWithin tasks links (OpenGate i) = i < tasks
IsNamedWithin tasks links (Start i) = i < tasks
IsNamedWithin tasks links (Hear i) = i < tasks
IsNamedWithin tasks links (Look i r) = i < tasks
IsNamedWithin tasks links (Take i r) = i < tasks
IsNamedWithin tasks links (Shut i) = i < tasks
IsNamedWithin tasks links (Put i p) = i < tasks
IsNamedWithin tasks links (Done i) = i < tasks
IsNamedWithin tasks links (End i) = i < tasks

-- the task or the link that a step names is one of the diagram's
abbrev pub IsNamed : Diagram → Step → Type 0
IsNamed d e = IsNamedWithin (length d.tasks) (length d.links) e
