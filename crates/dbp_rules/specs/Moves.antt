-- What each step makes of the record that it changes, from what that record has and what was loaded.
use Rattle.std.specs.Prelude.{ℕ, zero, suc, ℤ, ◌+◌, ◌-◌, Bool, nat_lt, List, [], ◌∷◌, ◌++◌, length, drop, take, slice_index_or, slice_set, if◌then◌else◌}
use Rattle.dbp_plan.specs.declared.diagram.Task.{Task}
use Rattle.dbp_plan.specs.Closed.{let_base}
use Rattle.sync_meaning.specs.Meaning.{outs_in}
use Rattle.sync_meaning.specs.SomeMeaningEnvs.{env_from, states_after}
use Rattle.dbp_rules.specs.Work.{WorkWords}
use Rattle.dbp_rules.specs.declared.parts.LinkEntry.{LinkEntry}
use Rattle.dbp_rules.specs.declared.parts.Order.{Order}
use Rattle.dbp_rules.specs.declared.parts.Place.{Place}
use Rattle.dbp_rules.specs.declared.parts.Place.TheVariants as place
use Rattle.dbp_rules.specs.declared.parts.TaskEntry.{TaskEntry}
use Rattle.dbp_rules.specs.declared.parts.TaskPart.{TaskPart}
use Rattle.dbp_rules.specs.declared.state.TaskWords.{TaskWords}
use Rattle.dbp_rules.specs.declared.wiring.TaskWiring.{TaskWiring}
use Rattle.dbp_rules.specs.Lookups.{no_order, slot_at}

-- ---- of the releaser

-- it has loaded how many instances have ended
abbrev pub after_seen : TaskEntry → ℕ → TaskEntry
after_seen t ended = record t { known = ended }

-- one instance more is aimed, at the slot: the current slot becomes the first kept one, and the last kept one is dropped
abbrev pub after_aim : TaskEntry → ℕ → TaskEntry
after_aim t slot = record { known = t.known; aimed = t.aimed + 1; current = slot; kept = take (length t.kept) (t.current ∷ t.kept) }

-- the slot that a claim takes over a link of this delay
abbrev pub claimed_slot : ℕ → ℕ → List ℕ → ℕ
claimed_slot zero current kept = current
claimed_slot (suc d) current kept = slice_index_or kept d 0

-- the reader's last aimed instance is to read the row of the writer's last aimed one, less the delay
abbrev pub claim_entry : ℕ → TaskEntry → TaskEntry → LinkEntry
claim_entry delay writer reader = record { slot = claimed_slot delay writer.current writer.kept; number = writer.aimed - delay; instance = reader.aimed }

-- the word in which the releaser orders it
abbrev pub claim_order : LinkEntry → Order
claim_order c = record { slot = c.slot; number = c.number }

-- the words of a task that was aimed, and of one whose gate was opened for this instance
abbrev pub words_after_aim : TaskWords → TaskEntry → TaskWords
words_after_aim w t = record w { aim = record { slot = t.current; number = t.aimed } }

abbrev pub words_after_open : TaskWords → ℕ → TaskWords
words_after_open w aimed = record w { gate = aimed }

-- ---- of a task: where it goes

-- after so many of its reads
abbrev pub read_place : ℕ → ℕ → Place
read_place reads n = if nat_lt n reads then place.Look n else place.Shut

-- after so many of its orders
abbrev pub hear_place : TaskWiring → ℕ → Place
hear_place t n = if nat_lt n (1 + length t.links) then place.Hear n else read_place (length t.reads) 0

-- after so many of its puts
abbrev pub put_place : ℕ → ℕ → Place
put_place ports p = if nat_lt p ports then place.Put p else place.Done

-- ---- of a task: its part, from what it loaded

abbrev pub at_place : TaskPart → Place → TaskPart
at_place t p = record t { place = p }

-- the gate was open for the next instance, or wasn't
abbrev pub after_start : TaskPart → Bool → TaskPart
after_start t open_ = if open_ then at_place t (place.Hear 0) else t

-- it has heard the order with this number
abbrev pub after_hear : TaskWiring → TaskPart → ℕ → Order → TaskPart
after_hear w t n o = record { ended = t.ended; place = hear_place w (n + 1); heard = record { items = t.heard.items ++ o ∷ [] } }

-- the slot held what it is to hold, or didn't yet
abbrev pub after_look : TaskPart → ℕ → Bool → TaskPart
after_look t n ready = if ready then at_place t (place.Take n) else t

-- it has taken the word of this turn
abbrev pub after_take : TaskWiring → TaskPart → ℕ → TaskPart
after_take w t n = at_place t (read_place (length w.reads) (n + 1))

-- its instance has ended, and what it heard is dropped
abbrev pub after_end : TaskPart → TaskPart
after_end t = record { ended = t.ended + 1; place = place.Idle; heard = record { items = [] } }

-- the order that it heard at this place
abbrev pub heard_order : TaskPart → ℕ → Order
heard_order t n = slice_index_or t.heard.items n no_order

-- the slot that it is to fill
abbrev pub own_slot : TaskPart → ℕ
own_slot t = (heard_order t 0).slot

-- ---- of a task: its words

abbrev pub with_stamp : TaskWords → ℕ → ℕ → TaskWords
with_stamp w n stamp = record w { slots = slice_set w.slots n (record (slot_at w.slots n) { stamp = stamp }) }

abbrev pub with_word : TaskWords → ℕ → ℕ → ℤ → TaskWords
with_word w n p word = record w { slots = slice_set w.slots n (record (slot_at w.slots n) { words = slice_set (slot_at w.slots n).words p word }) }

abbrev pub with_ended : TaskWords → ℕ → TaskWords
with_ended w n = record w { ended = n }

-- ---- of a task: what it computes with

abbrev pub with_now : WorkWords → ℕ → ℤ → WorkWords
with_now w place word = record w { now = slice_set w.now place word }

-- the word of a read, which stands after the states and the senses
abbrev pub with_read : Task → WorkWords → ℕ → ℤ → WorkWords
with_read task w n word = with_now w (length task.states + length task.senses + n) word

-- what an instance computes from its states, its senses and its reads
abbrev pub work_words_of : Task → List ℤ → WorkWords
work_words_of task given =
    let env = env_from task given in
    record { now = env; later = states_after task env (take (length task.states) env); row = outs_in task env }

-- the values of the senses, which stand after the states
abbrev pub with_senses : Task → List ℤ → WorkWords → WorkWords
with_senses task senses w = record w { now = take (length task.states) w.now ++ (senses ++ drop (length task.states + length senses) w.now) }

-- what an instance computes with these values of its senses
abbrev pub after_compute : Task → List ℤ → WorkWords → WorkWords
after_compute task senses w = work_words_of task (take (let_base task) (with_senses task senses w).now)

-- the states after the instance become those before the next one; the other words and the row stay, and are written over
abbrev pub after_advance : WorkWords → WorkWords
after_advance w = record w { now = w.later ++ drop (length w.later) w.now }
