-- The steps as each party sees them: why its part doesn't allow a step, and what an allowed step makes of its part, from
-- the part and what the step loads.
use Rattle.std.specs.Prelude.{ℕ, zero, suc, ℤ, ◌+◌, Bool, true, false, List, ◌∷◌, length, take, slice_get, slice_set, ◌==◌, nat_lt, ◌&&◌, not, map, filter, if◌then◌else◌, Option, Some, None}
use Rattle.std.specs.List.{list_any, range_with_len}
use Rattle.std.specs.Option.{option_or}
use Rattle.release_list.specs.declared.release.Release.{Release}
use Rattle.release_list.specs.declared.release.Release.TheVariants as release
use Rattle.dbp_rules.specs.Moves as move
use Rattle.dbp_rules.specs.Lookups.{claim_in, entry_in, is_counted, link, no_order, read_at, wired_task}
use Rattle.dbp_rules.specs.StepKinds.{kind_number, kind_of, other_subject, subject_of}
use Rattle.dbp_rules.specs.declared.kind.StepKind.TheVariants as kind
use Rattle.dbp_rules.specs.declared.parts.LinkEntry.{LinkEntry}
use Rattle.dbp_rules.specs.declared.parts.Order.{Order}
use Rattle.dbp_rules.specs.declared.parts.Place.{Place}
use Rattle.dbp_rules.specs.declared.parts.Place.TheVariants as place
use Rattle.dbp_rules.specs.declared.parts.ReleaserPart.{ReleaserPart}
use Rattle.dbp_rules.specs.declared.parts.TaskEntry.{TaskEntry}
use Rattle.dbp_rules.specs.declared.parts.TaskPart.{TaskPart}
use Rattle.dbp_rules.specs.declared.step.Broken.{Broken}
use Rattle.dbp_rules.specs.declared.step.Broken.TheVariants as broken
use Rattle.dbp_rules.specs.declared.step.Illegal.{Illegal}
use Rattle.dbp_rules.specs.declared.step.Step.{Step}
use Rattle.dbp_rules.specs.declared.step.Step.TheVariants.{Seen, Aim, Claim, OpenGate, Start, Hear, Look, Take, Shut, Put, Done, End}
use Rattle.dbp_rules.specs.declared.wiring.TaskWiring.{TaskWiring}
use Rattle.dbp_rules.specs.declared.wiring.Wiring.{Wiring}

-- ---- conditions, each with the two values that it compares

-- the first of two broken conditions
abbrev pub or_else : Option Illegal → Option Illegal → Option Illegal
or_else (Some x) y = Some x
or_else None y = y

-- broken if the test fails, with these values
abbrev pub unless : Bool → Broken → ℕ → ℕ → Option Illegal
unless true b l r = None
unless false b l r = Some (record { broken = b; left = l; right = r })

-- broken if there is such a value, which is the left one
abbrev pub none_of : Option ℕ → Broken → ℕ → Option Illegal
none_of None b r = None
none_of (Some l) b r = Some (record { broken = b; left = l; right = r })

-- the number of the kind of the releaser's next step, and its task or link; 0 after the last
abbrev pub release_kind : Option Release → ℕ × ℕ
release_kind None = (0, 0)
release_kind (Some (release.Aim i)) = (kind_number kind.Aim, i)
release_kind (Some (release.Claim k)) = (kind_number kind.Claim, k)
release_kind (Some (release.OpenGate i)) = (kind_number kind.OpenGate, i)

-- the number of the kind of a task's next step, and its read or port
abbrev pub place_kind : TaskWiring → Place → ℕ × ℕ
place_kind t place.Idle = (kind_number kind.Start, 0)
place_kind t (place.Hear n) = (kind_number kind.Hear, 0)
place_kind t (place.Look n) = (kind_number kind.Look, (read_at t n).read)
place_kind t (place.Take n) = (kind_number kind.Take, (read_at t n).read)
place_kind t place.Shut = (kind_number kind.Shut, 0)
place_kind t (place.Put p) = (kind_number kind.Put, p)
place_kind t place.Done = (kind_number kind.Done, 0)
place_kind t place.End = (kind_number kind.End, 0)

-- the step of this kind with this subject is the next one
abbrev pub is_next : Broken → ℕ × ℕ → ℕ → ℕ → Option Illegal
is_next b next kind subject = if next.0 == kind then unless (next.1 == subject) b next.0 other_subject else unless false b next.0 kind

-- of the releaser, and of a task
abbrev pub releaser_next : Wiring → ReleaserPart → ℕ → ℕ → Option Illegal
releaser_next w r kind subject = is_next broken.Place (release_kind (slice_get w.releases r.place)) kind subject

abbrev pub task_next : TaskWiring → TaskPart → ℕ → ℕ → Option Illegal
task_next w t kind subject = is_next broken.TaskPlace (place_kind w t.place) kind subject

-- ---- claimed and kept slots

-- the slots that are kept after an aim of the task: what was current, and the kept ones but the last
abbrev pub kept_after_aim : TaskEntry → List ℕ
kept_after_aim t = take (length t.kept) (t.current ∷ t.kept)

abbrev pub stays_kept : TaskEntry → ℕ → Bool
stays_kept t slot = list_any (λ k. k == slot) (kept_after_aim t)

-- a counted link from the task claims the slot for an instance that isn't known to have ended
abbrev pub claims_slot_in : Wiring → ReleaserPart → ℕ → ℕ → ℕ → Bool
claims_slot_in w r i slot k = ((link w k).writer == i) && (is_counted w k && (nat_lt (entry_in r (link w k).reader).known (claim_in r k).instance && ((claim_in r k).slot == slot)))

-- a counted link from the task has a claim whose instance isn't known to have ended
abbrev pub has_claim_in : Wiring → ReleaserPart → ℕ → ℕ → Bool
has_claim_in w r i k = ((link w k).writer == i) && (is_counted w k && nat_lt (entry_in r (link w k).reader).known (claim_in r k).instance)

-- the slots that such claims name
abbrev pub claimed_in : Wiring → ReleaserPart → ℕ → List ℕ
claimed_in w r i = map (λ k. (claim_in r k).slot) (filter (has_claim_in w r i) (range_with_len 0 (length w.links)))

-- the least number below n that passes
abbrev pub least : (ℕ → Bool) → ℕ → Option ℕ
least f zero = None
least f (suc n) = option_or (least f n) (if f n then Some n else None)

-- ---- refusals

-- why the task can't be aimed at the slot, if its aim is the next action
abbrev pub aim_refusal : Wiring → ReleaserPart → ℕ → ℕ → Option Illegal
aim_refusal w r i slot =
    or_else (unless ((entry_in r i).aimed == (entry_in r i).known) broken.LastNotEnded (entry_in r i).aimed (entry_in r i).known)
    (or_else (unless (nat_lt slot (wired_task w i).slots) broken.SlotRange (wired_task w i).slots slot)
    (or_else (unless (not (stays_kept (entry_in r i) slot)) broken.SlotKept slot slot)
    (none_of (least (claims_slot_in w r i slot) (length w.links)) broken.SlotClaimed slot)))

-- the first broken condition of a step of the releaser; a step of a task is never its next one
abbrev pub releaser_refusal : Wiring → ReleaserPart → Step → Option Illegal
releaser_refusal w r (Seen i) = None
releaser_refusal w r (Aim i slot) = or_else (releaser_next w r (kind_number kind.Aim) i) (aim_refusal w r i slot)
releaser_refusal w r e = releaser_next w r (kind_number (kind_of e)) (subject_of e)

-- the broken condition of a step of the task, if no task blocks it; a step of the releaser is never its next one
abbrev pub task_refusal : TaskWiring → TaskPart → Step → Option Illegal
task_refusal w t e = task_next w t (kind_number (kind_of e)) (subject_of e)

-- ---- what a step loads

-- no word; a gate, an ended number or a stamp; an aim or a claim; a word of a slot
pub data Loaded : Type 0 where
  no_word : Loaded
  a_number : ℕ → Loaded
  an_order : Order → Loaded
  a_value : ℤ → Loaded

abbrev pub loaded_number : Loaded → ℕ
loaded_number (a_number n) = n
loaded_number _ = 0

abbrev pub loaded_order : Loaded → Order
loaded_order (an_order o) = o
loaded_order _ = no_order

-- ---- what a task makes of what it loads

-- the number of the hear at this place
abbrev pub hears_at : Place → ℕ
hears_at (place.Hear n) = n
hears_at _ = 0

-- the turn of the look or the take at this place
abbrev pub turn_at : Place → ℕ
turn_at (place.Look n) = n
turn_at (place.Take n) = n
turn_at _ = 0

-- the gate is open for the task's next instance
abbrev pub is_opened_by : TaskPart → ℕ → Bool
is_opened_by t gate = gate == t.ended + 1

-- the order that the task heard for the read of this turn
abbrev pub read_order_in : TaskWiring → TaskPart → ℕ → Order
read_order_in w t n = move.heard_order t (read_at w n).order

-- the stamp says that the slot holds the row that is ordered
abbrev pub is_stamp_of : Order → ℕ → Bool
is_stamp_of o stamp = stamp == o.number + 1

-- ---- parts after an allowed step, from what it loads

abbrev pub with_entry_in : ReleaserPart → ℕ → TaskEntry → ReleaserPart
with_entry_in r i t = record r { tasks = slice_set r.tasks i t }

abbrev pub with_claim_in : ReleaserPart → ℕ → LinkEntry → ReleaserPart
with_claim_in r k c = record r { links = slice_set r.links k c }

-- the releaser goes on to its next action
abbrev pub one_further : ReleaserPart → ReleaserPart
one_further r = record r { place = r.place + 1 }

-- what the releaser claims over the link
abbrev pub next_claim : Wiring → ReleaserPart → ℕ → LinkEntry
next_claim w r k = move.claim_entry (link w k).delay (entry_in r (link w k).writer) (entry_in r (link w k).reader)

abbrev pub releaser_after : Wiring → ReleaserPart → Step → Loaded → ReleaserPart
releaser_after w r (Seen i) l = with_entry_in r i (move.after_seen (entry_in r i) (loaded_number l))
releaser_after w r (Aim i slot) l = one_further (with_entry_in r i (move.after_aim (entry_in r i) slot))
releaser_after w r (Claim k) l = one_further (with_claim_in r k (next_claim w r k))
releaser_after w r (OpenGate i) l = one_further r
releaser_after w r _ l = r

abbrev pub task_after : TaskWiring → TaskPart → Step → Loaded → TaskPart
task_after w t (Start i) l = move.after_start t (is_opened_by t (loaded_number l))
task_after w t (Hear i) l = move.after_hear w t (hears_at t.place) (loaded_order l)
task_after w t (Look i r) l = move.after_look t (turn_at t.place) (is_stamp_of (read_order_in w t (turn_at t.place)) (loaded_number l))
task_after w t (Take i r) l = move.after_take w t (turn_at t.place)
task_after w t (Shut i) l = move.at_place t (place.Put 0)
task_after w t (Put i p) l = move.at_place t (move.put_place w.ports (p + 1))
task_after w t (Done i) l = move.at_place t place.End
task_after w t (End i) l = move.after_end t
task_after w t _ l = t
