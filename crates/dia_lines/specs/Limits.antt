-- The limits of a document's numbers and counts.
use Rattle.std.specs.Prelude.{ℕ, ℤ, pos, Bool, true, false, nat_le, ◌&&◌, int_le, List, [], ◌∷◌, length, filter, Option, Some, None, if◌then◌else◌}
use Rattle.dbp_plan.specs.declared.limits.TheConstants.{MAX_TASKS, MAX_INPUTS, MAX_EVENTS, MAX_READS, MAX_READ_LINES, MAX_OUTS, MAX_BODY, MAX_TIME, MAX_PRIO, MAX_CPU}
use Rattle.dbp_plan.specs.Limits.{max_delay}
use Rattle.dia_lines.specs.declared.fault.Limit.{Limit}
use Rattle.dia_lines.specs.declared.fault.Limit.TheVariants.{Tasks, Reads, Links, Outs, Inputs, Events, Body}
use Rattle.dia_lines.specs.Statements.{Statement, Clock, every, on, until, input, event, task, read, out}
use Rattle.dia_lines.specs.Places.{is_body}

abbrev pub lies_within : ℤ → ℕ → ℕ → Bool
lies_within value least greatest = int_le (pos least) value && int_le value (pos greatest)

abbrev pub option_lies_within : Option ℤ → ℕ → ℕ → Bool
option_lies_within None least greatest = true
option_lies_within (Some value) least greatest = lies_within value least greatest

abbrev pub clock_fits : Clock → Bool
clock_fits (every period offset) = lies_within period 1 MAX_TIME && lies_within offset 0 MAX_TIME
clock_fits (on name) = true

-- a delay is from 1 on, if it is spelled
abbrev pub delay_fits : Option ℤ → Bool
delay_fits delay = option_lies_within delay 1 max_delay

-- each number of the statement is within its limits; the values of an input, a state and an out have none of their own
abbrev pub numbers_fit : Statement → Bool
numbers_fit (until end) = lies_within end 0 MAX_TIME
numbers_fit (task t) =
    clock_fits t.clock && option_lies_within t.prio 0 MAX_PRIO && option_lies_within t.deadline 1 MAX_TIME && lies_within t.cost 1 MAX_TIME
    && option_lies_within t.cpu 0 MAX_CPU
numbers_fit (read name delay writer port at) = delay_fits delay && lies_within at 0 MAX_TIME
numbers_fit _ = true

abbrev pub is_input : Statement → Bool
is_input (input n v) = true
is_input _ = false

abbrev pub is_event : Statement → Bool
is_event (event n) = true
is_event _ = false

abbrev pub is_task : Statement → Bool
is_task (task t) = true
is_task _ = false

abbrev pub is_read : Statement → Bool
is_read (read n d w p a) = true
is_read _ = false

abbrev pub is_out : Statement → Bool
is_out (out n v x) = true
is_out _ = false

-- the statements of the task that stands above; the latest is the first
abbrev pub of_this_task : List Statement → List Statement
of_this_task [] = []
of_this_task (s ∷ before) = if is_task s then [] else s ∷ of_this_task before

-- at least so many of the kind stand before, so one more is past the limit
abbrev pub are_full : (Statement → Bool) → List Statement → ℕ → Bool
are_full kind before limit = nat_le limit (length (filter kind before))

-- The count that the statement would pass after those before it, of which the latest is the first. It is the first in
-- the order inputs, events, tasks, body, reads, links, outs.
abbrev pub passed_count : List Statement → Statement → Option Limit
passed_count before s =
    if is_input s && are_full is_input before MAX_INPUTS then Some Inputs else
    if is_event s && are_full is_event before MAX_EVENTS then Some Events else
    if is_task s && are_full is_task before MAX_TASKS then Some Tasks else
    if is_body s && are_full is_body (of_this_task before) MAX_BODY then Some Body else
    if is_read s && are_full is_read (of_this_task before) MAX_READS then Some Reads else
    if is_read s && are_full is_read before MAX_READ_LINES then Some Links else
    if is_out s && are_full is_out (of_this_task before) MAX_OUTS then Some Outs else None
