-- The rule of the table: between any two atomic steps its words and views show a sound state of the protocol, and before the
-- first step the words are those of the start state.
use Rattle.std.specs.Prelude.{◌≡◌, ℕ, zero, suc, ◌≤◌, List, length, slice_index}
use mathlib.Core.Option.{some}
use lib.ListN.{get_elem?}
use Rattle.atomic_table.specs.Table as table
use Rattle.dbp_plan.specs.declared.plan.Plan.{Plan}
use Rattle.dbp_slots.specs.TableWords.{IsWord, TableWord, address_of, sizes_of, word_count}
use Rattle.dbp_rules.specs.LoadedWords.{start_number}
use Rattle.dbp_rules.specs.Lookups.{task}
use Rattle.dbp_rules.specs.SharedWords.{value_in}
use Rattle.dbp_rules.specs.Sound.{Sound}
use Rattle.dbp_rules.specs.Start.{first_part, start_of}
use Rattle.dbp_rules.specs.TenParts.{HoldsInTenParts}
use Rattle.dbp_rules.specs.WordRanges.{SlotWordsFit}
use Rattle.dbp_rules.specs.declared.state.State.{State}
use Rattle.word_rule.specs.Roles.{meaning_row, run_wiring}
use Rattle.word_rule.specs.declared.views.Role.{Role}
use Rattle.word_rule.specs.declared.views.Role.TheVariants.{Releaser, Task}
use Rattle.word_rule.specs.declared.views.View.{View}

-- the words, and the views of all seats
abbrev pub TableState : Type 0
TableState = table.State (Unit {0}) View

-- Seat 0 is the releaser's, and seat i + 1 that of task i: it has its party's part of the state. So many seats of tasks
-- were split off.
abbrev pub ShowsRole : ℕ → State → ℕ → Role → Type 0
ShowsRole split s zero (Releaser r seats) = (r ≡ s.releaser) × (seats ≡ split)
ShowsRole split s (suc j) (Task i t) = (i ≡ j) × (t ≡ (task s i).part)
ShowsRole split s _ _ = ⊥

-- the words and views show the state: each word of the table has its number, each seat its party's part, and a task
-- without a seat has its first part
pub record Shows (p : Plan) (words : List ℕ) (views : List View) (split : ℕ) (s : State) : Type 0 where
  pub size : length words ≡ word_count (sizes_of p.diagram)
  pub each_word : (q : TableWord) → IsWord (sizes_of p.diagram) q → slice_index words (address_of (sizes_of p.diagram) q) ≡ value_in s q
  pub seats : length views ≡ suc split
  pub few : split ≤ length p.diagram.tasks
  pub each_seat : (k : ℕ) (v : View) → get_elem? views k ≡ some v → (v.plan ≡ p) × ShowsRole split s k v.role
  pub no_seat : (i : ℕ) → split ≤ i → (task s i).part ≡ first_part

-- each word of the table has the number that the start state gives it
pub record HasFirstNumbers (p : Plan) (words : List ℕ) : Type 0 where
  pub size : length words ≡ word_count (sizes_of p.diagram)
  pub each : (q : TableWord) → IsWord (sizes_of p.diagram) q → slice_index words (address_of (sizes_of p.diagram) q) ≡ start_number p q

-- no seat has made a step
abbrev pub HaveNotStepped : List View → Type 0
HaveNotStepped views = (k : ℕ) (v : View) → get_elem? views k ≡ some v → v.steps ≡ 0

-- the rule
pub record Keeps (p : Plan) (t : TableState) : Type 0 where
  pub split : ℕ
  pub state : State
  pub shows : Shows p t.words t.views split state
  pub sound : Sound p (run_wiring p) (meaning_row p) state
  pub fit : SlotWordsFit state
  pub start : HaveNotStepped t.views → HasFirstNumbers p t.words

-- what the rule says to a reader: the ten parts hold of a state that the words and views show, and if no seat has made a step
-- the words are those of the start state
pub record ShowsTenParts (p : Plan) (t : TableState) : Type 0 where
  pub split : ℕ
  pub state : State
  pub shows : Shows p t.words t.views split state
  pub parts : HoldsInTenParts p (run_wiring p) (meaning_row p) state
  pub start : HaveNotStepped t.views → HasFirstNumbers p t.words

-- ---- seats before the first step

-- the releaser's, with no seat split off
abbrev pub first_view : Plan → View
first_view p = record { plan = p; role = Releaser (start_of p (run_wiring p)).releaser 0; steps = 0 }

-- the seat of the next task is split off the releaser's
abbrev pub role_with_seat_split : Role → Role
role_with_seat_split (Releaser r seats) = Releaser r (suc seats)
role_with_seat_split (Task i t) = Task i t

abbrev pub with_seat_split : View → View
with_seat_split v = record v { role = role_with_seat_split v.role }

abbrev pub role_of_next_task : Role → Role
role_of_next_task (Releaser r seats) = Task seats first_part
role_of_next_task (Task i t) = Task i t

abbrev pub view_of_next_task : View → View
view_of_next_task v = record { plan = v.plan; role = role_of_next_task v.role; steps = 0 }
