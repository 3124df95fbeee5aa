-- What a seat learns by each kind of step, and what it knows.
use Rattle.std.specs.Prelude.{◌≡◌, ℕ, ◌+◌, ◌<◌, ◌^◌, [], length, Some, None}
use Rattle.atomic_table.specs.Table.{Me, Step as WordStep}
use Rattle.dbp_slots.specs.TableWords.{TableWord, address_of, aim, claim, ended, gate, sizes_of}
use Rattle.dbp_rules.specs.LoadedWords.{order_of, value_of_word}
use Rattle.dbp_rules.specs.PartyRules.{Loaded, a_number, a_value, an_order, no_word}
use Rattle.dbp_rules.specs.PartyShapes.{ReleaserShape, TaskPartShape}
use Rattle.dbp_rules.specs.declared.parts.ReleaserPart.{ReleaserPart}
use Rattle.dbp_rules.specs.declared.parts.TaskPart.{TaskPart}
use Rattle.dbp_rules.specs.declared.step.Step.{Step}
use Rattle.dbp_rules.specs.declared.step.Step.TheVariants.{Seen, Aim, Claim, OpenGate, Start, Hear, Look, Take, Shut, Put, Done, End}
use Rattle.word_rule.specs.Roles.{RoleLoads, RolePromise, RoleShape, role_after, role_refusal, run_wiring, task_of, word_loaded}
use Rattle.word_rule.specs.declared.views.Role.{Role}
use Rattle.word_rule.specs.declared.views.Role.TheVariants.{Releaser, Task}
use Rattle.word_rule.specs.declared.views.View.{View}

-- a seat as a step sees it: its view, and the slots of the table that it has, of which there are none
abbrev pub Seated : Type 0
Seated = Me (Unit {0}) View

-- how many seats were split off the releaser's
abbrev pub seats_split : Role → ℕ
seats_split (Releaser r seats) = seats
seats_split (Task i t) = 0

-- ---- a seat's data

-- they are those of its view, and in the shape that its part keeps by itself
pub record IsReleaser (me : Seated) (r : ReleaserPart) : Type 0 where
  pub role : me.0.role ≡ Releaser r (seats_split me.0.role)
  pub no_slots : me.1 ≡ []
  pub shape : ReleaserShape me.0.plan (run_wiring me.0.plan) r

pub record IsTask (me : Seated) (i : ℕ) (t : TaskPart) : Type 0 where
  pub role : me.0.role ≡ Task i t
  pub no_slots : me.1 ≡ []
  pub named : i < length me.0.plan.diagram.tasks
  pub shape : TaskPartShape (run_wiring me.0.plan) i t

-- ---- steps

-- one step of the seat
pub record OneStep (me new : Seated) : Type 0 where
  pub plan : new.0.plan ≡ me.0.plan
  pub steps : new.0.steps ≡ me.0.steps + 1
  pub slots : new.1 ≡ me.1

-- its party has made this step, which loaded l: its part is the next one, and what it loaded is in range and as promised
pub record Makes (e : Step) (l : Loaded) (me new : Seated) : Type 0 where
  pub part : new.0.role ≡ role_after (run_wiring me.0.plan) me.0.role e l
  pub loads : RoleLoads (run_wiring me.0.plan) me.0.role e l
  pub promise : RolePromise me.0.plan me.0.role e l
  pub shape : RoleShape me.0.plan new.0.role

-- the address of a word in the seat's table
abbrev pub address_in : Seated → TableWord → ℕ
address_in me q = address_of (sizes_of me.0.plan.diagram) q

-- the word that it loads is the one of this step of its party
abbrev pub LoadsWordOf : Step → WordStep (Unit {0}) → Seated → Type 0
LoadsWordOf e s me = (q : TableWord) → word_loaded (run_wiring me.0.plan) me.0.role e ≡ Some q → s.word ≡ address_in me q

-- the releaser has loaded x, how many instances of the task have ended
pub record Sees (s : WordStep (Unit {0})) (me : Seated) (x : ℕ) (new : Seated) : Type 0 where
  pub one : OneStep me new
  pub small : x < 2 ^ 32
  pub makes : (i : ℕ) → i < length me.0.plan.diagram.tasks → s.word ≡ address_in me (ended i) → Makes (Seen i) (a_number x) me new

-- it has aimed the task at the slot of the order that it stored
pub record Aims (s : WordStep (Unit {0})) (me : Seated) (x : ℕ) (new : Seated) : Type 0 where
  pub one : OneStep me new
  pub makes : (i : ℕ) → i < length me.0.plan.diagram.tasks → s.word ≡ address_in me (aim i) → Makes (Aim i (order_of x).slot) no_word me new

-- it has claimed over the link
pub record Claims (s : WordStep (Unit {0})) (me : Seated) (x : ℕ) (new : Seated) : Type 0 where
  pub one : OneStep me new
  pub makes : (k : ℕ) → k < length me.0.plan.diagram.links → s.word ≡ address_in me (claim k) → Makes (Claim k) no_word me new

-- it has opened the task's gate
pub record Opens (s : WordStep (Unit {0})) (me : Seated) (x : ℕ) (new : Seated) : Type 0 where
  pub one : OneStep me new
  pub makes : (i : ℕ) → i < length me.0.plan.diagram.tasks → s.word ≡ address_in me (gate i) → Makes (OpenGate i) no_word me new

-- the task has loaded x, its gate
pub record Starts (s : WordStep (Unit {0})) (me : Seated) (x : ℕ) (new : Seated) : Type 0 where
  pub one : OneStep me new
  pub small : x < 2 ^ 32
  pub word : (i : ℕ) → task_of me.0.role ≡ Some i → LoadsWordOf (Start i) s me
  pub makes : (i : ℕ) → task_of me.0.role ≡ Some i → Makes (Start i) (a_number x) me new

-- the task has loaded the order with the number x
pub record Hears (s : WordStep (Unit {0})) (me : Seated) (x : ℕ) (new : Seated) : Type 0 where
  pub one : OneStep me new
  pub word : (i : ℕ) → task_of me.0.role ≡ Some i → LoadsWordOf (Hear i) s me
  pub makes : (i : ℕ) → task_of me.0.role ≡ Some i → Makes (Hear i) (an_order (order_of x)) me new

-- its part allows the step
abbrev pub Allows : Seated → Step → Type 0
Allows me e = role_refusal (run_wiring me.0.plan) me.0.role e ≡ None

-- the task has loaded x, the stamp of the slot that it heard of for its next read
pub record Looks (s : WordStep (Unit {0})) (me : Seated) (x : ℕ) (new : Seated) : Type 0 where
  pub one : OneStep me new
  pub word : (i r : ℕ) → task_of me.0.role ≡ Some i → LoadsWordOf (Look i r) s me
  pub makes : (i r : ℕ) → task_of me.0.role ≡ Some i → Allows me (Look i r) → Makes (Look i r) (a_number x) me new

-- it has loaded the word with the number x from there
pub record Takes (s : WordStep (Unit {0})) (me : Seated) (x : ℕ) (new : Seated) : Type 0 where
  pub one : OneStep me new
  pub word : (i r : ℕ) → task_of me.0.role ≡ Some i → LoadsWordOf (Take i r) s me
  pub makes : (i r : ℕ) → task_of me.0.role ≡ Some i → Allows me (Take i r) → Makes (Take i r) (a_value (value_of_word x)) me new

-- it has stamped its slot with 0
pub record Shuts (s : WordStep (Unit {0})) (me : Seated) (x : ℕ) (new : Seated) : Type 0 where
  pub one : OneStep me new
  pub makes : (i : ℕ) → task_of me.0.role ≡ Some i → Makes (Shut i) no_word me new

-- it has stored its next out
pub record Puts (s : WordStep (Unit {0})) (me : Seated) (x : ℕ) (new : Seated) : Type 0 where
  pub one : OneStep me new
  pub makes : (i port : ℕ) → task_of me.0.role ≡ Some i → Allows me (Put i port) → Makes (Put i port) no_word me new

-- it has stamped its slot with its instance
pub record Finishes (s : WordStep (Unit {0})) (me : Seated) (x : ℕ) (new : Seated) : Type 0 where
  pub one : OneStep me new
  pub makes : (i : ℕ) → task_of me.0.role ≡ Some i → Makes (Done i) no_word me new

-- it has said that its instance has ended
pub record Ends (s : WordStep (Unit {0})) (me : Seated) (x : ℕ) (new : Seated) : Type 0 where
  pub one : OneStep me new
  pub makes : (i : ℕ) → task_of me.0.role ≡ Some i → Makes (End i) no_word me new
