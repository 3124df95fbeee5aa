-- The words of slots are values of 64 bits, from the start and after each step.
use Rattle.std.proofs.Common.{ℕ, zero, suc, ℤ, pos, ◌+◌, ◌-◌, ◌≤◌, All, FitsSigned, w64, List, [], ◌∷◌, length, map, get_or, set, replicate, arith, inl, inr}
use Rattle.std.specs.List.{range_with_len}
use Rattle.std.proofs.lemmas.Bool.{cases_lt}
use Rattle.dbp_plan.specs.declared.diagram.Diagram.{Diagram}
use Rattle.dbp_plan.specs.declared.diagram.Out.{Out}
use Rattle.dbp_plan.specs.declared.diagram.Task.{Task}
use Rattle.dbp_plan.specs.declared.plan.Plan.{Plan}
use Rattle.dbp_plan.specs.Lookups.{declared_task, no_declared_task}
use Rattle.dbp_rules.specs.Moves as move
use Rattle.dbp_rules.specs.Lookups.{no_slot, no_task, slot_at, task, wired_task}
use Rattle.dbp_rules.specs.Rules as rule
use Rattle.dbp_rules.specs.Start.{first_row, start_of, start_slots, start_task}
use Rattle.dbp_rules.specs.WordRanges.{FirstValuesFit, PutWordFits, SlotWordsFit}
use Rattle.dbp_rules.specs.declared.state.Slot.{Slot}
use Rattle.dbp_rules.specs.declared.state.State.{State}
use Rattle.dbp_rules.specs.declared.state.TaskState.{TaskState}
use Rattle.dbp_rules.specs.declared.state.TaskWords.{TaskWords}
use Rattle.dbp_rules.specs.declared.step.Step.{Step}
use Rattle.dbp_rules.specs.declared.step.Step.TheVariants.{Seen, Aim, Claim, OpenGate, Start, Hear, Look, Take, Shut, Put, Done, End}
use Rattle.dbp_rules.specs.declared.wiring.TaskWiring.{TaskWiring}
use Rattle.dbp_rules.specs.declared.wiring.Wiring.{Wiring}

-- ---- lists of which each item, and the default, has a fact

set_each : {X : Type 0} (Q : X → Type 0) (xs : List X) (i : ℕ) (x d : X) → Q x → ((j : ℕ) → Q (get_or xs j d)) → (j : ℕ) → Q (get_or (set xs i x) j d)
set_each Q [] i x d here all j = all j
set_each Q (y ∷ ys) zero x d here all zero = here
set_each Q (y ∷ ys) zero x d here all (suc j) = all (suc j)
set_each Q (y ∷ ys) (suc i) x d here all zero = all zero
set_each Q (y ∷ ys) (suc i) x d here all (suc j) = set_each Q ys i x d here (λ k. all (suc k)) j

map_each : {X Y : Type 0} (Q : Y → Type 0) (f : X → Y) (xs : List X) (d : Y) → Q d → ((x : X) → Q (f x)) → (j : ℕ) → Q (get_or (map f xs) j d)
map_each Q f [] d none each j = none
map_each Q f (x ∷ xs) d none each zero = each x
map_each Q f (x ∷ xs) d none each (suc j) = map_each Q f xs d none each j

all_each : {X Y : Type 0} (Q : Y → Type 0) (f : X → Y) (xs : List X) (d : Y) → Q d → All (λ x. Q (f x)) xs → (j : ℕ) → Q (get_or (map f xs) j d)
all_each Q f [] d none each j = none
all_each Q f (x ∷ xs) d none each zero = each 0 x (omega arith)
all_each Q f (x ∷ xs) d none each (suc j) = all_each Q f xs d none (λ k e below. each (suc k) e (omega arith)) j

pub repeat_each : {X : Type 0} (Q : X → Type 0) (n : ℕ) (x d : X) → Q x → Q d → (j : ℕ) → Q (get_or (replicate n x) j d)
repeat_each Q zero x d here none j = none
repeat_each Q (suc n) x d here none zero = here
repeat_each Q (suc n) x d here none (suc j) = repeat_each Q n x d here none j

-- ---- words, slots and tasks

abbrev Fits : ℤ → Type 0
Fits z = FitsSigned w64 z

abbrev WordsFit : List ℤ → Type 0
WordsFit words = (port : ℕ) → Fits (get_or words port (pos 0))

abbrev AllFit : List Slot → Type 0
AllFit slots = (n : ℕ) → WordsFit (slot_at slots n).words

nothing_fits : Fits (pos 0)
nothing_fits = record { sfits = omega arith }

-- ---- the start

first_fits : (d : Diagram) → FirstValuesFit d → (i : ℕ) → All (λ (o : Out). Fits o.first) (get_or d.tasks i no_declared_task).outs
first_fits d fit i = elim (cases_lt i (length d.tasks)) [
  | inl below ↦ fit i no_declared_task below
  | inr past ↦ outside d.tasks i past
]
  where
    outside : (tasks : List Task) (j : ℕ) → length tasks ≤ j → All (λ (o : Out). Fits o.first) (get_or tasks j no_declared_task).outs
    outside [] j past = λ k o below. absurd (omega arith)
    outside (t ∷ tasks) zero past = absurd (omega arith)
    outside (t ∷ tasks) (suc j) past = outside tasks j (omega arith)

start_slots_fit : (t : TaskWiring) (row : List ℤ) → WordsFit row → AllFit (start_slots t row)
start_slots_fit t row fit zero = fit
start_slots_fit t row fit (suc n) =
    repeat_each (λ (x : Slot). WordsFit x.words) (t.slots - 1) (record { stamp = 0; words = replicate t.ports (pos 0) }) no_slot
    (repeat_each Fits t.ports (pos 0) (pos 0) nothing_fits nothing_fits) (λ port. nothing_fits) n

pub start_fits : (p : Plan) (w : Wiring) → FirstValuesFit p.diagram → SlotWordsFit (start_of p w)
start_fits p w fit =
    map_each (λ (t : TaskState). AllFit t.words.slots) (λ i. start_task (wired_task w i) (declared_task p i)) (range_with_len 0 (length w.tasks)) no_task (λ n port. nothing_fits)
    (λ i. start_slots_fit (wired_task w i) (first_row (declared_task p i)) (all_each Fits (λ (o : Out). o.first) (declared_task p i).outs (pos 0) nothing_fits (first_fits p.diagram fit i)))

-- ---- the steps

task_fits : (s : State) (i : ℕ) (t : TaskState) → SlotWordsFit s → AllFit t.words.slots → SlotWordsFit (rule.with_task s i t)
task_fits s i t fit own = set_each (λ (x : TaskState). AllFit x.words.slots) s.tasks i t no_task own fit

stamped_fits : (t : TaskWords) (n stamp : ℕ) → AllFit t.slots → AllFit (move.with_stamp t n stamp).slots
stamped_fits t n stamp fit = set_each (λ (x : Slot). WordsFit x.words) t.slots n (record (slot_at t.slots n) { stamp = stamp }) no_slot (fit n) fit

word_fits : (t : TaskWords) (n port : ℕ) (word : ℤ) → Fits word → AllFit t.slots → AllFit (move.with_word t n port word).slots
word_fits t n port word here fit =
    set_each (λ (x : Slot). WordsFit x.words) t.slots n (record (slot_at t.slots n) { words = set (slot_at t.slots n).words port word }) no_slot
    (set_each Fits (slot_at t.slots n).words port word (pos 0) here (fit n)) fit

pub step_fits : (p : Plan) (w : Wiring) (s : State) (e : Step) → SlotWordsFit s → PutWordFits s e → SlotWordsFit (rule.next p w s e)
step_fits p w s (Seen i) fit put = fit
step_fits p w s (Aim i slot) fit put = task_fits s i _ fit (fit i)
step_fits p w s (Claim k) fit put = fit
step_fits p w s (OpenGate i) fit put = task_fits s i _ fit (fit i)
step_fits p w s (Start i) fit put = task_fits s i _ fit (fit i)
step_fits p w s (Hear i) fit put = task_fits s i _ fit (fit i)
step_fits p w s (Look i r) fit put = task_fits s i _ fit (fit i)
step_fits p w s (Take i r) fit put = task_fits s i _ fit (fit i)
step_fits p w s (Shut i) fit put = task_fits s i _ fit (stamped_fits (task s i).words (move.own_slot (task s i).part) 0 (fit i))
step_fits p w s (Put i port) fit put = task_fits s i _ fit (word_fits (task s i).words (move.own_slot (task s i).part) port (get_or (task s i).work.row port (pos 0)) put (fit i))
step_fits p w s (Done i) fit put = task_fits s i _ fit (stamped_fits (task s i).words (move.own_slot (task s i).part) ((task s i).part.ended + 2) (fit i))
step_fits p w s (End i) fit put = task_fits s i _ fit (fit i)
