-- The steps of a task's party at the terms of the calls: its own part allows the step at its place, and afterwards it has
-- computed what its place says.
use Rattle.std.proofs.Common.{◌≡◌, ℕ, ◌<◌, length, None, refl, sym, ◌∙◌, ap, subst, arith}
use Rattle.std.proofs.lemmas.Bool.{eq-eqb}
use Rattle.dbp_plan.specs.declared.plan.Plan.{Plan}
use Rattle.dbp_plan.specs.declared.table.TaskRows.{TaskRows}
use Rattle.dbp_rules.specs.PartyRules.{Loaded, task_after, task_refusal}
use Rattle.dbp_rules.specs.Lookups.{read_at, wired_task}
use Rattle.dbp_rules.specs.Shapes.{PlaceIn, running_count}
use Rattle.dbp_rules.specs.Work.{WorkWords}
use Rattle.dbp_rules.specs.declared.parts.Place.{Place}
use Rattle.dbp_rules.specs.declared.parts.Place.TheVariants as place
use Rattle.dbp_rules.specs.declared.parts.TaskPart.{TaskPart}
use Rattle.dbp_rules.specs.declared.step.Step.{Step}
use Rattle.dbp_rules.specs.declared.step.Step.TheVariants.{Start, Hear, Look, Take, Shut, Put, Done, End}
use Rattle.dbp_rules.specs.declared.wiring.TaskWiring.{TaskWiring}
use Rattle.word_rule.specs.Roles.{run_wiring}
use Rattle.word_rule.specs.Seats.{TaskSits, TaskSteps}
use Rattle.word_rule.specs.declared.seats.SlotWords.{SlotWords}
use Rattle.word_rule.specs.declared.seats.TaskSeat.{TaskSeat}
use Rattle.word_rule.proofs.TaskCalls.{shape, task_named, wired_is}
use Rattle.party_turns.specs.Computed.{HasComputed, plan_of_task}

-- ---- the step at a place is allowed

pub may_start : (w : TaskWiring) (t : TaskPart) (i : ℕ) → t.place ≡ place.Idle → task_refusal w t (Start i) ≡ None
may_start w t i at = rw at refl

pub may_hear : (w : TaskWiring) (t : TaskPart) (i n : ℕ) → t.place ≡ place.Hear n → task_refusal w t (Hear i) ≡ None
may_hear w t i n at = rw at refl

pub may_look : (w : TaskWiring) (t : TaskPart) (i n r : ℕ) → t.place ≡ place.Look n → (read_at w n).read ≡ r → task_refusal w t (Look i r) ≡ None
may_look w t i n r at read = rw (at, read, eq-eqb r r refl) refl

pub may_take : (w : TaskWiring) (t : TaskPart) (i n r : ℕ) → t.place ≡ place.Take n → (read_at w n).read ≡ r → task_refusal w t (Take i r) ≡ None
may_take w t i n r at read = rw (at, read, eq-eqb r r refl) refl

pub may_shut : (w : TaskWiring) (t : TaskPart) (i : ℕ) → t.place ≡ place.Shut → task_refusal w t (Shut i) ≡ None
may_shut w t i at = rw at refl

pub may_put : (w : TaskWiring) (t : TaskPart) (i port : ℕ) → t.place ≡ place.Put port → task_refusal w t (Put i port) ≡ None
may_put w t i port at = rw (at, eq-eqb port port refl) refl

pub may_finish : (w : TaskWiring) (t : TaskPart) (i : ℕ) → t.place ≡ place.Done → task_refusal w t (Done i) ≡ None
may_finish w t i at = rw at refl

pub may_end : (w : TaskWiring) (t : TaskPart) (i : ℕ) → t.place ≡ place.End → task_refusal w t (End i) ≡ None
may_end w t i at = rw at refl

-- ---- what the seat's party has after its step

module _ (w : SlotWords) (s new : TaskSeat) (here : TaskSits w s) (steps : TaskSteps s new) where
  pub has_then : (e : Step) (l : Loaded) (work : WorkWords) (rows : TaskRows) → new.part ≡ task_after (wired_task w.wiring s.task) s.part e l
      → HasComputed (plan_of_task s) s.task (task_after (wired_task (run_wiring (plan_of_task s)) s.task) s.part e l) work rows
      → HasComputed (plan_of_task new) new.task new.part work rows
  has_then e l work rows part has =
      let now : task_after (wired_task (run_wiring (plan_of_task s)) s.task) s.part e l ≡ new.part = ap (λ (x : TaskWiring). task_after x s.part e l) (wired_is w s here) ∙ sym part in
      subst (λ (x : Plan × ℕ × TaskPart). HasComputed x.0 x.1 x.2 work rows) (λ j. (sym steps.plan j, sym steps.task j, now j)) has

-- ---- the seat's task is one of those that the words know

module _ (w : SlotWords) (s : TaskSeat) (here : TaskSits w s) where
  pub declared_inside : s.task < length w.plan.diagram.tasks
  declared_inside = task_named w s here

  pub turn_inside : (n : ℕ) → PlaceIn (wired_task (run_wiring (plan_of_task s)) s.task) (place.Look n) → n < length (wired_task w.wiring s.task).reads
  turn_inside n few = let a : n < length (wired_task (run_wiring (plan_of_task s)) s.task).reads = few in let b = ap (λ (x : TaskWiring). length x.reads) (wired_is w s here) in omega arith

  pub look_inside : (n : ℕ) → s.part.place ≡ place.Look n → n < length (wired_task w.wiring s.task).reads
  look_inside n at = turn_inside n (subst (λ (q : Place). PlaceIn (wired_task (run_wiring (plan_of_task s)) s.task) q) at (shape w s here).place)

  pub take_inside : (n : ℕ) → s.part.place ≡ place.Take n → n < length (wired_task w.wiring s.task).reads
  take_inside n at = turn_inside n (subst (λ (q : Place). PlaceIn (wired_task (run_wiring (plan_of_task s)) s.task) q) at (shape w s here).place)

  -- a running instance is one of the task's occurrences
  pub time_inside : running_count s.part.place ≡ 1 → s.part.ended < length (wired_task w.wiring s.task).times
  time_inside busy = let a = (shape w s here).occurs in let b = ap (λ (x : TaskWiring). length x.times) (wired_is w s here) in omega arith
