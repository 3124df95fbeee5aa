use Rattle.std.proofs.Common.{◌≡◌, ◌+◌, ◌<◌, ◌≤◌, ◌∙◌, List, [], ◌∷◌, ℕ, get_or, length, slice_get, Some, refl, sym, ap, subst, arith, length-append}
use Rattle.dbp_plan.specs.declared.schedule.Batch.{Batch}
use Rattle.dbp_plan.specs.Occurrences.{time_of}
use Rattle.dbp_rules.specs.Lookups.{task as state_of, task_entry}
use Rattle.release_list.specs.declared.release.Release.TheVariants as release
use Rattle.instance_steps.specs.Events.{aim_events, aim_of, seen_events}
use Rattle.instance_steps.specs.Recorders.{plan_in, state_in, wiring_in}
use Rattle.instance_steps.specs.Releases.{AddsRelease}
use Rattle.instance_steps.proofs.Adding.{steps_long}
use Rattle.instance_steps.proofs.Aimed.{seen_few}
use Rattle.instance_steps.proofs.AimedTasks.{aimed_all, aimed_more, aimed_none, entries_all, entries_more, next_aim, next_ended, next_first, next_unaimed, tasks_of, time_at}
use Rattle.instance_steps.proofs.recorder.Recorder.aim_tasks.Goals as goal

pub loop-n-init : goal.loop-n-init
loop-n-init c = record {
  adds = aimed_none c.args.self.now c.args.number c.requires.batch c.requires.released c.requires.ended;
  keeps = λ j apart. refl;
  size = omega arith;
  table = refl;
}

pub aim_task-requires-clause-next : goal.aim_task-requires-clause-next
aim_task-requires-clause-next c =
    let size : c.len-n-end.result ≡ length (tasks_of c.args.self.now c.args.number) = c.len-n-end.ensures ∙ ap (λ (b : Batch). length b.tasks) c.requires.same in
    let below : c.loop-n.n < length (tasks_of c.args.self.now c.args.number) = omega (arith, size, c.loop-n-test.true) in
    let items : c.items-tasks.result.now ≡ tasks_of c.args.self.now c.args.number =
    c.items-tasks.ensures.value ∙ ap (λ (b : Batch). b.tasks) c.requires.same in
    subst (λ (l : List ℕ). slice_get (wiring_in c.loop-n.self).releases (state_in c.loop-n.self).releaser.place ≡ Some (release.Aim (get_or l c.loop-n.n 0))) (sym items)
    (next_aim c.args.self.now c.args.number c.requires.batch c.requires.released c.requires.ended c.loop-n.self c.loop-n.n below c.loop-n.invariant.adds c.loop-n.invariant.keeps)

pub aim_task-requires-clause-ended : goal.aim_task-requires-clause-ended
aim_task-requires-clause-ended c =
    let size : c.len-n-end.result ≡ length (tasks_of c.args.self.now c.args.number) = c.len-n-end.ensures ∙ ap (λ (b : Batch). length b.tasks) c.requires.same in
    let below : c.loop-n.n < length (tasks_of c.args.self.now c.args.number) = omega (arith, size, c.loop-n-test.true) in
    let items : c.items-tasks.result.now ≡ tasks_of c.args.self.now c.args.number =
    c.items-tasks.ensures.value ∙ ap (λ (b : Batch). b.tasks) c.requires.same in
    subst (λ (l : List ℕ). (state_of (state_in c.loop-n.self) (get_or l c.loop-n.n 0)).part.ended ≡ (task_entry (state_in c.loop-n.self) (get_or l c.loop-n.n 0)).aimed) (sym items)
    (next_ended c.args.self.now c.args.number c.requires.batch c.requires.released c.requires.ended c.loop-n.self c.loop-n.n below c.loop-n.invariant.adds c.loop-n.invariant.keeps)

pub aim_task-requires-clause-first : goal.aim_task-requires-clause-first
aim_task-requires-clause-first c = λ first.
    let size : c.len-n-end.result ≡ length (tasks_of c.args.self.now c.args.number) = c.len-n-end.ensures ∙ ap (λ (b : Batch). length b.tasks) c.requires.same in
    let below : c.loop-n.n < length (tasks_of c.args.self.now c.args.number) = omega (arith, size, c.loop-n-test.true) in
    let items : c.items-tasks.result.now ≡ tasks_of c.args.self.now c.args.number =
    c.items-tasks.ensures.value ∙ ap (λ (b : Batch). b.tasks) c.requires.same in
    let time : c.args.batch.now.time ≡ time_at c.args.self.now c.args.number =
    ap (λ (b : Batch). b.time) c.requires.same in
    let own : time_of (plan_in c.loop-n.self).batches (get_or (tasks_of c.args.self.now c.args.number) c.loop-n.n 0) 1 ≡ time_at c.args.self.now c.args.number =
    ap (λ (l : List ℕ). time_of (plan_in c.loop-n.self).batches (get_or l c.loop-n.n 0) 1) (sym items) ∙ first ∙ time in
    ap (λ (l : List ℕ). (task_entry (state_in c.loop-n.self) (get_or l c.loop-n.n 0)).aimed) items
    ∙ next_first c.args.self.now c.args.number c.requires.batch c.requires.released c.requires.ended c.loop-n.self c.loop-n.n below c.loop-n.invariant.adds c.loop-n.invariant.keeps own

pub aim_task-requires-clause-unaimed : goal.aim_task-requires-clause-unaimed
aim_task-requires-clause-unaimed c = λ none.
    let size : c.len-n-end.result ≡ length (tasks_of c.args.self.now c.args.number) = c.len-n-end.ensures ∙ ap (λ (b : Batch). length b.tasks) c.requires.same in
    let below : c.loop-n.n < length (tasks_of c.args.self.now c.args.number) = omega (arith, size, c.loop-n-test.true) in
    let items : c.items-tasks.result.now ≡ tasks_of c.args.self.now c.args.number =
    c.items-tasks.ensures.value ∙ ap (λ (b : Batch). b.tasks) c.requires.same in
    let time : c.args.batch.now.time ≡ time_at c.args.self.now c.args.number =
    ap (λ (b : Batch). b.time) c.requires.same in
    let own : (task_entry (state_in c.loop-n.self) (get_or (tasks_of c.args.self.now c.args.number) c.loop-n.n 0)).aimed ≡ 0 =
    ap (λ (l : List ℕ). (task_entry (state_in c.loop-n.self) (get_or l c.loop-n.n 0)).aimed) (sym items) ∙ none in
    ap (λ (l : List ℕ). time_of (plan_in c.loop-n.self).batches (get_or l c.loop-n.n 0) 1) items
    ∙ next_unaimed c.args.self.now c.args.number c.requires.batch c.requires.released c.requires.ended c.loop-n.self c.loop-n.n below c.loop-n.invariant.adds c.loop-n.invariant.keeps own
    ∙ sym time

pub loop-n-preserved : goal.loop-n-preserved
loop-n-preserved c =
    let a = c.args.self.now in
    let size : c.len-n-end.result ≡ length (tasks_of c.args.self.now c.args.number) = c.len-n-end.ensures ∙ ap (λ (b : Batch). length b.tasks) c.requires.same in
    let below : c.loop-n.n < length (tasks_of c.args.self.now c.args.number) = omega (arith, size, c.loop-n-test.true) in
    let items : c.items-tasks.result.now ≡ tasks_of c.args.self.now c.args.number =
    c.items-tasks.ensures.value ∙ ap (λ (b : Batch). b.tasks) c.requires.same in
    let time : c.args.batch.now.time ≡ time_at c.args.self.now c.args.number =
    ap (λ (b : Batch). b.time) c.requires.same in
    let one : AddsRelease c.loop-n.self c.aim_task.new.self (aim_events (plan_in c.loop-n.self) (time_at c.args.self.now c.args.number) (get_or (tasks_of c.args.self.now c.args.number) c.loop-n.n 0)) ((state_in c.loop-n.self).releaser.place + 1) =
    subst (λ (t : ℕ). AddsRelease c.loop-n.self c.aim_task.new.self (aim_events (plan_in c.loop-n.self) t (get_or (tasks_of c.args.self.now c.args.number) c.loop-n.n 0)) ((state_in c.loop-n.self).releaser.place + 1)) time
    (subst (λ (l : List ℕ). AddsRelease c.loop-n.self c.aim_task.new.self (aim_events (plan_in c.loop-n.self) c.args.batch.now.time (get_or l c.loop-n.n 0)) ((state_in c.loop-n.self).releaser.place + 1)) items c.in_ok-aim_task.ensures.adds) in
    let few : length (aim_events (plan_in c.loop-n.self) (time_at c.args.self.now c.args.number) (get_or (tasks_of c.args.self.now c.args.number) c.loop-n.n 0)) ≤ 2 =
    omega (arith, length-append (seen_events (plan_in c.loop-n.self) (time_at c.args.self.now c.args.number) (get_or (tasks_of c.args.self.now c.args.number) c.loop-n.n 0)) (aim_of (get_or (tasks_of c.args.self.now c.args.number) c.loop-n.n 0) ∷ []), seen_few (plan_in c.loop-n.self) (time_at c.args.self.now c.args.number) (get_or (tasks_of c.args.self.now c.args.number) c.loop-n.n 0)) in
    record {
      adds = aimed_more a c.args.number c.requires.batch c.requires.released c.requires.ended c.loop-n.self c.loop-n.n below c.loop-n.invariant.adds c.loop-n.invariant.keeps c.aim_task.new.self one;
      keeps = entries_more a c.args.number c.requires.batch c.requires.released c.requires.ended c.loop-n.self c.loop-n.n below c.loop-n.invariant.adds c.loop-n.invariant.keeps c.aim_task.new.self one
          (λ j other. c.in_ok-aim_task.ensures.others j (λ same. other (same ∙ ap (λ (l : List ℕ). get_or l c.loop-n.n 0) items)));
      size = omega (arith, steps_long _ _ _ one.steps, few, c.loop-n.invariant.size);
      table = c.in_ok-aim_task.ensures.table ∙ c.loop-n.invariant.table;
    }

pub returns-clause-adds : goal.returns-clause-adds
returns-clause-adds c =
    let size : c.len-n-end.result ≡ length (tasks_of c.args.self.now c.args.number) = c.len-n-end.ensures ∙ ap (λ (b : Batch). length b.tasks) c.requires.same in
    let all : c.loop-n.n ≡ length (tasks_of c.args.self.now c.args.number) = omega (arith, size, c.loop-n-test.false, c.loop-n.auto.n-end) in
    aimed_all c.args.self.now c.args.number c.requires.batch c.requires.released c.requires.ended c.loop-n.self c.loop-n.n all c.loop-n.invariant.adds

pub returns-clause-others : goal.returns-clause-others
returns-clause-others c =
    let size : c.len-n-end.result ≡ length (tasks_of c.args.self.now c.args.number) = c.len-n-end.ensures ∙ ap (λ (b : Batch). length b.tasks) c.requires.same in
    let all : c.loop-n.n ≡ length (tasks_of c.args.self.now c.args.number) = omega (arith, size, c.loop-n-test.false, c.loop-n.auto.n-end) in
    entries_all c.args.self.now c.args.number c.requires.batch c.requires.released c.requires.ended c.loop-n.self c.loop-n.n all c.loop-n.invariant.keeps
