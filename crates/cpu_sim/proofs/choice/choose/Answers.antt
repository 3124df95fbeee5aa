use Rattle.std.specs.Prelude.{is_some, not}
use Rattle.std.proofs.Common.{◌≡◌, ◌<◌, ◌+◌, ◌∙◌, ℕ, List, length, get_or, set, Option, Some, None, sym, ap, subst, arith}
use Rattle.std.proofs.lemmas.List.{get_or_default, length-set}
use Rattle.dbp_plan.specs.declared.diagram.Task.{Task}
use Rattle.dbp_plan.specs.Lookups.{declared_task, no_declared_task}
use Rattle.dbp_plan.proofs.PlanRules.{closed_task}
use Rattle.cpu_sim.specs.Choices.{IsFirstFree}
use Rattle.cpu_sim.proofs.Choices.{choices_are, held_at, none_past, passes_blocked, passes_later, takes_it}
use Rattle.cpu_sim.proofs.choice.choose.Goals as goal
use Rattle.cpu_sim.proofs.choice.choose.Goals.{then-is_none+then-not-is_blocked, else-is_none, else-is_none-via-then-is_none+else-not-is_blocked, else-is_none-via-else-is_none}

pub returns-in_default : goal.returns-in_default
returns-in_default c =
    let t = c.requires.together in
    choices_are c.args.plan.now c.args.run.now t.at t.until c.loop-index.chosen c.loop-index.index c.in_default.ensures.item c.loop-index.invariant.each

pub bounds-items-task : goal.bounds-items-task
bounds-items-task c =
    let t = c.requires.together in
    let (a, at) = c.in-Some.ensures.item in
    let small = (held_at c.args.plan.now c.args.run.now t.at t.until c.loop-index.index c.in-Some.task a at).small in
    omega (arith, small, ap (length {A = Task}) c.items.ensures.value)

pub bounds-items-task-in-Some : goal.bounds-items-task-in-Some
bounds-items-task-in-Some c =
    let t = c.requires.together in
    let (a, at) = c.in-Some.ensures.item in
    let small = (held_at c.args.plan.now c.args.run.now t.at t.until c.loop-index.index c.in-Some.task a at).small in
    omega (arith, small, ap (length {A = Task}) c.items.ensures.value)

pub bounds-chosen-cpu : goal.bounds-chosen-cpu
bounds-chosen-cpu c =
    let p = c.args.plan.now in
    let t = c.requires.together in
    let i = c.in-Some.task in
    let (a, at) = c.in-Some.ensures.item in
    let small = (held_at p c.args.run.now t.at t.until c.loop-index.index i a at).small in
    let own = ap (λ (l : List Task). get_or l i c.index-items-task.result) c.items.ensures.value ∙ get_or_default p.diagram.tasks i c.index-items-task.result no_declared_task small in
    omega (arith, ap (λ (b : Task). b.cpu) own, (closed_task p i small).cpu)

pub is_blocked-requires-clause-task : goal.is_blocked-requires-clause-task
is_blocked-requires-clause-task c =
    let t = c.requires.together in
    let (a, at) = c.in-Some.ensures.item in
    (held_at c.args.plan.now c.args.run.now t.at t.until c.loop-index.index c.in-Some.task a at).small

pub is_blocked-requires-clause-some : goal.is_blocked-requires-clause-some
is_blocked-requires-clause-some c =
    let t = c.requires.together in
    let (a, at) = c.in-Some.ensures.item in
    (held_at c.args.plan.now c.args.run.now t.at t.until c.loop-index.index c.in-Some.task a at).some

pub bounds-chosen-cpu-then-not-is_blocked : goal.bounds-chosen-cpu-then-not-is_blocked
bounds-chosen-cpu-then-not-is_blocked c =
    let p = c.args.plan.now in
    let t = c.requires.together in
    let i = c.in-Some.task in
    let (a, at) = c.in-Some.ensures.item in
    let small = (held_at p c.args.run.now t.at t.until c.loop-index.index i a at).small in
    let own = ap (λ (l : List Task). get_or l i c.index-items-task.result) c.items.ensures.value ∙ get_or_default p.diagram.tasks i c.index-items-task.result no_declared_task small in
    omega (arith, ap (λ (b : Task). b.cpu) own, (closed_task p i small).cpu)

pub loop-index-preserved : goal.loop-index-preserved
loop-index-preserved c =
    let p = c.args.plan.now in
    let t = c.requires.together in
    let run = c.args.run.now in
    let i = c.in-Some.task in
    let n = c.loop-index.index in
    let chosen = c.loop-index.chosen in
    let (a, at) = c.in-Some.ensures.item in
    let small = (held_at p run t.at t.until n i a at).small in
    let own = ap (λ (l : List Task). get_or l i c.index-items-task.result) c.items.ensures.value ∙ get_or_default p.diagram.tasks i c.index-items-task.result no_declared_task small in
    let cpu : (get_or c.items.result.now i c.index-items-task.result).cpu ≡ (declared_task p i).cpu = ap (λ (b : Task). b.cpu) own in
    let some : is_some (get_or chosen (declared_task p i).cpu None) ≡ not c.is_none.result = subst (λ (d : ℕ). is_some (get_or chosen d None) ≡ not c.is_none.result) cpu c.is_none.ensures in
    elim c.if-is_none.branch [
      | then-is_none+then-not-is_blocked w ↦
          let is : c.if-is_none.chosen ≡ set chosen (declared_task p i).cpu (Some i) = w.chosen-is ∙ ap (λ (d : ℕ). set chosen d (Some i)) cpu in
          record {
            long = ap length is ∙ length-set chosen (declared_task p i).cpu (Some i) ∙ c.loop-index.invariant.long;
            each = subst (λ (l : List (Option ℕ)). (d : ℕ) → d < 8 → IsFirstFree p run d (n + 1) (get_or l d None)) (sym is)
                (takes_it p run t.at t.until n i a at chosen c.loop-index.invariant.long (omega (arith, (closed_task p i small).cpu)) (some ∙ ap not w.if-is_none.true) (sym w.is_blocked.ensures ∙ w.if-not-is_blocked.true) c.loop-index.invariant.each);
          }
      | else-is_none w ↦
          let first : (d : ℕ) → d < 8 → IsFirstFree p run d (n + 1) (get_or chosen d None) = elim w.else-is_none.branch [
            | else-is_none-via-then-is_none+else-not-is_blocked v ↦ passes_blocked p run t.at t.until n i a at chosen (sym v.is_blocked.ensures ∙ v.if-not-is_blocked.false) c.loop-index.invariant.each
            | else-is_none-via-else-is_none v ↦ passes_later p run t.at t.until n i a at chosen (some ∙ ap not v.if-is_none.false) c.loop-index.invariant.each
          ] in
          record {
            long = ap length w.chosen-is ∙ c.loop-index.invariant.long;
            each = subst (λ (l : List (Option ℕ)). (d : ℕ) → d < 8 → IsFirstFree p run d (n + 1) (get_or l d None)) (sym w.chosen-is) first;
          }
    ]

pub returns : goal.returns
returns c =
    let t = c.requires.together in
    choices_are c.args.plan.now c.args.run.now t.at t.until c.loop-index.chosen c.loop-index.index (none_past c.args.plan.now c.args.run.now t.at t.until c.loop-index.index (omega (arith, c.loop-index-test.false, c.loop-index.auto.index-end, c.len-index-end.ensures)))
    c.loop-index.invariant.each
