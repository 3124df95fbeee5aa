use Rattle.std.proofs.Common.{arith, ℕ, List, ◌≡◌, ◌<◌, ◌≤◌, ◌+◌, ◌⊎◌, ◌↔◌, length, get_or, set, sym, ap, ◌∙◌, subst}
use Rattle.std.proofs.lemmas.List.{get_or_default}
use Rattle.dbp_plan.specs.declared.diagram.Task.{Task}
use Rattle.dbp_plan.specs.declared.schedule.Batch.{Batch}
use Rattle.dbp_plan.specs.Lookups.{declared_task, no_declared_task}
use Rattle.rank_order.specs.Queue.{Holds}
use Rattle.instance_steps.specs.Releases.{batch_at, no_batch}
use Rattle.virtual_time.specs.State.{Sets}
use Rattle.dbp_plan.proofs.PlanRules as rules
use Rattle.virtual_time.proofs.Renewing.{one_more}
use Rattle.virtual_time.proofs.Running.{sets_at}
use Rattle.virtual_time.proofs.Whole.{absent, renewed}
use Rattle.virtual_time.proofs.run.Run.renew.Goals as goal

pub add-requires-clause-absent : goal.add-requires-clause-absent
add-requires-clause-absent g c =
    let (run, (waiting, (more, (due, free)))) = c.requires in
    let plan = c.args.plan.now in
    let r = c.args.self.now in
    let inv = c.loop-task.invariant in
    let j = c.loop-task.task-index in
    let batch_is : c.index-items-self.result ≡ batch_at plan r.released = c.index-items-self.is ∙ ap (λ (l : List Batch). get_or l r.released c.index-items-self.result) c.items.ensures.value ∙ get_or_default plan.batches r.released c.index-items-self.result no_batch more in
    let tasks_is : c.items-task-items.result.now ≡ (batch_at plan r.released).tasks = c.items-task-items.ensures.value ∙ ap (λ (b : Batch). b.tasks) batch_is in
    let small : j < length (batch_at plan r.released).tasks = omega (arith, c.loop-task-test.true, ap (length {A = ℕ}) tasks_is) in
    subst (λ (l : List ℕ). (a : ℕ) → Holds c.loop-task.self.ready (get_or l j 0) a → ⊥) (sym tasks_is)
    (absent plan g.cpus waiting r run more due j c.loop-task.self.rest.items c.loop-task.self.ready inv.renewing small free)

pub loop-task-preserved : goal.loop-task-preserved
loop-task-preserved g c =
    let (run, (waiting, (more, (due, free)))) = c.requires in
    let plan = c.args.plan.now in
    let r = c.args.self.now in
    let inv = c.loop-task.invariant in
    let j = c.loop-task.task-index in
    let batch_is : c.index-items-self.result ≡ batch_at plan r.released = c.index-items-self.is ∙ ap (λ (l : List Batch). get_or l r.released c.index-items-self.result) c.items.ensures.value ∙ get_or_default plan.batches r.released c.index-items-self.result no_batch more in
    let tasks_is : c.items-task-items.result.now ≡ (batch_at plan r.released).tasks = c.items-task-items.ensures.value ∙ ap (λ (b : Batch). b.tasks) batch_is in
    let small : j < length (batch_at plan r.released).tasks = omega (arith, c.loop-task-test.true, ap (length {A = ℕ}) tasks_is) in
    let t = get_or c.items-task-items.result.now j 0 in
    let t_is : t ≡ get_or (batch_at plan r.released).tasks j 0 = ap (λ (l : List ℕ). get_or l j 0) tasks_is in
    let inside = rules.inside plan r.released j no_batch more small in
    let there : t < length plan.diagram.tasks = omega (arith, t_is, inside) in
    let lt : t < length c.loop-task.self.rest.items = omega (arith, there, inv.renewing.long, run.at.rests) in
    let cost = (get_or c.items-in-loop-task.result.now t c.index-items-task.result).cost in
    let cost_is : cost ≡ (declared_task plan t).cost =
    ap (λ (l : List Task). (get_or l t c.index-items-task.result).cost) c.items-in-loop-task.ensures.value ∙ ap (λ (x : Task). x.cost) (get_or_default plan.diagram.tasks t c.index-items-task.result no_declared_task there) in
    let time_is : c.index-items-self.result.time ≡ r.time = ap (λ (b : Batch). b.time) batch_is ∙ sym due in
    record {
      renewing = one_more plan (batch_at plan r.released).tasks j r.time r.rest.items c.loop-task.self.rest.items r.ready c.loop-task.self.ready inv.renewing small
          _ c.add.new.self t t_is
          (subst (λ (n : ℕ). Sets 0 c.loop-task.self.rest.items t n (set c.loop-task.self.rest.items t cost)) cost_is (sets_at 0 c.loop-task.self.rest.items t cost lt))
          c.add.ensures.made
          (subst (λ (n : ℕ). (i a : ℕ) → Holds c.add.new.self i a ↔ (((i ≡ t) × (a ≡ n)) ⊎ Holds c.loop-task.self.ready i a)) time_is c.add.ensures.held);
      time = inv.time;
      released = inv.released;
      ends = inv.ends;
    }

pub returns-clause-run : goal.returns-clause-run
returns-clause-run g c =
    let (run, (waiting, (more, (due, free)))) = c.requires in
    let plan = c.args.plan.now in
    let r = c.args.self.now in
    let inv = c.loop-task.invariant in
    let j = c.loop-task.task-index in
    let batch_is : c.index-items-self.result ≡ batch_at plan r.released = c.index-items-self.is ∙ ap (λ (l : List Batch). get_or l r.released c.index-items-self.result) c.items.ensures.value ∙ get_or_default plan.batches r.released c.index-items-self.result no_batch more in
    let tasks_is : c.items-task-items.result.now ≡ (batch_at plan r.released).tasks = c.items-task-items.ensures.value ∙ ap (λ (b : Batch). b.tasks) batch_is in
    let all : length (batch_at plan r.released).tasks ≤ j = omega (arith, c.loop-task-test.false, ap (length {A = ℕ}) tasks_is) in
    renewed plan g.cpus waiting r run more due j _ all inv.renewing free inv.time (ap (λ (n : ℕ). n + 1) inv.released) inv.ends
