use Rattle.std.proofs.Common.{arith, List, ◌≡◌, get_or, refl, ap, ◌∙◌}
use Rattle.std.proofs.lemmas.List.{get_or_default}
use Rattle.dbp_plan.specs.declared.schedule.Batch.{Batch}
use Rattle.instance_steps.specs.Releases.{batch_at, no_batch}
use Rattle.dbp_plan.proofs.PlanRules as rules
use Rattle.virtual_time.specs.Runs.{all_at}
use Rattle.virtual_time.proofs.Running.{rested, until_next}
use Rattle.virtual_time.proofs.run.Run.wait.Goals as goal

pub returns-clause-run : goal.returns-clause-run
returns-clause-run g c =
    let (run, (more, (ahead, none))) = c.requires in
    let plan = c.args.plan.now in
    let r = c.args.self.now in
    let is : get_or c.items.result.now r.released c.index-items-self.result ≡ batch_at plan r.released =
    ap (λ (l : List Batch). get_or l r.released c.index-items-self.result) c.items.ensures.value ∙ get_or_default plan.batches r.released c.index-items-self.result no_batch more in
    let limit = ap (λ (b : Batch). b.time) is in
    let early = rules.small_times plan r.released no_batch more in
    rested plan (all_at g.cpus r.time) r run none _ _ _ (λ k. omega (arith, ahead, limit)) (until_next plan r.released more) early limit refl refl refl refl
