use Rattle.std.proofs.Common.{length, map, ap, ◌∙◌, subst}
use Rattle.std.specs.Prelude.{replicate}
use Rattle.sync_meaning.specs.FirstRows.{first_rows}
use Rattle.sync_meaning.specs.Shape.{HasEnvs, HasFirstStates}
use Rattle.sync_meaning.proofs.ExactInputs.{taken_none}
use Rattle.sync_meaning.proofs.ExactRuns.{streams_none}
use Rattle.dbp_plan.proofs.RankLaws.{length-ranks}
use Rattle.sync_meaning.proofs.Runs.{run_none}
use Rattle.sync_meaning.proofs.run.Run.new.Goals as goal

pub returns-clause-run : goal.returns-clause-run
returns-clause-run c =
    let tasks = c.items-tasks.ensures.value in
    run_none _ _ _ (length-ranks c.args.plan.now.diagram c.args.plan.now.rules.ranked) (c.in_ok-new.ensures.values ∙ ap (map (λ i. i.first)) c.items.ensures.value)
    (subst (λ ts. HasEnvs ts c.in_ok-first_envs.field-0.items) tasks c.in_ok-first_envs.ensures.envs)
    (c.in_ok-zeros.ensures ∙ ap (λ ts. replicate (length ts) 0) tasks)
    (c.in_ok-zeros-2.ensures ∙ ap (λ ts. replicate (length ts) 0) tasks)
    (c.in_ok-first_table.ensures ∙ ap (map first_rows) tasks)

pub returns-clause-taken : goal.returns-clause-taken
returns-clause-taken c = taken_none _ _ _ _ _ c.in_ok-new.ensures.taken (c.in_ok-new.ensures.values ∙ ap (map (λ i. i.first)) c.items.ensures.value)

pub returns-clause-streams : goal.returns-clause-streams
returns-clause-streams c =
    let tasks = c.items-tasks.ensures.value in
    streams_none c.args.plan.now.diagram c.args.plan.now.samples c.args.plan.now.batches _
    (c.in_ok-zeros-2.ensures ∙ ap (λ ts. replicate (length ts) 0) tasks)
    (c.in_ok-first_table.ensures ∙ ap (map first_rows) tasks)
    (subst (λ ts. HasFirstStates ts c.in_ok-first_envs.field-0.items) tasks c.in_ok-first_envs.ensures.states)
