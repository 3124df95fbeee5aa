use Rattle.std.proofs.Common.{◌≡◌, ◌∙◌, Err, ap}
use Rattle.std.specs.Prelude.{zip}
use Rattle.std.proofs.lemmas.Result.{err_from_is_err_and}
use Rattle.dbp_core.specs.Cores.{count_in, plan_in}
use Rattle.dbp_replay.specs.declared.fail.ReplayFail.TheVariants as replay_fail
use Rattle.dbp_replay.proofs.OneReplay.{refused-once}
use Rattle.dbp_replay.proofs.Taken.{taken-not-refused}
use Rattle.dbp_replay.proofs.replaying.replay_on.Goals as goal

pub returns-in_err-all_heard-clause-refused : goal.returns-in_err-all_heard-clause-refused
returns-in_err-all_heard-clause-refused c = λ number why illegal.
    let told = err_from_is_err_and c.from_residual.result c.from_residual.ensures.1 in
    let refused = c.in_err-all_heard.field-0.0 in
    let same = refused-once (plan_in c.args.core.now) (count_in c.args.core.now) c.args.steps.now refused.step number refused.why why c.in_err-all_heard.ensures.illegal illegal in
    told.1 ∙ ap (λ e. Err e) (told.2 ∙ (λ i. replay_fail.Illegal (same.0 i) (same.1 i)))

pub transcript-requires-clause-there : goal.transcript-requires-clause-there
transcript-requires-clause-there c =
    let plan : c.plan.result.now ≡ plan_in c.args.core.now = c.plan.ensures ∙ c.in_ok-all_heard.ensures.plan in
    rw plan c.requires.there

pub transcript-requires-clause-size : goal.transcript-requires-clause-size
transcript-requires-clause-size c = rw c.deref.ensures.value c.in_ok-all_heard.ensures.size

pub returns-in_err-transcript-clause-refused : goal.returns-in_err-transcript-clause-refused
returns-in_err-transcript-clause-refused c = λ number why illegal.
    absurd (taken-not-refused (plan_in c.args.core.now) (count_in c.args.core.now) c.args.steps.now (zip c.args.steps.now c.in_ok-all_heard.all_heard.items) number why c.in_ok-all_heard.ensures.taken illegal)

pub returns-clause-refused : goal.returns-clause-refused
returns-clause-refused c = λ number why illegal.
    absurd (taken-not-refused (plan_in c.args.core.now) (count_in c.args.core.now) c.args.steps.now (zip c.args.steps.now c.in_ok-all_heard.all_heard.items) number why c.in_ok-all_heard.ensures.taken illegal)
