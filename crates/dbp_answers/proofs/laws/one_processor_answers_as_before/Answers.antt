use Rattle.std.proofs.Common.{◌≡◌, All, false, refl, subst}
use Rattle.dbp_plan.specs.declared.plan.Plan.{Plan}
use Rattle.trace_io.specs.Texts.{Accepts}
use Rattle.dbp_answers.specs.declared.command.Command.TheVariants.{Cpus, Sim}
use Rattle.dbp_answers.specs.declared.processors.Processors.TheVariants.{One, Declared}
use Rattle.dbp_answers.proofs.OneProcessor.{answered-too}
use Rattle.dbp_answers.proofs.laws.one_processor_answers_as_before.Goals as goal

pub returns : goal.returns
returns c = λ input plan cpu accepted same status text.
    let alike : (p : Plan) → Accepts input p → All (λ t. t.cpu ≡ cpu) p.diagram.tasks = λ p also.
    subst (λ (q : Plan). All (λ t. t.cpu ≡ cpu) q.diagram.tasks) (c.one_plan.ensures.one input plan p accepted also) same in
    let as_before = c.one_processor_serves_as_before.ensures in (
      answered-too Declared One input (λ p also. (as_before.none p cpu (alike p also)).0) (λ p also t x. (as_before.overrun p cpu (alike p also) t x).0) (Sim false) refl (Cpus false) status text refl,
      answered-too One Declared input (λ p also. (as_before.none p cpu (alike p also)).1) (λ p also t x. (as_before.overrun p cpu (alike p also) t x).1) (Cpus false) refl (Sim false) status text refl,
    )
