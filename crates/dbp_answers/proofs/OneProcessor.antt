-- Where the tasks of a plan are on one processor, simulations on one and on their own have the same lines and the same overrun.
use Rattle.std.proofs.Common.{◌≡◌, ℕ, List, false, subst}
use Rattle.dbp_plan.specs.declared.plan.Plan.{Plan}
use Rattle.dia_read.specs.declared.document.Doc.{Doc}
use Rattle.rank_order.specs.Ends.{IsOverrun}
use Rattle.rank_order.specs.Instances.{Instance}
use Rattle.trace_io.specs.Texts.{Accepts}
use Rattle.dbp_answers.specs.Answer.{Answers, IsOverrunLine, IsRefused, Makes, PlanOverrun, PlanRefusal, PlanText, line_of, made, no_plan, no_text, not_ranked, of_body, of_generated, of_plan, of_plan_overrun, of_plan_refused, of_seed, of_shape, overran, overrun, refused, simulated_lines}
use Rattle.dbp_answers.specs.Commands.{Output, a_simulation, at_nothing, at_plan, looks}
use Rattle.dbp_answers.specs.Simulations.{IsInTime, left_in}
use Rattle.dbp_answers.specs.declared.command.Command.{Command}
use Rattle.dbp_answers.specs.declared.processors.Processors.{Processors}
use Rattle.dbp_answers.specs.declared.refusal.Refusal.{Refusal}
use Rattle.dbp_answers.specs.declared.status.Status.{Status}
use Rattle.dbp_answers.proofs.AnswerLaws.{looks-at-plan, not-shape-and-plan, not-text-and-plan, one-output}

module _ (a b : Processors) (p : Plan) (in_time : IsInTime p a → IsInTime p b) (late : (t : ℕ) (x : Instance) → IsOverrun p (left_in p a) t x → IsOverrun p (left_in p b) t x) where
  other-lines : (doc : Doc) (text : List ℕ) → PlanText doc p (a_simulation a false) text → PlanText doc p (a_simulation b false) text
  other-lines doc text (simulated_lines c table early meant) = simulated_lines b table (in_time early) meant

  other-overrun : (x : Instance) (t : ℕ) → PlanOverrun p (a_simulation a false) x t → PlanOverrun p (a_simulation b false) x t
  other-overrun x t (overrun c record_it y u is) = overrun b false x t (late t x is)

never-refused : (doc : Doc) (p : Plan) (a : Processors) (r : Refusal) → PlanRefusal doc p (a_simulation a false) r → ⊥
never-refused doc p a r refuses = elim refuses [ ]

module _
    (a b : Processors) (input : List ℕ)
    (in_time : (p : Plan) → Accepts input p → IsInTime p a → IsInTime p b)
    (late : (p : Plan) → Accepts input p → (t : ℕ) (x : Instance) → IsOverrun p (left_in p a) t x → IsOverrun p (left_in p b) t x)
    (g : Command) (there : looks g ≡ at_plan (a_simulation b false))
  where
    made-too : (f : Command) (text : List ℕ) → looks f ≡ at_plan (a_simulation a false) → Makes input f text → Makes input g text
    made-too f text here (of_body f' make doc looked spelled) = absurd (not-text-and-plan f make looked (looks-at-plan f (a_simulation a false) here))
    made-too f text here (of_shape f' text' looked is) = absurd (not-shape-and-plan f looked (looks-at-plan f (a_simulation a false) here))
    made-too f text here (of_plan f' o p text' accepted looked makes) =
        of_plan g (a_simulation b false) p text accepted there
        (other-lines a b p (in_time p accepted) (late p accepted) accepted.doc text (subst (λ (w : Output). PlanText accepted.doc p w text) (one-output f o (a_simulation a false) looked here) makes))
    made-too f text here (of_seed seed size) = absurd (let no : at_nothing ≡ at_plan (a_simulation a false) = here in cc)
    made-too f text here (of_generated seed size p text' accepted is) = absurd (let no : at_nothing ≡ at_plan (a_simulation a false) = here in cc)

    refused-too : (f : Command) (r : Refusal) → looks f ≡ at_plan (a_simulation a false) → IsRefused input f r → IsRefused input g r
    refused-too f r here (no_text make line code looked fault) = absurd (not-text-and-plan f make looked (looks-at-plan f (a_simulation a false) here))
    refused-too f r here (not_ranked r' looked refuses) = absurd (not-shape-and-plan f looked (looks-at-plan f (a_simulation a false) here))
    refused-too f r here (no_plan line code checks fault) = no_plan line code (looks-at-plan g (a_simulation b false) there) fault
    refused-too f r here (of_plan_refused o p r' accepted looked refuses) =
        absurd (never-refused accepted.doc p a r (subst (λ (w : Output). PlanRefusal accepted.doc p w r) (one-output f o (a_simulation a false) looked here) refuses))

    overran-too : (f : Command) (line : List ℕ) → looks f ≡ at_plan (a_simulation a false) → IsOverrunLine input f line → IsOverrunLine input g line
    overran-too f line here (line_of name n t (of_plan_overrun o p x t' accepted looked is)) =
        line_of name n t (of_plan_overrun (a_simulation b false) p x t accepted there
        (other-overrun a b p (in_time p accepted) (late p accepted) x t (subst (λ (w : Output). PlanOverrun p w x t) (one-output f o (a_simulation a false) looked here) is)))

    pub answered-too : (f : Command) (s : Status) (text : List ℕ) → looks f ≡ at_plan (a_simulation a false) → Answers input f s text → Answers input g s text
    answered-too f s text here (made text' makes) = made text (made-too f text here makes)
    answered-too f s text here (refused r is) = refused r (refused-too f r here is)
    answered-too f s text here (overran line is) = overran line (overran-too f line here is)
