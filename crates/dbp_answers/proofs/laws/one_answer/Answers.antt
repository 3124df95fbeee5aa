use Rattle.dbp_answers.proofs.AnswerLaws.{one-answer}
use Rattle.dbp_answers.proofs.laws.one_answer.Goals as goal

pub returns : goal.returns
returns c = one-answer c.one_plan.ensures.one c.one_plan.ensures.none c.one_plan.ensures.one_fault c.one_meaning.ensures c.one_shape.ensures c.bare_bodies_decide_shapes.ensures.diagram c.canonical_text_spells.ensures
