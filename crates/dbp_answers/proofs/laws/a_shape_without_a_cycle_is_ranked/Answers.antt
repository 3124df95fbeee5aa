use Rattle.dbp_answers.proofs.RankedTexts.{has-ranked-text}
use Rattle.dbp_answers.proofs.laws.a_shape_without_a_cycle_is_ranked.Goals as goal

pub returns : goal.returns
returns c = has-ranked-text c.bare_bodies_decide_shapes.ensures.diagram c.canonical_text_spells.ensures
