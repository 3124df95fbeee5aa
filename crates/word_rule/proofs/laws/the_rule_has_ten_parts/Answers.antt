use Rattle.dbp_rules.proofs.InTenParts.{in_ten_parts}
use Rattle.dbp_rules.proofs.SoundOwn.{own_wiring}
use Rattle.dbp_rules.specs.declared.step.Count.TheVariants.{All}
use Rattle.word_rule.specs.Roles.{meaning_row, run_wiring}
use Rattle.word_rule.proofs.laws.the_rule_has_ten_parts.Goals as goal

pub returns : goal.returns
returns c = λ p t h. record { split = h.split; state = h.state; shows = h.shows; parts = in_ten_parts p (run_wiring p) (meaning_row p) h.state (own_wiring p All) h.sound; start = h.start }
