use Rattle.dbp_rules.specs.Wired.{wiring_of}
use Rattle.dbp_rules.proofs.InTenParts.{from_ten_parts, in_ten_parts}
use Rattle.dbp_rules.proofs.SoundOwn.{own_wiring}
use Rattle.dbp_rules.proofs.soundness.soundness_has_ten_parts.Goals as goal

pub returns-clause-parts : goal.returns-clause-parts
returns-clause-parts c = λ p count rows s sound. in_ten_parts p (wiring_of p count) rows s (own_wiring p count) sound

pub returns-clause-records : goal.returns-clause-records
returns-clause-records c = λ p count rows s parts. from_ten_parts p (wiring_of p count) rows s (own_wiring p count) parts
