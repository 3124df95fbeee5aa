-- What the book keeps of its part.
use Rattle.std.specs.Prelude.{◌≡◌}
use Rattle.dbp_plan.specs.declared.plan.Plan.{Plan}
use Rattle.dbp_rules.specs.PartyShapes.{ReleaserShape}
use Rattle.dbp_rules.specs.Wired.{wiring_of}
use Rattle.dbp_rules.specs.declared.parts.ReleaserPart.{ReleaserPart}
use Rattle.dbp_rules.specs.declared.step.Count.TheVariants.{All}
use Rattle.dbp_rules.specs.declared.wiring.Wiring.{Wiring}

-- in a run of the plan that is wired so, the part keeps what a releaser's part keeps by itself
abbrev pub IsReleaserIn : Wiring → ReleaserPart → Type 0
IsReleaserIn w r = (p : Plan) → w ≡ wiring_of p All → ReleaserShape p w r
