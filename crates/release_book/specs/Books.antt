-- What a contract sees of a book.
use Rattle.std.specs.Prelude.{◌≡◌}
use Rattle.dbp_plan.specs.declared.plan.Plan.{Plan}
use Rattle.dbp_rules.specs.Wired.{wiring_of}
use Rattle.dbp_rules.specs.declared.parts.ReleaserPart.{ReleaserPart}
use Rattle.dbp_rules.specs.declared.step.Count.TheVariants.{All}
use Rattle.release_book.specs.declared.book.Book.{Book}

abbrev pub part_in : Book → ReleaserPart
part_in b = b.part

-- the book was made for the plan
abbrev pub IsBookOf : Book → Plan → Type 0
IsBookOf b p = b.wiring ≡ wiring_of p All
