-- The releaser's book beside its seat.
use Rattle.std.specs.Prelude.{◌≡◌}
use Rattle.dbp_plan.specs.declared.plan.Plan.{Plan}
use Rattle.release_book.specs.Books.{IsBookOf, part_in}
use Rattle.release_book.specs.declared.book.Book.{Book}
use Rattle.word_rule.specs.declared.seats.ReleaserSeat.{ReleaserSeat}

-- the plan of the seat's table
abbrev pub plan_of_releaser : ReleaserSeat → Plan
plan_of_releaser s = s.seat.me.0.plan

-- the book is the plan's, and has the seat's part
pub record IsBooked (s : ReleaserSeat) (b : Book) : Type 0 where
  pub book : IsBookOf b (plan_of_releaser s)
  pub part : part_in b ≡ s.part
