use Rattle.release_book.specs.Books.{IsBookOf}
use Rattle.protocol_tests.proofs.book.runs.take_turns.Given as goal

abbrev pub invariant-loop-turn : goal.invariant-loop-turn
invariant-loop-turn g l = IsBookOf l.book l.plan
