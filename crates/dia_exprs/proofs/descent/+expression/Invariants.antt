use Rattle.std.proofs.Common.{◌+◌, ◌*◌, length}
use Rattle.dia_exprs.proofs.Steps.{level_height, joined_height, Between}
use Rattle.dia_exprs.proofs.descent.+expression.Given as goal

abbrev pub decreases-at_level : goal.decreases-at_level
decreases-at_level l = 16 * length l.tokens.now + level_height l.level

abbrev pub decreases-call : goal.decreases-call
decreases-call l = 16 * length l.tokens.now + 15

abbrev pub decreases-choice : goal.decreases-choice
decreases-choice l = 16 * length l.tokens.now + 15

abbrev pub decreases-compared : goal.decreases-compared
decreases-compared l = 16 * length l.tokens.now + 8

abbrev pub decreases-factor : goal.decreases-factor
decreases-factor l = 16 * length l.tokens.now + 2

abbrev pub decreases-inside : goal.decreases-inside
decreases-inside l = 16 * length l.tokens.now + 15

abbrev pub decreases-joined : goal.decreases-joined
decreases-joined l = 16 * length l.tokens.now + joined_height l.level

abbrev pub decreases-prefixed : goal.decreases-prefixed
decreases-prefixed l = 16 * length l.tokens.now + 3

abbrev pub decreases-whole : goal.decreases-whole
decreases-whole l = 16 * length l.tokens.now + 14

abbrev pub invariant-joined-loop-op : goal.invariant-joined-loop-op
invariant-joined-loop-op l = Between l.level l.fn.out l.out l.tokens l.rest

abbrev pub decreases-joined-loop-op : goal.decreases-joined-loop-op
decreases-joined-loop-op l = length l.rest
