use Rattle.std.proofs.Common.{◌∷◌, ap, sym, ◌∙◌}
use Rattle.dbp_load.proofs.NameTexts.{one-digit, two-digits}
use Rattle.dbp_load.proofs.names.numbered.Goals as goal

pub returns-then-number-lt10 : goal.returns-then-number-lt10
returns-then-number-lt10 c = c.name.ensures ∙ ap (λ ds. c.args.letter ∷ ds) (sym (one-digit c.args.number c.if-number-lt10.true))

pub returns-else-number-lt10 : goal.returns-else-number-lt10
returns-else-number-lt10 c = c.name-else-number-lt10.ensures ∙ ap (λ ds. c.args.letter ∷ ds) (sym (two-digits c.args.number c.if-number-lt10.false c.requires.number))
