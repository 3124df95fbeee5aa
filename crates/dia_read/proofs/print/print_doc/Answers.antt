use Rattle.std.proofs.Common.{subst, sym}
use Rattle.dia_exprs.proofs.Steps.{ok_map}
use Rattle.dia_read.specs.Canonical.{SpellsBody}
use Rattle.dia_read.proofs.RoundTrip.{round-trip}
use Rattle.dia_read.proofs.print.print_doc.Goals as goal

pub returns-clause-again : goal.returns-clause-again
returns-clause-again c = ok_map _ _ c.print_body.result (λ text is. subst (λ bytes. SpellsBody bytes c.args.body.now) (sym is) (round-trip c.args.body.now c.requires)) c.print_body.ensures
