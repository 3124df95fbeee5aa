use Rattle.std.proofs.Common.{◌≡◌, refl, sym, ap, ◌∙◌}
use Rattle.std.proofs.lemmas.Option.{none-some, same_Some}
use Rattle.dbp_top.specs.Commands.{made}
use Rattle.dbp_top.specs.declared.operands.Operands.{Operands}
use Rattle.dbp_top.proofs.table.command_by.Goals as goal

pub returns-in-None : goal.returns-in-None
returns-in-None c = λ command. (λ told. absurd (none-some command told), λ named. absurd (none-some named.0 ((c.in-None.ensures named.0).1 named.1)))

pub returns-in-Some : goal.returns-in-Some
returns-in-Some c =
    let maker = c.args.row.now.maker in
    let given = c.in-Some.given in
    λ command. (
      λ told. (given, (c.in-Some.ensures given).0 refl, sym c.made.ensures ∙ told),
      λ named.
          let same : given ≡ named.0 = same_Some given named.0 ((c.in-Some.ensures named.0).1 named.1) in
          c.made.ensures ∙ ap (λ (o : Operands). made maker o) same ∙ named.2,
    )
