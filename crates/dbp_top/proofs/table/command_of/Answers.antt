use Rattle.std.proofs.Common.{ℕ, ◌<◌, Some, String, Global, List, length, get_or, refl, sym, ap, subst, arith, below_more}
use Rattle.std.proofs.lemmas.Option.{same_Some}
use Rattle.dbp_top.specs.Commands.{HasAllCommands, CommandRow, Names, NamesBy, by_row, row_of}
use Rattle.dbp_answers.specs.declared.command.Command.{Command}
use Rattle.dbp_top.specs.declared.table.Row.{Row}
use Rattle.dbp_top.proofs.CommandRows.{listed-row, no_row, one-command, row-listed}
use Rattle.dbp_top.proofs.table.command_of.Goals as goal

pub loop-row-preserved : goal.loop-row-preserved
loop-row-preserved c = below_more _ _ c.loop-row.invariant (λ command named. let told = (c.command_by.ensures command).1 named in let none = c.in_default.not-Some in absurd cc)

pub returns-in-Some : goal.returns-in-Some
returns-in-Some c =
    let rows = c.rows-row-items.result.now in
    let k = c.loop-row.row-index in
    let row = get_or rows k no_row in
    let found = c.in-Some.command in
    let named : Names c.args.arguments.now found =
    by_row k (row_of row) found (row-listed rows k no_row c.rows-row-items.ensures (omega arith)) ((c.in-Some.ensures found).0 refl) in
    λ command. (
      λ told. subst (λ (d : Command). Names c.args.arguments.now d) (same_Some found command told) named,
      λ other. ap (λ (d : Command). Some d) (one-command c.args.arguments.now found command named other),
    )

-- arguments that name no command by a row name none
no-names : (rows : List Row) (arguments : List (String Global)) (command : Command) → HasAllCommands rows
    → ((k : ℕ) → k < length rows → (other : Command) → NamesBy (row_of (get_or rows k no_row)) arguments other → ⊥) → Names arguments command → ⊥
no-names rows arguments command all none (by_row k line _ at named) =
    let row = listed-row rows k no_row line all at in
    none k row.0 command (subst (λ (l : CommandRow). NamesBy l arguments command) (sym row.1) named)

pub returns : goal.returns
returns c =
    let rows = c.rows-row-items.result.now in
    let none : (k : ℕ) → k < length rows → (command : Command) → NamesBy (row_of (get_or rows k no_row)) c.args.arguments.now command → ⊥ =
    λ k below. c.loop-row.invariant k (omega arith) in
    λ command. (λ told. absurd cc, λ named. absurd (no-names rows c.args.arguments.now command c.rows-row-items.ensures none named))
