use Rattle.std.proofs.Common.{◌≡◌, w64, rules}
use Rattle.std.proofs.lemmas.Int.{to_z-of_z}
use Rattle.dia_tokens.specs.Shapes.{IsNameText}
use Rattle.dia_tokens.specs.Values.{of_keyword, of_name, of_number, of_symbol}
use Rattle.std.proofs.lemmas.Bool.Decides.{nat_tests}
use Rattle.dia_tokens.proofs.ValueLaws.{name-from-text}
use Rattle.dia_tokens.proofs.values.token_of.Goals as goal
use mir.Val.{to_z, of_z}

pub returns-in-Keyword-clause-found : goal.returns-in-Keyword-clause-found
returns-in-Keyword-clause-found c = rw c.in-Keyword.is (of_keyword c.in-Keyword.keyword)

pub of_text-requires : goal.of_text-requires
of_text-requires c =
    let s : IsNameText c.in-Name.text.now = rw c.in-Name.is at c.requires in
    name-from-text c.in-Name.text.now s (search (rules, nat_tests))

pub returns-then-text-le-MAX_NAME-clause-found : goal.returns-then-text-le-MAX_NAME-clause-found
returns-then-text-le-MAX_NAME-clause-found c =
    rw (c.in-Name.is, c.of_text.ensures) (of_name c.in-Name.text.now (search (rules, nat_tests)))

pub returns-in-Some-clause-found : goal.returns-in-Some-clause-found
returns-in-Some-clause-found c =
    let shown : to_z w64 (of_z w64 c.in-Some.number) ≡ c.in-Some.number = search (rules, to_z-of_z) in
    rw (c.in-Number.is, shown, c.in-Some.ensures.some.0) (of_number c.in-Number.text.now c.in-Some.ensures.some.1)

pub returns-in-Symbol-clause-found : goal.returns-in-Symbol-clause-found
returns-in-Symbol-clause-found c = rw c.in-Symbol.is (of_symbol c.in-Symbol.symbol)
