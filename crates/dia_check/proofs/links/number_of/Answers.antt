use Rattle.std.proofs.Common.{◌≡◌, ◌≤◌, true, length, ◌∙◌, arith}
use Rattle.std.specs.List.{list_any}
use Rattle.dia_check.specs.Diagrams.{is_same_link, link_number}
use Rattle.dia_check.proofs.LinkLists.{add-known, add-new, is-there, not-there}
use Rattle.dia_check.proofs.links.number_of.Goals as goal

pub returns-then-number-len-clause-there : goal.returns-then-number-len-clause-there
returns-then-number-len-clause-there c =
    let links = c.args.links.now in
    let number : c.link_number-number.result ≡ link_number links c.args.link = rw c.items.ensures.value at c.link_number-number.ensures in
    is-there links c.args.link (λ last. absurd (omega (arith, c.if-number-len.true, c.len.ensures, number, last)))

pub returns-then-number-len-clause-added : goal.returns-then-number-len-clause-added
returns-then-number-len-clause-added c =
    let links = c.args.links.now in
    let number : c.link_number-number.result ≡ link_number links c.args.link = rw c.items.ensures.value at c.link_number-number.ensures in
    let known : list_any (λ k. is_same_link k c.args.link) links ≡ true = is-there links c.args.link (λ last. absurd (omega (arith, c.if-number-len.true, c.len.ensures, number, last))) in
    λ used is. add-known used links c.args.link is known

pub returns-clause-added : goal.returns-clause-added
returns-clause-added c =
    let links = c.args.links.now in
    let number : c.link_number-number.result ≡ link_number links c.args.link = rw c.items.ensures.value at c.link_number-number.ensures in
    let last : length links ≤ link_number links c.args.link = omega (arith, c.if-number-len.false, c.len.ensures, number) in
    λ used is. c.in_ok-push.ensures.ok ∙ add-new used links c.args.link is (not-there links c.args.link last)
