use Rattle.std.proofs.Common.{◌≡◌, ℕ, [], ◌∷◌, ◌++◌, true, refl, sym, ap, ◌∙◌}
use Rattle.std.proofs.lemmas.Option.{same_Some}
use Rattle.dbp_plan.specs.NameLists.{index_of, is_among}
use Rattle.dbp_plan.specs.declared.diagram.Link.{Link}
use Rattle.dia_check.specs.Diagrams.{link_number, links_of, links_used}
use Rattle.dia_check.specs.Names.{port_names, task_names}
use Rattle.dia_check.proofs.ReadSteps.{kept-number}
use Rattle.dia_check.proofs.reads.read_of.Goals as goal

pub returns-clause-read : goal.returns-clause-read
returns-clause-read c used more is whole =
    let tasks = c.args.body.now.tasks in
    let a : ℕ = index_of (task_names tasks) c.in-Read.task in
    let b : ℕ = index_of (port_names tasks c.in-Read.task) c.in-Read.port in
    let known : is_among (port_names tasks c.in-Read.task) c.in-Read.port ≡ true = rw c.in-Read.is at c.requires.known in
    let both : (c.in-Some.writer, c.in-Some.port) ≡ (a, b) = same_Some (c.in-Some.writer, c.in-Some.port) (a, b) (sym c.in-Some.is ∙ c.port_index.ensures ∙ rw known refl) in
    let l : Link = record { writer = c.in-Some.writer; reader = c.args.reader; delay = c.in-Read.delay } in
    let m : Link = record { writer = a; reader = c.args.reader; delay = c.in-Read.delay } in
    let same : l ≡ m = λ j. record { writer = (both j).0; reader = c.args.reader; delay = c.in-Read.delay } in
    let parted : links_used tasks 0 tasks ≡ (used ++ m ∷ []) ++ more = rw c.in-Read.is at whole in
    let number : c.in_ok-link.link ≡ link_number (links_of tasks) m =
    c.in_ok-link.ensures.number ∙ kept-number tasks used more c.number_of.new.links l m same (c.in_ok-link.ensures.added used is) c.in_ok-link.ensures.there parted in
    let port : c.in-Some.port ≡ b = λ j. (both j).1 in
    rw (c.in-Read.is, number, port) refl

pub returns-clause-lines : goal.returns-clause-lines
returns-clause-lines c used more is whole =
    let tasks = c.args.body.now.tasks in
    let a : ℕ = index_of (task_names tasks) c.in-Read.task in
    let b : ℕ = index_of (port_names tasks c.in-Read.task) c.in-Read.port in
    let known : is_among (port_names tasks c.in-Read.task) c.in-Read.port ≡ true = rw c.in-Read.is at c.requires.known in
    let both : (c.in-Some.writer, c.in-Some.port) ≡ (a, b) = same_Some (c.in-Some.writer, c.in-Some.port) (a, b) (sym c.in-Some.is ∙ c.port_index.ensures ∙ rw known refl) in
    let l : Link = record { writer = c.in-Some.writer; reader = c.args.reader; delay = c.in-Read.delay } in
    let m : Link = record { writer = a; reader = c.args.reader; delay = c.in-Read.delay } in
    let same : l ≡ m = λ j. record { writer = (both j).0; reader = c.args.reader; delay = c.in-Read.delay } in
    let parted : links_used tasks 0 tasks ≡ (used ++ m ∷ []) ++ more = rw c.in-Read.is at whole in
    let number : c.in_ok-link.link ≡ link_number (links_of tasks) m =
    c.in_ok-link.ensures.number ∙ kept-number tasks used more c.number_of.new.links l m same (c.in_ok-link.ensures.added used is) c.in_ok-link.ensures.there parted in
    rw c.in-Read.is (c.in_ok-push.ensures.ok ∙ ap (λ (n : ℕ). c.args.found.now.lines ++ record { line = c.args.line; link = n } ∷ []) number)
