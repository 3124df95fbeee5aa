use Rattle.std.proofs.Common.{◌≡◌, ◌<◌, ℕ, List, Some, None, length, get_or, ap, ◌∙◌, sym}
use Rattle.dbp_plan.specs.declared.diagram.Link.{Link}
use Rattle.dbp_plan.specs.Ranks.{ranks_of}
use Rattle.dia_check.specs.declared.shaped.ReadLine.{ReadLine}
use Rattle.dia_check.specs.RankFaults.{read_rank_fault}
use Rattle.dia_check.proofs.RankLaws.{read_line_fault, link-of-read, rest-here, rest-later}
use Rattle.dia_check.proofs.rank_faults.reads_rank_fault.Goals as goal

pub returns-in-Some : goal.returns-in-Some
returns-in-Some c =
    let ranks : List ℕ = ranks_of c.args.policy c.args.tasks.now in
    let links = c.args.links.now in
    let reads = c.args.reads.now in
    let no_read : ReadLine = record { line = 0; link = 0 } in
    let no_link : Link = record { writer = 0; reader = 0; delay = 0 } in
    let r : ReadLine = get_or reads c.loop-read.read-index no_read in
    let below : r.link < length links = c.requires.linked c.loop-read.read-index no_read c.loop-read-test.true in
    let fault : read_rank_fault ranks links r ≡ Some c.in-Some.fault = link-of-read ranks links r no_link below ∙ sym c.link_rank_fault.ensures ∙ c.in-Some.is in
    rest-here (read_line_fault ranks links) reads c.loop-read.read-index no_read r.line c.in-Some.fault c.loop-read.invariant c.loop-read-test.true (ap (λ f. (r.line, f)) fault)

pub loop-read-preserved : goal.loop-read-preserved
loop-read-preserved c =
    let ranks : List ℕ = ranks_of c.args.policy c.args.tasks.now in
    let links = c.args.links.now in
    let reads = c.args.reads.now in
    let no_read : ReadLine = record { line = 0; link = 0 } in
    let no_link : Link = record { writer = 0; reader = 0; delay = 0 } in
    let r : ReadLine = get_or reads c.loop-read.read-index no_read in
    let below : r.link < length links = c.requires.linked c.loop-read.read-index no_read c.loop-read-test.true in
    let none : read_rank_fault ranks links r ≡ None = link-of-read ranks links r no_link below ∙ sym c.link_rank_fault.ensures ∙ c.in_default.is in
    rest-later (read_line_fault ranks links) reads c.loop-read.read-index no_read r.line c.loop-read.invariant c.loop-read-test.true (ap (λ f. (r.line, f)) none)
