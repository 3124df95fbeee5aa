use Rattle.std.proofs.Common.{◌≡◌, ◌≢◌, ℕ, ◌+◌, List, [], subst, rules}
use Rattle.dia_lines.specs.declared.place.Place.TheVariants.{Ended}
use Rattle.dia_read.specs.Drafts.{drafted}
use Rattle.dia_read.proofs.OneMore.{nothing-left}
use Rattle.dia_read.proofs.KeptLines.{kept-is, kept-short}
use Rattle.dia_read.proofs.Reaching.{Reached, reached-start, reached-more, first-line}
use Rattle.dia_lines.specs.Lines.{statements}
use Rattle.dia_read.proofs.Paired.{paired-end}
use Rattle.dia_read.proofs.Printing.{prints-end}
use Rattle.dia_read.proofs.Ending.{ended, unended, refused}
use Rattle.dia_read.proofs.read.read_lines.Goals as goal

pub loop-rest-init : goal.loop-rest-init
loop-rest-init c = rw c.new-draft.ensures (reached-start c.args.bytes.now c.start-position.result c.start-position.ensures)

pub add-requires-clause-kept : goal.add-requires-clause-kept
add-requires-clause-kept c =
    let i = c.loop-rest.invariant in
    let read = c.in-Ok.ensures.found i.before i.after in
    kept-short i.before c.next_line.result.0.now read.0 c.in-Ok.item read.1 read.2

pub returns-in-Err-clause-fault : goal.returns-in-Err-clause-fault
returns-in-Err-clause-fault c =
    let i = c.loop-rest.invariant in
    let first = first-line c.args.bytes.now c.loop-rest.rest.now c.loop-rest.number c.loop-rest.position c.loop-rest.draft i c.next_line.result.0.now c.next_line.result.1.now
    c.next_line.ensures.value c.next_line.ensures.shorter c.next_line.ensures.within in
    rw c.refused_at.ensures (refused c.args.bytes.now c.loop-rest.number i.before c.next_line.result.0.now c.in-Err.error c.requires.full (c.in-Err.ensures.fault i.before i.after) first)

pub loop-rest-preserved : goal.loop-rest-preserved
loop-rest-preserved c =
    let i = c.loop-rest.invariant in
    let read = c.in-Ok.ensures.found i.before i.after in
    let kept = kept-is i.before c.next_line.result.0.now read.0 c.in-Ok.item read.1 read.2 in
    let more = reached-more c.args.bytes.now c.loop-rest.rest.now c.loop-rest.number c.loop-rest.position c.loop-rest.draft i c.next_line.result.0.now c.next_line.result.1.now
    c.next_line.ensures.value c.next_line.ensures.shorter c.next_line.ensures.within c.in-Ok.item c.read_line_with.new.position read in
    let here = λ (text : List ℕ). Reached c.args.bytes.now c.next_line.result.1.now (c.loop-rest.number + 1) c.read_line_with.new.position (drafted c.loop-rest.draft (c.loop-rest.number + 1) text c.in-Ok.item) in
    rw c.in_ok-add-in-Ok.ensures (subst here kept more)

pub returns-in_ok-finish-clause-found : goal.returns-in_ok-finish-clause-found
returns-in_ok-finish-clause-found c =
    let end : c.loop-rest.rest.now ≡ [] = nothing-left c.loop-rest.rest.now (search rules) in
    let i = subst (λ r. Reached c.args.bytes.now r c.loop-rest.number c.loop-rest.position c.loop-rest.draft) end c.loop-rest.invariant in
    rw c.in_ok-finish.ensures (ended c.args.bytes.now c.loop-rest.number c.loop-rest.position c.loop-rest.draft i (search rules))

pub returns-in_ok-finish-clause-printable : goal.returns-in_ok-finish-clause-printable
returns-in_ok-finish-clause-printable c =
    let i = c.loop-rest.invariant in
    rw c.in_ok-finish.ensures (prints-end (statements i.before) c.loop-rest.draft i.printing)

pub returns-in_ok-finish-clause-lines : goal.returns-in_ok-finish-clause-lines
returns-in_ok-finish-clause-lines c = rw c.in_ok-finish.ensures (paired-end c.loop-rest.draft c.loop-rest.invariant.paired)

pub returns-else-is_ended-clause-fault : goal.returns-else-is_ended-clause-fault
returns-else-is_ended-clause-fault c =
    let end : c.loop-rest.rest.now ≡ [] = nothing-left c.loop-rest.rest.now (search rules) in
    let i = subst (λ r. Reached c.args.bytes.now r c.loop-rest.number c.loop-rest.position c.loop-rest.draft) end c.loop-rest.invariant in
    let open_end : c.loop-rest.position.place ≢ Ended = search rules in
    unended c.args.bytes.now c.loop-rest.number c.loop-rest.position c.loop-rest.draft i c.requires.full open_end
