use Rattle.dia_read.proofs.FaultLaws.{one-first-fault}
use Rattle.dia_read.proofs.read.read_text.Goals as goal

pub returns-then-is_blank_text-clause-blank : goal.returns-then-is_blank_text-clause-blank
returns-then-is_blank_text-clause-blank c line code blank first =
    let same = one-first-fault c.args.bytes.now 1 line c.blank_fault.result code c.blank_fault.ensures first in
    let at = same.0 in
    let is = same.1 in
    cc
