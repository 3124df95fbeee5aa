use Rattle.std.proofs.Common.{◌≡◌, ◌<◌, None, length, ◌∙◌, rules}
use Rattle.dia_check.specs.Faults.{decl_fault}
use Rattle.dbp_plan.proofs.FirstFaults.{first-later}
use Rattle.dia_check.proofs.first_line.decls_fault.Goals as goal

pub loop-place-preserved : goal.loop-place-preserved
loop-place-preserved c =
    let below : c.loop-place.place < length c.args.decls.now = search rules in
    let none : None ≡ c.decl_fault.result = search rules in
    first-later decl_fault c.args.decls.now c.args.lines.now c.loop-place.place c.index-decls-place.result c.loop-place.invariant below c.requires c.index-decls-place.is (none ∙ c.decl_fault.ensures)
