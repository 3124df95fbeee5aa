use Rattle.std.proofs.Common.{◌<◌, ℕ, length, arith, subst, sym}
use Rattle.dbp_rules.specs.Rules.{IsNamedWithin}
use Rattle.dbp_rules.specs.Shapes.{IsWired}
use Rattle.dbp_rules.specs.Wired.{wiring_of}
use Rattle.dbp_rules.proofs.PartKept.{releaser_part_kept, task_part_kept}
use Rattle.dbp_rules.proofs.Wirings.{wiring-whole}
use Rattle.dbp_rules.proofs.party_laws.a_party_keeps_its_part.Goals as goal

pub returns-clause-releaser : goal.returns-clause-releaser
returns-clause-releaser c = λ p count r e l shape named free loads.
    let whole : IsWired p (wiring_of p count) = wiring-whole p count in
    releaser_part_kept p (wiring_of p count) whole r shape e l
    (subst (λ (n : ℕ). IsNamedWithin n (length (wiring_of p count).links) e) (sym whole.tasks) named) free loads

pub returns-clause-task : goal.returns-clause-task
returns-clause-task c = λ p count i t e l named shape free loads.
    let whole : IsWired p (wiring_of p count) = wiring-whole p count in
    let below : i < length (wiring_of p count).tasks = omega (arith, named, whole.tasks) in
    task_part_kept (wiring_of p count) i t shape (whole.each_task i below).some_port e l free loads
