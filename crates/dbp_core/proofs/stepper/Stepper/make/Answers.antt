use Rattle.std.proofs.Common.{Ok}
use Rattle.std.proofs.Math.Logic.{∥∥₁_elim}
use Rattle.dbp_rules.specs.Listing.{with_releases}
use Rattle.dbp_rules.proofs.SoundKept.{asked_sound}
use Rattle.dbp_rules.proofs.StateKept.{asked_kept}
use Rattle.dbp_core.proofs.stepper.Stepper.make.Goals as goal

pub invariant_of-self : goal.invariant_of-self
invariant_of-self c =
    let old = c.args.self.now in
    let wiring = with_releases old.plan.value old.wiring in
    record {
      wired = old.wired;
      sound = ∥∥₁_elim old.sound (hlevel) (λ sound. ∣ asked_sound old.plan.value wiring old.state c.make.new.state c.args.step (Ok c.make.result) old.wired sound c.requires.named (rw c.deref.ensures at c.make.ensures) ∣₁);
      shape = asked_kept old.plan.value wiring old.state c.make.new.state c.args.step (Ok c.make.result) old.shape c.requires.named (rw c.deref.ensures at c.make.ensures);
    }
