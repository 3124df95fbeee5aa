use Rattle.std.proofs.Common.{◌≡◌, ℕ, ◌<◌, length, get_or, None}
use Rattle.cpu_sim.specs.Choices.{IsFirstFree}
use Rattle.cpu_sim.proofs.choice.choose.Given as goal

abbrev pub invariant-loop-index : goal.invariant-loop-index
invariant-loop-index l = record {
  long : length l.chosen ≡ 8;
  each : (c : ℕ) → c < 8 → IsFirstFree l.plan l.run c l.index (get_or l.chosen c None);
}
