-- The parties of a run, and those whom their steps concern, are among those for which there are bells.
use Rattle.std.proofs.Common.{◌≡◌, ℕ, ◌<◌, ◌≤◌, List, length, get_or, slice_get, Some, sym, ◌∙◌, subst, arith}
use Rattle.dbp_plan.specs.declared.limits.TheConstants.{MAX_TASKS}
use Rattle.release_list.specs.declared.release.Release.TheVariants.{OpenGate}
use Rattle.dbp_rules.specs.Lookups.{wired_task}
use Rattle.dbp_rules.specs.Shapes.{IsWired}
use Rattle.dbp_rules.specs.declared.step.Count.TheVariants.{All}
use Rattle.dbp_rules.specs.declared.wiring.Wiring.{Wiring}
use Rattle.dbp_rules.proofs.IntoTask.{leaving_below}
use Rattle.dbp_rules.proofs.Wirings.{wiring-whole}
use Rattle.word_rule.specs.declared.seats.SlotWords.{SlotWords}

pub few_tasks : (w : SlotWords) → length w.plan.diagram.tasks ≤ MAX_TASKS
few_tasks w = w.plan.rules.ranked.closed.tasks

module _ (w : SlotWords) where
  whole : IsWired w.plan w.wiring
  whole = subst (λ (x : Wiring). IsWired w.plan x) (sym w.wired) (wiring-whole w.plan All)

  pub task_wired : (i : ℕ) → i < length w.plan.diagram.tasks → i < length w.wiring.tasks
  task_wired i inside = omega (arith, inside, whole.tasks)

  -- an action of the list opens the gate of one of the parties
  pub opened_few : (k i : ℕ) → slice_get w.wiring.releases k ≡ Some (OpenGate i) → i ≤ MAX_TASKS
  opened_few k i here = omega (arith, (whole.releases.at_open k i here).named, few_tasks w)

  -- a link that leaves the task is one of the wiring's
  pub leaving_there : (i n : ℕ) (ks : List ℕ) → i < length w.plan.diagram.tasks → ks ≡ (wired_task w.wiring i).leaving → n < length ks → get_or ks n 0 < length w.wiring.links
  leaving_there i n ks inside is few = leaving_below w.wiring i n ks (is ∙ (whole.each_task i (task_wired i inside)).leaving) few
