-- Diagrams in which names tell apart what a step can name.
use Rattle.std.specs.Prelude.{◌≢◌, ◌≤◌, ◌<◌, ◌^◌, All, AllPairs}
use Rattle.dbp_rules.specs.declared.step.Step.{Step}
use Rattle.dbp_rules.specs.declared.step.Step.TheVariants.{Aim}
use Rattle.dbp_plan.specs.declared.diagram.Diagram.{Diagram}
use Rattle.dbp_plan.specs.Limits.{max_delay}
use Rattle.dia_check.specs.ItemNames.{AreNamed}

-- the diagram's tasks, and the reads and the outs of each, have names, and no two links are the same
pub record HasNames (d : Diagram) : Type 0 where
  pub tasks : AreNamed (λ t. t.name) d.tasks
  pub reads : All (λ t. AreNamed (λ r. r.name) t.reads) d.tasks
  pub outs : All (λ t. AreNamed (λ o. o.name) t.outs) d.tasks
  pub links : AllPairs (λ k l. k ≢ l) d.links
  -- no link has a longer delay than a script has words for
  pub delays : All (λ l. l.delay ≤ max_delay) d.links

-- the number of an aim's slot has 32 bits
abbrev pub HasSlotNumber : Step → Type 0
HasSlotNumber (Aim i slot) = slot < 2 ^ 32
HasSlotNumber _ = Unit {0}
