-- Diagrams whose tasks have their ranks.
use Rattle.std.specs.Prelude.{◌≡◌, ◌<◌, All, IsSome, slice_index}
use Rattle.dbp_plan.specs.declared.diagram.Diagram.{Diagram}
use Rattle.dbp_plan.specs.Closed.{IsClosed}
use Rattle.dbp_plan.specs.Policies.{urgency}
use Rattle.dbp_plan.specs.Ranks.{ranks_of}

-- the diagram is closed, and its tasks have the ranks that its policy gives them
pub record IsRanked (d : Diagram) : Type 0 where
  pub closed : IsClosed d
  pub urgencies : All (λ t. IsSome (urgency d.policy t)) d.tasks
  pub ranks : d.ranks ≡ ranks_of d.policy d.tasks
  -- a direct link goes from a higher to a lower rank
  pub downward : All (λ l. l.delay ≡ 0 → slice_index d.ranks l.writer < slice_index d.ranks l.reader) d.links
