-- Where a reader stands after lines.
use Rattle.std.specs.Prelude.{◌≡◌, List, length, filter}
use Rattle.dia_lines.specs.declared.position.Counts.{Counts}
use Rattle.dia_lines.specs.declared.position.Position.{Position}
use Rattle.dia_lines.specs.Statements.{Statement}
use Rattle.dia_lines.specs.Places.{is_body}
use Rattle.dia_lines.specs.Limits.{is_input, is_event, is_task, is_read, is_out, of_this_task}
use Rattle.dia_lines.specs.Lines.{Content, place_after, version_after, statements}

-- so many statements of each kind stand before, of which the latest is the first
pub record AreCounts (before : List Statement) (counts : Counts) : Type 0 where
  pub inputs : counts.inputs ≡ length (filter is_input before)
  pub events : counts.events ≡ length (filter is_event before)
  pub tasks : counts.tasks ≡ length (filter is_task before)
  pub links : counts.links ≡ length (filter is_read before)
  pub body : counts.body ≡ length (filter is_body (of_this_task before))
  pub reads : counts.reads ≡ length (filter is_read (of_this_task before))
  pub outs : counts.outs ≡ length (filter is_out (of_this_task before))

-- the position after the lines before, of which the latest is the first
pub record IsAfter (before : List Content) (position : Position) : Type 0 where
  pub version : position.version ≡ version_after before
  pub place : position.place ≡ place_after before
  pub counts : AreCounts (statements before) position.counts
