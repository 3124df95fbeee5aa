-- What of a document its shape depends on.
use Rattle.std.specs.Prelude.{◌≡◌, map, None}
use Rattle.dbp_plan.specs.declared.diagram.Policy.TheVariants.{Fp}
use Rattle.dia_read.specs.declared.document.Body.{Body}
use Rattle.dia_read.specs.declared.document.Doc.{Doc}
use Rattle.dia_read.specs.declared.document.RawTask.{RawTask}

-- the task without its ranks: name, clock, `when`, cost, processor and parts
abbrev pub bare_raw_task : RawTask → RawTask
bare_raw_task t = record t { prio = None; deadline = None }

-- the declarations, and each task without its ranks
abbrev pub bare_body : Body → Body
bare_body body = record body {
  version = 1;
  policy = Fp;
  until = 0;
  tasks = map bare_raw_task body.tasks;
  trace = None;
  script = None;
}

-- the documents have the same declarations, and the same tasks but for ranks
abbrev pub HaveSameBareBody : Doc → Doc → Type 0
HaveSameBareBody a b = bare_body a.body ≡ bare_body b.body

-- their declarations, tasks and parts stand on the same lines
pub record StandOnSameLines (a b : Doc) : Type 0 where
  pub decls : a.lines.decls ≡ b.lines.decls
  pub tasks : a.lines.tasks ≡ b.lines.tasks
  pub parts : a.lines.parts ≡ b.lines.parts
