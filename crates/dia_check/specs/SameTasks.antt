-- What of a document its checked diagram depends on, besides its end.
use Rattle.std.specs.Prelude.{◌≡◌}
use Rattle.dia_read.specs.declared.document.Body.{Body}

-- the bodies have the same policy, declarations and tasks
pub record HaveSameTasks (a b : Body) : Type 0 where
  pub policy : a.policy ≡ b.policy
  pub decls : a.decls ≡ b.decls
  pub tasks : a.tasks ≡ b.tasks
