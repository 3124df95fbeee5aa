-- The body of a document with priorities by an order of its tasks.
use Rattle.std.specs.Prelude.{ℕ, ◌+◌, ◌-◌, ◌==◌, List, length, map, Some}
use Rattle.std.specs.List.{enumerate_from, position_or_len}
use Rattle.dbp_plan.specs.declared.diagram.Policy.TheVariants.{Fp}
use Rattle.dia_read.specs.declared.document.Body.{Body}
use Rattle.dia_read.specs.declared.document.Doc.{Doc}
use Rattle.dia_read.specs.declared.document.RawTask.{RawTask}

-- the place of task i in the order
abbrev pub place_in : List ℕ → ℕ → ℕ
place_in order i = position_or_len (λ j. j == i) order

-- the task with its number, and with its priority: that of the last is 0, and that of each other one more than that of the next
abbrev pub ranked_task : List ℕ → ℕ × RawTask → RawTask
ranked_task order (i, t) = record t { prio = Some (length order - (place_in order i + 1)) }

-- the body with fixed priorities that fall along the order
abbrev pub ranked_body : Body → List ℕ → Body
ranked_body body order = record body { policy = Fp; tasks = map (ranked_task order) (enumerate_from 0 body.tasks) }

-- the document with such a body, its items on the same lines
abbrev pub ranked_doc : Doc → List ℕ → Doc
ranked_doc doc order = record doc { body = ranked_body doc.body order }
