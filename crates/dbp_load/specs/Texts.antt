-- The text of a generated document.
use Rattle.std.specs.Prelude.{ℕ, List}
use Rattle.dia_read.specs.Canonical.{canonical_text}
use Rattle.dbp_load.specs.Bodies.{generated_body}

abbrev pub generated_text : ℕ → ℕ → List ℕ
generated_text seed size = canonical_text (generated_body seed size)
