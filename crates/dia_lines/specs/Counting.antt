-- The counts after one more line.
use Rattle.std.specs.Prelude.{◌≡◌, ℕ, ◌+◌, nat_lt, List, ◌∷◌, Some, None, Result, Ok, Err, if◌then◌else◌}
use Rattle.dbp_plan.specs.declared.limits.TheConstants.{MAX_TASKS, MAX_INPUTS, MAX_EVENTS, MAX_READS, MAX_READ_LINES, MAX_OUTS, MAX_BODY}
use Rattle.dia_lines.specs.declared.fault.Limit.{Limit}
use Rattle.dia_lines.specs.declared.fault.Limit.TheVariants as limit
use Rattle.dia_lines.specs.declared.item.Decl.TheVariants.{Input, Event}
use Rattle.dia_lines.specs.declared.item.Line.{Line}
use Rattle.dia_lines.specs.declared.item.Line.TheVariants as line
use Rattle.dia_lines.specs.declared.item.Part.{Part}
use Rattle.dia_lines.specs.declared.item.Part.TheVariants as part
use Rattle.dia_lines.specs.declared.position.Counts.{Counts}
use Rattle.dia_lines.specs.Statements.{Statement}
use Rattle.dia_lines.specs.Limits.{passed_count}
use Rattle.dia_lines.specs.Positions.{AreCounts}

-- after a statement the counts are these, or it is one past the limit
abbrev pub Counted : List Statement → Statement → Result Counts Limit → Type 0
Counted before s (Ok counts) = (passed_count before s ≡ None) × AreCounts (s ∷ before) counts
Counted before s (Err limit) = passed_count before s ≡ Some limit

infixl 10 ◌>>=◌
abbrev pub ◌>>=◌ : {A B : Type 0} → Result A Limit → (A → Result B Limit) → Result B Limit
(Ok x) >>= f = f x
(Err e) >>= f = Err e

-- one more of a kind
abbrev pub one_more : ℕ → ℕ → Limit → Result ℕ Limit
one_more count most name = if nat_lt count most then Ok (count + 1) else Err name

abbrev pub with_part : Counts → Part → Result Counts Limit
with_part c (part.Read n d t p a) = do
  body ← one_more c.body MAX_BODY limit.Body
  reads ← one_more c.reads MAX_READS limit.Reads
  links ← one_more c.links MAX_READ_LINES limit.Links
  Ok (record c { body = body; reads = reads; links = links })
with_part c (part.Out n v e) = do
  body ← one_more c.body MAX_BODY limit.Body
  outs ← one_more c.outs MAX_OUTS limit.Outs
  Ok (record c { body = body; outs = outs })
with_part c _ = one_more c.body MAX_BODY limit.Body >>= λ body. Ok (record c { body = body })

abbrev pub with_line : Counts → Line → Result Counts Limit
with_line c (line.Decl (Input n v)) = one_more c.inputs MAX_INPUTS limit.Inputs >>= λ inputs. Ok (record c { inputs = inputs })
with_line c (line.Decl (Event n)) = one_more c.events MAX_EVENTS limit.Events >>= λ events. Ok (record c { events = events })
with_line c (line.Task t) = one_more c.tasks MAX_TASKS limit.Tasks >>= λ tasks. Ok (record c { tasks = tasks; body = 0; reads = 0; outs = 0 })
with_line c (line.Part p) = with_part c p
with_line c _ = Ok c
