-- The counts after one more line are those of the statements.
use Rattle.std.proofs.Common.{◌≡◌, ℕ, ℤ, Bool, true, false, List, ◌∷◌, length, filter, Option, Ok, refl, arith, ◌⊎◌, inl, inr}
use Rattle.std.specs.Prelude.{nat_lt, nat_le}
use Rattle.std.proofs.lemmas.Bool.Decides.{nat_tests}
use Rattle.dbp_plan.specs.declared.limits.TheConstants.{MAX_TASKS, MAX_INPUTS, MAX_EVENTS, MAX_READS, MAX_READ_LINES, MAX_OUTS, MAX_BODY}
use Rattle.dia_lines.specs.declared.fault.Limit.TheVariants as limit
use Rattle.dia_lines.specs.declared.item.Decl.TheVariants.{Input, Event}
use Rattle.dia_lines.specs.declared.item.Line.{Line}
use Rattle.dia_lines.specs.declared.item.Line.TheVariants as line
use Rattle.dia_lines.specs.declared.item.TaskLine.{TaskLine}
use Rattle.dia_lines.specs.declared.item.Part.{Part}
use Rattle.dia_lines.specs.declared.item.Part.TheVariants as part
use Rattle.dia_lines.specs.declared.position.Counts.{Counts}
use Rattle.dbp_plan.specs.declared.expr.Expr.{Expr}
use Rattle.dbp_plan.specs.Tree.{Tree}
use Rattle.dia_lines.specs.Statements.{Statement, TaskHeader, nothing, header, policy, until, input, event, task, state, sense, read, a_let, a_next, out, trace, script, done}
use Rattle.dia_lines.specs.Places.{is_body}
use Rattle.dia_lines.specs.Limits.{is_input, is_event, is_task, is_read, is_out, of_this_task}
use Rattle.dia_lines.specs.Positions.{AreCounts}
use Rattle.dia_lines.specs.Held.{IsKept, IsPart}
use Rattle.dia_lines.specs.Counting.{Counted, ◌>>=◌, one_more, with_part, with_line}

cases_bool : (b : Bool) → (b ≡ true) ⊎ (b ≡ false)
cases_bool true = inl refl
cases_bool false = inr refl

-- a count is full, or one more fits
data Room (count most : ℕ) : Type 0 where
  room : nat_lt count most ≡ true → nat_le most count ≡ false → Room count most
  full : nat_lt count most ≡ false → nat_le most count ≡ true → Room count most

room_at : (count most : ℕ) → Room count most
room_at count most = elim (cases_bool (nat_lt count most)) [
  | inl e ↦ room e (grind (arith, nat_tests))
  | inr e ↦ full e (grind (arith, nat_tests))
]

-- ---- lines of a body

-- a statement of a body that is neither a read nor an out
record IsPlain (s : Statement) : Type 0 where
  no_input : is_input s ≡ false
  no_event : is_event s ≡ false
  no_task : is_task s ≡ false
  body : is_body s ≡ true
  no_read : is_read s ≡ false
  no_out : is_out s ≡ false

counted-plain : (before : List Statement) (s : Statement) (c : Counts) → AreCounts before c → IsPlain s → Room c.body MAX_BODY
    → Counted before s (one_more c.body MAX_BODY limit.Body >>= λ body. Ok (record c { body = body }))
counted-plain before s c a p (room fits below) =
    let there : nat_le MAX_BODY (length (filter is_body (of_this_task before))) ≡ false = rw (← a.body) below in
    rw fits (
      simp (p.no_input, p.no_event, p.no_task, p.body, p.no_read, p.no_out, there) refl,
      record {
        inputs = simp p.no_input a.inputs;
        events = simp p.no_event a.events;
        tasks = simp p.no_task a.tasks;
        links = simp p.no_read a.links;
        body = simp (p.no_task, p.body) (let e = a.body in omega arith);
        reads = simp (p.no_task, p.no_read) a.reads;
        outs = simp (p.no_task, p.no_out) a.outs;
      },
    )
counted-plain before s c a p (full fits below) =
    let there : nat_le MAX_BODY (length (filter is_body (of_this_task before))) ≡ true = rw (← a.body) below in
    rw fits (simp (p.no_input, p.no_event, p.no_task, p.body, there) refl)

counted-out : (before : List Statement) (n : List ℕ) (v : ℤ) (x : Tree (List ℕ)) (m : List ℕ) (w : ℤ) (e : Expr (List ℕ)) (c : Counts) → AreCounts before c
    → Room c.body MAX_BODY → Room c.outs MAX_OUTS → Counted before (out n v x) (with_part c (part.Out m w e))
counted-out before n v x m w e c a (room fits below) (room fits' below') =
    let there : nat_le MAX_BODY (length (filter is_body (of_this_task before))) ≡ false = rw (← a.body) below in
    let there' : nat_le MAX_OUTS (length (filter is_out (of_this_task before))) ≡ false = rw (← a.outs) below' in
    rw (fits, fits') (
      rw (there, there') refl,
      record {
        inputs = a.inputs;
        events = a.events;
        tasks = a.tasks;
        links = a.links;
        body = omega (arith, a.body);
        reads = a.reads;
        outs = omega (arith, a.outs);
      },
    )
counted-out before n v x m w e c a (room fits below) (full fits' below') =
    let there : nat_le MAX_BODY (length (filter is_body (of_this_task before))) ≡ false = rw (← a.body) below in
    let there' : nat_le MAX_OUTS (length (filter is_out (of_this_task before))) ≡ true = rw (← a.outs) below' in
    rw (fits, fits') (rw (there, there') refl)
counted-out before n v x m w e c a (full fits below) r =
    let there : nat_le MAX_BODY (length (filter is_body (of_this_task before))) ≡ true = rw (← a.body) below in
    rw fits (rw there refl)

counted-read : (before : List Statement) (n w q : List ℕ) (d : Option ℤ) (at : ℤ) (m t p : List ℕ) (k i : ℕ) (c : Counts) → AreCounts before c
    → Room c.body MAX_BODY → Room c.reads MAX_READS → Room c.links MAX_READ_LINES → Counted before (read n d w q at) (with_part c (part.Read m k t p i))
counted-read before n w q d at m t p k i c a (room fits below) (room fits' below') (room fits'' below'') =
    let there : nat_le MAX_BODY (length (filter is_body (of_this_task before))) ≡ false = rw (← a.body) below in
    let there' : nat_le MAX_READS (length (filter is_read (of_this_task before))) ≡ false = rw (← a.reads) below' in
    let there'' : nat_le MAX_READ_LINES (length (filter is_read before)) ≡ false = rw (← a.links) below'' in
    rw (fits, fits', fits'') (
      rw (there, there', there'') refl,
      record {
        inputs = a.inputs;
        events = a.events;
        tasks = a.tasks;
        links = omega (arith, a.links);
        body = omega (arith, a.body);
        reads = omega (arith, a.reads);
        outs = a.outs;
      },
    )
counted-read before n w q d at m t p k i c a (room fits below) (room fits' below') (full fits'' below'') =
    let there : nat_le MAX_BODY (length (filter is_body (of_this_task before))) ≡ false = rw (← a.body) below in
    let there' : nat_le MAX_READS (length (filter is_read (of_this_task before))) ≡ false = rw (← a.reads) below' in
    let there'' : nat_le MAX_READ_LINES (length (filter is_read before)) ≡ true = rw (← a.links) below'' in
    rw (fits, fits', fits'') (rw (there, there', there'') refl)
counted-read before n w q d at m t p k i c a (room fits below) (full fits' below') r =
    let there : nat_le MAX_BODY (length (filter is_body (of_this_task before))) ≡ false = rw (← a.body) below in
    let there' : nat_le MAX_READS (length (filter is_read (of_this_task before))) ≡ true = rw (← a.reads) below' in
    rw (fits, fits') (rw (there, there') refl)
counted-read before n w q d at m t p k i c a (full fits below) r l =
    let there : nat_le MAX_BODY (length (filter is_body (of_this_task before))) ≡ true = rw (← a.body) below in
    rw fits (rw there refl)

pub counted-part : (before : List Statement) (s : Statement) (p : Part) (c : Counts) → AreCounts before c → IsPart s p → Counted before s (with_part c p)
counted-part before (state n v) (part.State m w) c a k = counted-plain before (state n v) c a (record { no_input = refl; no_event = refl; no_task = refl; body = refl; no_read = refl; no_out = refl }) (room_at c.body MAX_BODY)
counted-part before (sense n i) (part.Sense m j) c a k = counted-plain before (sense n i) c a (record { no_input = refl; no_event = refl; no_task = refl; body = refl; no_read = refl; no_out = refl }) (room_at c.body MAX_BODY)
counted-part before (a_let n x) (part.Let m e) c a k = counted-plain before (a_let n x) c a (record { no_input = refl; no_event = refl; no_task = refl; body = refl; no_read = refl; no_out = refl }) (room_at c.body MAX_BODY)
counted-part before (a_next n x) (part.Next m e) c a k = counted-plain before (a_next n x) c a (record { no_input = refl; no_event = refl; no_task = refl; body = refl; no_read = refl; no_out = refl }) (room_at c.body MAX_BODY)
counted-part before (read n d w q at) (part.Read m k t p i) c a h = counted-read before n w q d at m t p k i c a (room_at c.body MAX_BODY) (room_at c.reads MAX_READS) (room_at c.links MAX_READ_LINES)
counted-part before (out n v x) (part.Out m w e) c a k = counted-out before n v x m w e c a (room_at c.body MAX_BODY) (room_at c.outs MAX_OUTS)
counted-part before s p c a k = absurd k

-- ---- other lines

same-counts : (before after : List Statement) (c : Counts) → filter is_input after ≡ filter is_input before → filter is_event after ≡ filter is_event before
    → filter is_task after ≡ filter is_task before → filter is_read after ≡ filter is_read before
    → filter is_body (of_this_task after) ≡ filter is_body (of_this_task before) → filter is_read (of_this_task after) ≡ filter is_read (of_this_task before)
    → filter is_out (of_this_task after) ≡ filter is_out (of_this_task before) → AreCounts before c → AreCounts after c
same-counts before after c i e t l b r o a =
    record { inputs = rw i a.inputs; events = rw e a.events; tasks = rw t a.tasks; links = rw l a.links; body = rw b a.body; reads = rw r a.reads; outs = rw o a.outs }

counted-input : (before : List Statement) (n : List ℕ) (v : ℤ) (m : List ℕ) (w : ℤ) (c : Counts) → AreCounts before c → Room c.inputs MAX_INPUTS
    → Counted before (input n v) (with_line c (line.Decl (Input m w)))
counted-input before n v m w c a (room fits below) =
    let there : nat_le MAX_INPUTS (length (filter is_input before)) ≡ false = rw (← a.inputs) below in
    rw fits (rw there refl, record { inputs = omega (arith, a.inputs); events = a.events; tasks = a.tasks; links = a.links; body = a.body; reads = a.reads; outs = a.outs })
counted-input before n v m w c a (full fits below) =
    let there : nat_le MAX_INPUTS (length (filter is_input before)) ≡ true = rw (← a.inputs) below in
    rw fits (rw there refl)

counted-event : (before : List Statement) (n m : List ℕ) (c : Counts) → AreCounts before c → Room c.events MAX_EVENTS
    → Counted before (event n) (with_line c (line.Decl (Event m)))
counted-event before n m c a (room fits below) =
    let there : nat_le MAX_EVENTS (length (filter is_event before)) ≡ false = rw (← a.events) below in
    rw fits (rw there refl, record { inputs = a.inputs; events = omega (arith, a.events); tasks = a.tasks; links = a.links; body = a.body; reads = a.reads; outs = a.outs })
counted-event before n m c a (full fits below) =
    let there : nat_le MAX_EVENTS (length (filter is_event before)) ≡ true = rw (← a.events) below in
    rw fits (rw there refl)

counted-task : (before : List Statement) (h : TaskHeader) (t : TaskLine) (c : Counts) → AreCounts before c → Room c.tasks MAX_TASKS
    → Counted before (task h) (with_line c (line.Task t))
counted-task before h t c a (room fits below) =
    let there : nat_le MAX_TASKS (length (filter is_task before)) ≡ false = rw (← a.tasks) below in
    rw fits (rw there refl, record { inputs = a.inputs; events = a.events; tasks = omega (arith, a.tasks); links = a.links; body = refl; reads = refl; outs = refl })
counted-task before h t c a (full fits below) =
    let there : nat_le MAX_TASKS (length (filter is_task before)) ≡ true = rw (← a.tasks) below in
    rw fits (rw there refl)

pub counted-line : (before : List Statement) (s : Statement) (l : Line) (c : Counts) → AreCounts before c → IsKept s l → Counted before s (with_line c l)
counted-line before nothing line.Nothing c a k = (refl, same-counts before (nothing ∷ before) c refl refl refl refl refl refl refl a)
counted-line before (header v) (line.Header w) c a k = (refl, same-counts before (header v ∷ before) c refl refl refl refl refl refl refl a)
counted-line before (policy p) (line.Policy q) c a k = (refl, same-counts before (policy p ∷ before) c refl refl refl refl refl refl refl a)
counted-line before (until p) (line.Until q) c a k = (refl, same-counts before (until p ∷ before) c refl refl refl refl refl refl refl a)
counted-line before trace line.Trace c a k = (refl, same-counts before (trace ∷ before) c refl refl refl refl refl refl refl a)
counted-line before script line.Script c a k = (refl, same-counts before (script ∷ before) c refl refl refl refl refl refl refl a)
counted-line before done line.Done c a k = (refl, same-counts before (done ∷ before) c refl refl refl refl refl refl refl a)
counted-line before (input n v) (line.Decl (Input m w)) c a k = counted-input before n v m w c a (room_at c.inputs MAX_INPUTS)
counted-line before (event n) (line.Decl (Event m)) c a k = counted-event before n m c a (room_at c.events MAX_EVENTS)
counted-line before (task h) (line.Task t) c a k = counted-task before h t c a (room_at c.tasks MAX_TASKS)
counted-line before s (line.Part p) c a k = counted-part before s p c a k
counted-line before s l c a k = absurd k
