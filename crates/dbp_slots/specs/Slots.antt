-- How many slots a task needs for its outs.
use Rattle.std.specs.Prelude.{ℕ, ◌+◌, ◌==◌, ◌&&◌, Bool, List, count_by, filter, max, nat_lt, slice_index}
use Rattle.std.specs.List.{fold}
use Rattle.dbp_plan.specs.declared.diagram.Diagram.{Diagram}
use Rattle.dbp_plan.specs.declared.diagram.Link.{Link}
use Rattle.dbp_slots.specs.declared.slot_counts.Counts.{Counts}

-- whether the link leaves the task for a reader that is ranked below it
abbrev pub is_to_lower : List ℕ → ℕ → Link → Bool
is_to_lower ranks task l = (l.writer == task) && nat_lt (slice_index ranks task) (slice_index ranks l.reader)

-- whether the link leaves the task for a reader that is ranked above it
abbrev pub is_to_higher : List ℕ → ℕ → Link → Bool
is_to_higher ranks task l = (l.writer == task) && nat_lt (slice_index ranks l.reader) (slice_index ranks task)

-- the longest delay of the links that leave the task, 0 if none leaves it
abbrev pub longest_delay : List Link → ℕ → ℕ
longest_delay links task = fold (λ most l. max most l.delay) 0 (filter (λ l. l.writer == task) links)

-- A slot for each link to a lower reader, one for the instance that is written, and as many as the longest delay keeps.
-- In a run a reader that is ranked above may also still hold one.
abbrev pub counts_of : Diagram → ℕ → Counts
counts_of d task =
    let lower = count_by (is_to_lower d.ranks task) d.links in
    let higher = count_by (is_to_higher d.ranks task) d.links in
    let delayed = longest_delay d.links task in
    record {
      lower = lower;
      higher = higher;
      delayed = delayed;
      sim = lower + 1 + delayed;
      run = lower + higher + 1 + delayed;
    }
