use Rattle.std.proofs.Common.{◌≡◌, ℕ, ◌<◌, get_or, length}
use Rattle.party_exec.specs.Entries.{task_end}
use Rattle.party_exec.specs.declared.crew_entry.TaskEnd.{TaskEnd}
use Rattle.party_exec.proofs.runs.note_ends.Given as goal

abbrev pub invariant-loop-i : goal.invariant-loop-i
invariant-loop-i l = record {
  size : length l.ends ≡ length l.words.plan.diagram.tasks;
  noted : (k : ℕ) (d : TaskEnd) → k < l.i → get_or l.ends k d ≡ task_end l.words.plan k;
}
