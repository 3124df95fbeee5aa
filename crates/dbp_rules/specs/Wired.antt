-- What the steps look up in a plan.
use Rattle.std.specs.Prelude.{ℕ, ◌+◌, ◌==◌, ◌&&◌, ◌||◌, nat_lt, Bool, List, ◌++◌, length, map, filter, slice_index_or}
use Rattle.std.specs.List.{count_by, enumerate_from, position_or_len, range_with_len}
use Rattle.dbp_plan.specs.declared.diagram.Link.{Link}
use Rattle.dbp_plan.specs.declared.diagram.Read.{Read}
use Rattle.dbp_plan.specs.declared.diagram.Task.{Task}
use Rattle.dbp_plan.specs.declared.plan.Plan.{Plan}
use Rattle.dbp_plan.specs.declared.schedule.Batch.{Batch}
use Rattle.dbp_plan.specs.Occurrences.{times_of}
use Rattle.dbp_plan.specs.Lookups.{link_at, no_read}
use Rattle.dbp_plan.specs.Samples.{own_samples}
use Rattle.dbp_slots.specs.Slots.{counts_of}
use Rattle.dbp_slots.specs.declared.slot_counts.Counts.{Counts}
use Rattle.release_list.specs.Releases.{links_into, releases_of}
use Rattle.dbp_rules.specs.declared.step.Count.{Count}
use Rattle.dbp_rules.specs.declared.step.Count.TheVariants.{Ranked, All}
use Rattle.dbp_rules.specs.declared.wiring.LinkEnd.{LinkEnd}
use Rattle.dbp_rules.specs.declared.wiring.LinkEnd.TheVariants.{Writer, Reader}
use Rattle.dbp_rules.specs.declared.wiring.ReadWiring.{ReadWiring}
use Rattle.dbp_rules.specs.declared.wiring.TaskWiring.{TaskWiring}
use Rattle.dbp_rules.specs.declared.wiring.Wiring.{Wiring}

-- whether the one read, with its number, comes before the other: by the tick of service, then by declaration
abbrev pub is_sooner : ℕ × Read → ℕ × Read → Bool
is_sooner (j, q) (i, r) = nat_lt q.at r.at || ((q.at == r.at) && nat_lt j i)

-- how many reads come before this one
abbrev pub turn_of : List Read → ℕ × Read → ℕ
turn_of reads r = count_by (λ q. is_sooner q r) (enumerate_from 0 reads)

-- the numbers of the reads in the order of their turns
abbrev pub in_turn : List Read → List ℕ
in_turn reads = map (λ (turn, _). position_or_len (λ r. turn_of reads r == turn) (enumerate_from 0 reads)) (enumerate_from 0 reads)

-- the read with this number, as the steps see it: its order stands after the task's own
abbrev pub read_wiring : List Link → List ℕ → List Read → ℕ → ReadWiring
read_wiring links ins reads n =
    let r = slice_index_or reads n no_read in
    record { read = n; order = 1 + position_or_len (λ k. k == r.link) ins; writer = (link_at links r.link).writer; port = r.port }

-- the task at the end of the link, and the links that have the task at this end, in order
abbrev pub task_at_end : LinkEnd → Link → ℕ
task_at_end Writer l = l.writer
task_at_end Reader l = l.reader

abbrev pub links_at : LinkEnd → List Link → ℕ → List ℕ
links_at end links task = filter (λ k. task_at_end end (link_at links k) == task) (range_with_len 0 (length links))

-- the slots of a task: under `Ranked` those of a simulation, under `All` those of a run
abbrev pub slot_count : Count → Counts → ℕ
slot_count Ranked c = c.sim
slot_count All c = c.run

-- a task with its number
abbrev pub task_wiring : Plan → Count → ℕ × Task → TaskWiring
task_wiring p count (i, task) = record {
  ports = length task.outs;
  slots = slot_count count (counts_of p.diagram i);
  kept = (counts_of p.diagram i).delayed;
  rank = slice_index_or p.diagram.ranks i 0;
  times = times_of p.batches i;
  links = links_into p.diagram.links i;
  leaving = links_at Writer p.diagram.links i;
  reads = map (read_wiring p.diagram.links (links_into p.diagram.links i) task.reads) (in_turn task.reads);
}

-- the task's wiring with the times of these batches after its own
abbrev pub with_times_of : List Batch → ℕ × TaskWiring → TaskWiring
with_times_of batches (i, t) = record t { times = t.times ++ times_of batches i }

-- the plan under the count
abbrev pub wiring_of : Plan → Count → Wiring
wiring_of p count = record {
  count = count;
  tasks = map (task_wiring p count) (enumerate_from 0 p.diagram.tasks);
  links = p.diagram.links;
  releases = releases_of p.diagram.links p.batches;
  samples = map (λ input. own_samples input p.samples) (range_with_len 0 (length p.diagram.inputs));
}
