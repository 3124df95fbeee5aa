-- A plan's wiring is whole, and each task has a slot and a port.
use Rattle.std.proofs.Common.{◌≡◌, ℕ, suc, ◌+◌, ◌<◌, ◌≤◌, List, length, map, get_or, slice_get, option_map, Some, refl, sym, ap, ◌∙◌, arith}
use Rattle.std.specs.Prelude.{◌==◌}
use Rattle.std.specs.List.{position_or_len}
use Rattle.std.proofs.lemmas.List.{length-map}
use Rattle.std.proofs.lemmas.Option.{get_or_from_slice_get, slice_get-get_or, slice_get-map}
use Rattle.dbp_plan.specs.declared.diagram.Diagram.{Diagram}
use Rattle.dbp_plan.specs.declared.diagram.Read.{Read}
use Rattle.dbp_plan.specs.declared.diagram.Task.{Task}
use Rattle.dbp_plan.specs.declared.plan.Plan.{Plan}
use Rattle.dbp_plan.specs.Closed.{IsClosed}
use Rattle.dbp_plan.specs.Lookups.{link_at, no_link, declared_task, no_declared_task, no_read}
use Rattle.release_list.specs.Releases.{links_into}
use Rattle.release_list.proofs.Schedules.{scheduled}
use Rattle.dbp_plan.proofs.TaskTimes.{times_few}
use Rattle.dbp_rules.specs.declared.step.Count.{Count}
use Rattle.dbp_rules.specs.declared.step.Count.TheVariants.{Ranked, All}
use Rattle.dbp_rules.specs.declared.wiring.TaskWiring.{TaskWiring}
use Rattle.dbp_rules.specs.declared.wiring.Wiring.{Wiring}
use Rattle.dbp_rules.specs.Lookups.{link, no_read_wiring, read_at, wired_task}
use Rattle.dbp_rules.specs.Shapes.{IsReadWired, IsTaskWired, IsWired, link_in, slot_owner}
use Rattle.dbp_slots.specs.Slots.{counts_of}
use Rattle.dbp_rules.specs.Wired.{in_turn, read_wiring, slot_count, task_wiring, wiring_of}
use Rattle.dbp_rules.proofs.IntoTask.{into_below, into_no_more, link_below, link_place, link_there}
use Rattle.dbp_rules.proofs.Turns.{length-in_turn, read_of_turn}
use Rattle.dbp_rules.proofs.WiringParts.{delay_kept, releases_few, samples_wired, wired_is, wired_tasks}

slots_some : (p : Plan) (count : Count) (i : ℕ) → 0 < slot_count count (counts_of p.diagram i)
slots_some p Ranked i = omega arith
slots_some p All i = omega arith

module _ (p : Plan) (count : Count) where
  abbrev w : Wiring
  w = wiring_of p count

  abbrev d : Diagram
  d = p.diagram

  closed : IsClosed d
  closed = p.rules.ranked.closed

  writer_below : (k : ℕ) → k < length d.links → (link_at d.links k).writer < length d.tasks
  writer_below k below = (closed.ends k no_link below).0

  reader_below : (k : ℕ) → k < length d.links → (link_at d.links k).reader < length d.tasks
  reader_below k below = (closed.ends k no_link below).1

  module _ (i : ℕ) (below : i < length d.tasks) where
    abbrev t : Task
    t = declared_task p i

    abbrev into : List ℕ
    into = links_into d.links i

    here : slice_get d.tasks i ≡ Some t
    here = slice_get-get_or d.tasks i no_declared_task below

    is : wired_task w i ≡ task_wiring p count (i, t)
    is = wired_is p count i below

    -- a read, seen by its number
    module _ (m : ℕ) (inside : m < length t.reads) where
      abbrev r : Read
      r = get_or t.reads m no_read

      abbrev place : ℕ
      place = position_or_len (λ k. k == r.link) into

      at : slice_get t.reads m ≡ Some r
      at = slice_get-get_or t.reads m no_read inside

      linked : r.link < length d.links
      linked = link_below d closed i t here m r at

      owner : slot_owner w i (suc place) ≡ (link_at d.links r.link).writer
      owner = ap (λ (x : TaskWiring). (link w (link_in x place)).writer) is ∙ ap (λ k. (link_at d.links k).writer) (link_there d closed i t here m r at)

      next : suc place ≡ 1 + place
      next = omega arith

      port : r.port < (wired_task w (link_at d.links r.link).writer).ports
      port =
          let v : ℕ = (link_at d.links r.link).writer in
          let there : v < length d.tasks = writer_below r.link linked in
          rw (wired_is p count v there) (closed.ports t (declared_task p v) r (link_at d.links r.link) i m here at (slice_get-get_or d.links r.link no_link linked) (slice_get-get_or d.tasks v no_declared_task there))

      read_wired : IsReadWired w (length t.reads) i (read_wiring d.links into t.reads m)
      read_wired = record {
        read = inside;
        order = rw is (omega (arith, link_place d closed i t here m r at));
        owner = sym owner ∙ ap (λ n. slot_owner w i n) next;
        writer = omega (arith, writer_below r.link linked, wired_tasks p count);
        port = port;
      }

    pub turn : (n : ℕ) → n < length t.reads → read_at (task_wiring p count (i, t)) n ≡ read_wiring d.links into t.reads (get_or (in_turn t.reads) n 0)
    turn n inside =
        let turns : List ℕ = in_turn t.reads in
        let number : slice_get turns n ≡ Some (get_or turns n 0) = slice_get-get_or turns n 0 (omega (arith, length-in_turn t.reads)) in
        get_or_from_slice_get (map (read_wiring d.links into t.reads) turns) n (read_wiring d.links into t.reads (get_or turns n 0)) no_read_wiring
        (slice_get-map (read_wiring d.links into t.reads) turns n ∙ ap (λ o. option_map (read_wiring d.links into t.reads) o) number)

    reads_wired : (n : ℕ) → n < length t.reads → IsReadWired w (length t.reads) i (read_at (task_wiring p count (i, t)) n)
    reads_wired n inside = rw (turn n inside) (read_wired (get_or (in_turn t.reads) n 0) (read_of_turn t.reads n 0 inside))

    reads_size : length (task_wiring p count (i, t)).reads ≡ length t.reads
    reads_size = length-map (in_turn t.reads) (read_wiring d.links into t.reads) ∙ length-in_turn t.reads

    made_wired : IsTaskWired p w i (task_wiring p count (i, t))
    made_wired = record {
      closed = closed.each i no_declared_task below;
      times = refl;
      few = omega (arith, times_few p.batches i, p.rules.few);
      ports = refl;
      some_port = omega (arith, (closed.each i no_declared_task below).outs);
      some_slot = slots_some p count i;
      links = omega (arith, into_no_more d closed i t here, (closed.each i no_declared_task below).reads);
      into = λ n inside. into_below d.links i n 0 inside;
      leaving = refl;
      reads = reads_size;
      each_read = λ n inside. reads_wired n (omega (arith, reads_size));
    }

    task_wired : IsTaskWired p w i (wired_task w i)
    task_wired = rw is made_wired

  delay : (k : ℕ) → k < length d.links → (link w k).delay ≤ (wired_task w (link w k).writer).kept
  delay k below = rw (wired_is p count (link_at d.links k).writer (writer_below k below)) (delay_kept d.links k below)

pub wiring-whole : (p : Plan) (count : Count) → IsWired p (wiring_of p count)
wiring-whole p count = record {
  tasks = wired_tasks p count;
  links = refl;
  writer = λ k below. omega (arith, writer_below p count k below, wired_tasks p count);
  reader = λ k below. omega (arith, reader_below p count k below, wired_tasks p count);
  delay = λ k below. delay p count k below;
  each_task = λ i below. task_wired p count i (omega (arith, wired_tasks p count));
  samples = samples_wired p count;
  releases = scheduled p.diagram p.samples p.batches p.rules;
  few_releases = releases_few p;
}
