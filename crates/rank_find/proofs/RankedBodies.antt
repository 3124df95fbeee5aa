-- Bodies with priorities by an order of their tasks.
use Rattle.std.proofs.Common.{◌≡◌, ℕ, ◌+◌, ◌-◌, ◌^◌, ◌<◌, ◌≤◌, All, List, [], ◌∷◌, length, map, get_or, set, slice_get, option_map, Some, refl, sym, ◌∙◌, ap, subst, arith, inl, inr, eqb}
use Rattle.std.specs.Prelude.{count_by, sum_by}
use Rattle.std.specs.List.{enumerate_from}
use Rattle.std.proofs.lemmas.Bool.{cases_Bool, cases_eq, eq-eqb, eqb-true}
use Rattle.std.proofs.lemmas.List.{length-map, length-set}
use Rattle.std.proofs.lemmas.List.FromFn.{length-enumerate_from}
use Rattle.std.proofs.lemmas.List.Sums.{position_or_len_is, sum_by-cons}
use Rattle.std.proofs.lemmas.Option.{slice_get-get_or, slice_get-map, slice_get_within, same_Some}
use Rattle.dbp_plan.specs.declared.diagram.Diagram.{Diagram}
use Rattle.dbp_plan.specs.declared.diagram.Policy.{Policy}
use Rattle.dbp_plan.specs.declared.diagram.Task.{Task}
use Rattle.dbp_plan.specs.ListItems.{all_place, at_place, same_list, set_here, set_other}
use Rattle.dbp_plan.specs.Ranking.{IsByRank}
use Rattle.dbp_plan.specs.Ranks.{ranks_of}
use Rattle.dbp_plan.proofs.Listed.{listed_all, one_place, place_of}
use Rattle.dbp_plan.proofs.NumberedItems.{numbered-place}
use Rattle.dia_check.specs.Diagrams.{IsDiagramOf}
use Rattle.dia_read.specs.declared.document.Body.{Body}
use Rattle.dia_read.specs.declared.document.RawTask.{RawTask}
use Rattle.dia_read.specs.Printable.{is_read_part, IsPlainTask, IsPrintable, IsPrintableTask}
use Rattle.rank_find.specs.Bodies.{place_in, ranked_body, ranked_task}
use Rattle.rank_find.specs.Orders.{HoldsEachOnce}
use Rattle.rank_find.proofs.PriosFall.{by_rank}

-- ---- places

pub place_is : (count : ℕ) (order : List ℕ) (k i : ℕ) → HoldsEachOnce count order → slice_get order k ≡ Some i → place_in order i ≡ k
place_is count order k i once at =
    let inside = slice_get_within order k i at in
    position_or_len_is (λ j. eqb j i) order k 0 (omega arith)
    (λ m less. elim (cases_Bool (eqb (get_or order m 0) i)) [
      | inl is ↦
          let same : get_or order m 0 ≡ i = eqb-true (get_or order m 0) i is in
          let there : slice_get order m ≡ Some i = slice_get-get_or order m 0 (omega arith) ∙ ap (λ (z : ℕ). Some z) same in
          absurd (omega (arith, one_place order once.listed.once m k i there at))
      | inr isnt ↦ isnt
    ])
    (λ below. eq-eqb (get_or order k 0) i (same_Some (get_or order k 0) i (sym (slice_get-get_or order k 0 inside) ∙ at)))

-- each task has a place
pub place_inside : (count : ℕ) (order : List ℕ) (i : ℕ) → HoldsEachOnce count order → i < count → place_in order i < length order
place_inside count order i once below =
    let there = place_of order i (listed_all count order i once.listed (omega (arith, once.size)) below) in
    omega (arith, there.1, place_is count order there.0 i once there.2)

-- ---- tasks that are ranked one after another

pub record RankedSoFar (order : List ℕ) (count : ℕ) (old new : List RawTask) : Type 0 where
  pub size : length new ≡ length old
  pub before : (i : ℕ) (t : RawTask) → i < count → slice_get old i ≡ Some t → slice_get new i ≡ Some (ranked_task order (i, t))
  pub after : (i : ℕ) → count ≤ i → slice_get new i ≡ slice_get old i

pub ranked_begin : (order : List ℕ) (tasks : List RawTask) → RankedSoFar order 0 tasks tasks
ranked_begin order tasks = record { size = refl; before = λ i t below. absurd (omega arith); after = λ i past. refl }

pub ranked_more : (order : List ℕ) (count : ℕ) (old new : List RawTask) (t : RawTask) → RankedSoFar order count old new → count < length old → slice_get new count ≡ Some t
    → RankedSoFar order (count + 1) old (set new count (ranked_task order (count, t)))
ranked_more order count old new t so_far inside at = record {
  size = length-set new count (ranked_task order (count, t)) ∙ so_far.size;
  before = λ i u below there. elim (cases_eq i count) [
    | inl same ↦
        let here : slice_get old count ≡ Some t = sym (so_far.after count (omega arith)) ∙ at in
        let one : t ≡ u = same_Some t u (sym here ∙ ap (λ (z : ℕ). slice_get old z) (sym same) ∙ there) in
        ap (λ (z : ℕ). slice_get (set new count (ranked_task order (count, t))) z) same ∙ set_here new count (ranked_task order (count, t)) (omega (arith, so_far.size))
        ∙ ap (λ (z : ℕ). Some (ranked_task order (z, t))) (sym same) ∙ ap (λ v. Some (ranked_task order (i, v))) one
    | inr apart ↦ set_other new count i (ranked_task order (count, t)) apart ∙ so_far.before i u (omega arith) there
  ];
  after = λ i past. set_other new count i (ranked_task order (count, t)) (λ same. absurd (omega arith)) ∙ so_far.after i (omega arith);
}

pub ranked_at : (order : List ℕ) (tasks : List RawTask) (i : ℕ) (t : RawTask) → slice_get tasks i ≡ Some t → slice_get (map (ranked_task order) (enumerate_from 0 tasks)) i ≡ Some (ranked_task order (i, t))
ranked_at order tasks i t at = slice_get-map (ranked_task order) (enumerate_from 0 tasks) i ∙ ap (option_map (ranked_task order)) (numbered-place tasks i t at)

pub ranked_count : (order : List ℕ) (tasks : List RawTask) → length (map (ranked_task order) (enumerate_from 0 tasks)) ≡ length tasks
ranked_count order tasks = length-map (enumerate_from 0 tasks) (ranked_task order) ∙ length-enumerate_from 0 tasks

pub ranked_all : (order : List ℕ) (old new : List RawTask) → RankedSoFar order (length old) old new → new ≡ map (ranked_task order) (enumerate_from 0 old)
ranked_all order old new so_far =
    same_list new (map (ranked_task order) (enumerate_from 0 old)) (so_far.size ∙ sym (ranked_count order old))
    (λ k below.
    let inside : k < length old = omega (arith, so_far.size) in
    let task = at_place old k inside in
    so_far.before k task.0 inside task.1 ∙ sym (ranked_at order old k task.0 task.1))

-- ---- the body stays printable

each_ranked : (P : RawTask → Type 0) (order : List ℕ) (tasks : List RawTask) → ((i : ℕ) (t : RawTask) → P t → P (ranked_task order (i, t))) → All P tasks → All P (map (ranked_task order) (enumerate_from 0 tasks))
each_ranked P order tasks again each k d below =
    let ranked : List RawTask = map (ranked_task order) (enumerate_from 0 tasks) in
    let task = at_place tasks k (omega (arith, below, ranked_count order tasks)) in
    let is : ranked_task order (k, task.0) ≡ get_or ranked k d = same_Some _ _ (sym (ranked_at order tasks k task.0 task.1) ∙ slice_get-get_or ranked k d below) in
    subst P is (again k task.0 (all_place P tasks k task.0 each task.1))

pub same_sum : (g : RawTask → ℕ) (order : List ℕ) → ((i : ℕ) (t : RawTask) → g (ranked_task order (i, t)) ≡ g t) → (n : ℕ) (tasks : List RawTask)
    → sum_by g (map (ranked_task order) (enumerate_from n tasks)) ≡ sum_by g tasks
same_sum g order same n [] = refl
same_sum g order same n (t ∷ ts) =
    let both : g (ranked_task order (n, t)) + sum_by g (map (ranked_task order) (enumerate_from (n + 1) ts)) ≡ g t + sum_by g ts = omega (arith, same n t, same_sum g order same (n + 1) ts) in
    sum_by-cons g (ranked_task order (n, t)) (map (ranked_task order) (enumerate_from (n + 1) ts)) ∙ both ∙ sym (sum_by-cons g t ts)

printable_task : (order : List ℕ) (i : ℕ) (t : RawTask) → length order ≤ 32 → IsPrintableTask t → IsPrintableTask (ranked_task order (i, t))
printable_task order i t few is = record {
  line = record {
    named = is.line.named;
    clock = is.line.clock;
    when = is.line.when;
    prio = omega (arith, few);
    deadline = is.line.deadline;
    cost = is.line.cost;
    cpu = is.line.cpu;
  };
  parts = is.parts;
  body = is.body;
  reads = is.reads;
  outs = is.outs;
}

pub still_printable : (body : Body) (order : List ℕ) → HoldsEachOnce (length body.tasks) order → IsPrintable body → IsPrintable (ranked_body body order)
still_printable body order once is =
    let few : length order ≤ 32 = omega (arith, once.size, is.few) in
    record {
      version = is.version;
      plain = λ first. each_ranked IsPlainTask order body.tasks (λ i t plain. plain) (is.plain first);
      until = is.until;
      decls = is.decls;
      inputs = is.inputs;
      events = is.events;
      tasks = each_ranked IsPrintableTask order body.tasks (λ i t printable. printable_task order i t few printable) is.tasks;
      few = omega (arith, ranked_count order body.tasks, is.few);
      links = omega (arith, same_sum (λ t. count_by is_read_part t.parts) order (λ i t. refl) 0 body.tasks, is.links);
      trace = is.trace;
      script = is.script;
    }

-- ---- its tasks are ranked by the order

pub ranked_by_order : (body : Body) (order : List ℕ) (d : Diagram) → length body.tasks < 2 ^ 32 → HoldsEachOnce (length body.tasks) order → IsDiagramOf (ranked_body body order) d → IsByRank (ranks_of d.policy d.tasks) order
ranked_by_order body order d few once is =
    let count : length d.tasks ≡ length body.tasks = is.count ∙ ranked_count order body.tasks in
    let each : HoldsEachOnce (length d.tasks) order = subst (λ (n : ℕ). HoldsEachOnce n order) (sym count) once in
    let falls : (k i : ℕ) (t : Task) → slice_get order k ≡ Some i → slice_get d.tasks i ≡ Some t → t.prio ≡ Some (length order - (k + 1)) = λ k i t at there.
    let raw = at_place body.tasks i (omega (arith, slice_get_within d.tasks i t there, count)) in
    let prio : t.prio ≡ Some (length order - (place_in order i + 1)) = ap (λ (u : Task). u.prio) ((is.tasks i (ranked_task order (i, raw.0)) t (ranked_at order body.tasks i raw.0 raw.1) there).is) in
    prio ∙ ap (λ (p : ℕ). Some (length order - (p + 1))) (place_is (length body.tasks) order k i once at) in
    subst (λ (p : Policy). IsByRank (ranks_of p d.tasks) order) (sym is.policy) (by_rank d.tasks order (omega (arith, few, count)) each falls)
