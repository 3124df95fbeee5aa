-- Documents with priorities by an order have a shape, and no fault of ranks.
use Rattle.std.proofs.Common.{◌≡◌, ℕ, ◌+◌, ◌<◌, List, [], ◌∷◌, length, map, take, slice_get, option_map, Option, Some, None, Contains, refl, sym, ◌∙◌, ap, subst, arith, inl, inr}
use Rattle.std.specs.Prelude.{◌==◌, ◌&&◌, nat_lt, slice_index}
use Rattle.std.specs.List.{enumerate_from, flat_map}
use Rattle.std.specs.Option.{option_and_then}
use Rattle.std.proofs.lemmas.Bool.{and_parts, cases_Bool, eqb-true}
use Rattle.std.proofs.lemmas.Bool.Decides.{nat_tests}
use Rattle.std.proofs.lemmas.List.{length-map, length-take-le}
use Rattle.std.proofs.lemmas.List.FromFn.{length-enumerate_from}
use Rattle.std.proofs.lemmas.Option.{get_or_from_slice_get, same_Some, slice_get-map, slice_get_within}
use Rattle.dbp_plan.specs.declared.diagram.Diagram.{Diagram}
use Rattle.dbp_plan.specs.declared.diagram.Link.{Link}
use Rattle.dbp_plan.specs.declared.diagram.Policy.TheVariants.{Fp}
use Rattle.dbp_plan.specs.declared.diagram.Task.{Task}
use Rattle.dbp_plan.specs.BareDiagrams.{bare_diagram}
use Rattle.dbp_plan.specs.Closed.{IsClosed, let_base}
use Rattle.dbp_plan.specs.FirstFault.{faults_after, first_fault}
use Rattle.dbp_plan.specs.ListItems.{at_place, take_place}
use Rattle.dbp_plan.specs.Lookups.{task_at}
use Rattle.dbp_plan.specs.Ranking.{IsByRank}
use Rattle.dbp_plan.specs.Ranks.{ranks_of}
use Rattle.dbp_plan.proofs.FirstFaults.{first-append}
use Rattle.dbp_plan.proofs.Listed.{listed_all, place_of}
use Rattle.dbp_plan.proofs.NumberedItems.{numbered-place}
use Rattle.dia_lines.specs.declared.item.Part.{Part}
use Rattle.dia_lines.specs.declared.item.Part.TheVariants as part
use Rattle.dia_read.specs.declared.document.Body.{Body}
use Rattle.dia_read.specs.declared.document.Doc.{Doc}
use Rattle.dia_read.specs.declared.document.RawTask.{RawTask}
use Rattle.dia_read.specs.Printable.{HasItemLines, IsPrintable}
use Rattle.dia_check.specs.declared.shaped.ReadLine.{ReadLine}
use Rattle.dia_check.specs.declared.shaped.Shaped.{Shaped}
use Rattle.dia_check.specs.BareBodies.{StandOnSameLines, bare_body, bare_raw_task}
use Rattle.dia_check.specs.Diagrams.{IsTaskOf, input_of, lets_of, links_of, read_of, task_of}
use Rattle.dia_check.specs.Faults.{HasNoShapeFault}
use Rattle.dia_check.specs.Names.{event_name}
use Rattle.dia_check.specs.RankFaults.{HasNoRankFault, link_rank_fault, read_rank_fault, task_rank_fault}
use Rattle.dia_check.specs.Shapes.{IsShapeOf, read_lines_of}
use Rattle.dia_check.proofs.BareLaws.{same-faultless}
use Rattle.dia_check.proofs.Closedness.{closed}
use Rattle.dia_check.proofs.Faultless.{items-fine}
use Rattle.expr_eval.specs.LetOrders.{IsFrontOrder}
use Rattle.rank_find.specs.Bodies.{ranked_body, ranked_doc, ranked_task}
use Rattle.rank_find.specs.Links.{WritesTo}
use Rattle.rank_find.specs.Orders.{HoldsEachOnce, IsOrder}
use Rattle.rank_find.proofs.OrderFronts.{order_once}
use Rattle.rank_find.proofs.RankedBodies.{ranked_at, ranked_by_order, ranked_count, same_sum}
use Rattle.rank_find.proofs.Writers.{reader_below}

-- ---- what doesn't change

bare-tasks : (order : List ℕ) (n : ℕ) (ts : List RawTask) → map bare_raw_task (map (ranked_task order) (enumerate_from n ts)) ≡ map bare_raw_task ts
bare-tasks order n [] = refl
bare-tasks order n (t ∷ ts) = ap (λ (us : List RawTask). bare_raw_task t ∷ us) (bare-tasks order (n + 1) ts)

pub same-bare-body : (body : Body) (order : List ℕ) → bare_body body ≡ bare_body (ranked_body body order)
same-bare-body body order = ap (λ (ts : List RawTask). record (bare_body body) { tasks = ts }) (sym (bare-tasks order 0 body.tasks))

module _ (doc : Doc) (order : List ℕ) where
  same-lines : StandOnSameLines doc (ranked_doc doc order)
  same-lines = record { decls = refl; tasks = refl; parts = refl }

  pub still-faultless : HasNoShapeFault doc → HasNoShapeFault (ranked_doc doc order)
  still-faultless = same-faultless doc (ranked_doc doc order) (same-bare-body doc.body order) same-lines

  pub still-items : HasItemLines doc → HasItemLines (ranked_doc doc order)
  still-items items = record {
    decls = items.decls;
    tasks = items.tasks ∙ sym (ranked_count order doc.body.tasks);
    parts = items.parts ∙ sym (same_sum (λ t. length t.parts) order (λ i t. refl) 0 doc.body.tasks);
    trace = items.trace;
    script = items.script;
  }

-- ---- the shape

-- a task reads as often, whatever the tasks are
reads-count : (ts us : List RawTask) (number : ℕ) (ps : List Part) → length (flat_map (read_of ts number) ps) ≡ length (flat_map (read_of us number) ps)
reads-count ts us number [] = refl
reads-count ts us number (part.Read n d w q a ∷ ps) = let rest = reads-count ts us number ps in omega (arith, rest)
reads-count ts us number (part.State n v ∷ ps) = reads-count ts us number ps
reads-count ts us number (part.Sense n i ∷ ps) = reads-count ts us number ps
reads-count ts us number (part.Let n e ∷ ps) = reads-count ts us number ps
reads-count ts us number (part.Next n e ∷ ps) = reads-count ts us number ps
reads-count ts us number (part.Out n v e ∷ ps) = reads-count ts us number ps

module _ (doc : Doc) (order : List ℕ) (s : Shaped) (is : IsShapeOf doc s) where
  abbrev body : Body
  body = ranked_body doc.body order

  abbrev one_task : ℕ × RawTask → Task
  one_task (i, raw) = task_of body i raw (task_at s.diagram i).order

  abbrev tasks : List Task
  tasks = map one_task (enumerate_from 0 body.tasks)

  same-base : (i : ℕ) (raw : RawTask) (lets : List ℕ) → let_base (task_of doc.body i raw lets) ≡ let_base (task_of body i (ranked_task order (i, raw)) lets)
  same-base i raw lets = let count = reads-count doc.body.tasks body.tasks i raw.parts in omega (arith, count)

  task-is : (i : ℕ) (raw : RawTask) (t : Task) → slice_get body.tasks i ≡ Some raw → slice_get tasks i ≡ Some t → IsTaskOf body i raw t
  task-is i raw t at there =
      let made : slice_get tasks i ≡ Some (one_task (i, raw)) = slice_get-map one_task (enumerate_from 0 body.tasks) i ∙ ap (option_map one_task) (numbered-place body.tasks i raw at) in
      let same : one_task (i, raw) ≡ t = same_Some (one_task (i, raw)) t (sym made ∙ there) in
      let inside : i < length doc.body.tasks = omega (arith, slice_get_within body.tasks i raw at, ranked_count order doc.body.tasks) in
      let old = at_place doc.body.tasks i inside in
      let was = at_place s.diagram.tasks i (omega (arith, inside, is.diagram.count)) in
      let of : IsTaskOf doc.body i old.0 was.0 = is.diagram.tasks i old.0 was.0 old.1 was.1 in
      let raw_is : ranked_task order (i, old.0) ≡ raw = same_Some (ranked_task order (i, old.0)) raw (sym (ranked_at order doc.body.tasks i old.0 old.1) ∙ at) in
      let task_is : was.0 ≡ task_at s.diagram i = sym (get_or_from_slice_get s.diagram.tasks i was.0 _ was.1) in
      let lets : List ℕ = was.0.order in
      let first : IsFrontOrder (let_base (task_of doc.body i old.0 lets)) (lets_of old.0) lets = subst (λ (u : Task). IsFrontOrder (let_base u) u.lets lets) of.is of.order in
      let front : IsFrontOrder (let_base (task_of body i (ranked_task order (i, old.0)) lets)) (lets_of old.0) lets = subst (λ (n : ℕ). IsFrontOrder n (lets_of old.0) lets) (same-base i old.0 lets) first in
      let again : IsTaskOf body i (ranked_task order (i, old.0)) (task_of body i (ranked_task order (i, old.0)) lets) = record { is = refl; order = front } in
      subst (λ (u : Task). IsTaskOf body i raw u) same
      (subst (λ (u : Task). IsTaskOf body i raw (task_of body i raw u.order)) task_is
      (subst (λ (r : RawTask). IsTaskOf body i r (task_of body i r lets)) raw_is again))

  abbrev diagram : Diagram
  diagram = record {
    policy = Fp;
    until = body.until;
    inputs = flat_map input_of body.decls;
    events = flat_map event_name body.decls;
    tasks = tasks;
    links = links_of body.tasks;
    ranks = [];
  }

  -- the document has a shape if it had one before
  pub some-shape : (t : Shaped) × IsShapeOf (ranked_doc doc order) t
  some-shape = (
    record { diagram = diagram; task_lines = doc.lines.tasks; read_lines = read_lines_of (ranked_doc doc order) },
    record {
      faultless = still-faultless doc order is.faultless;
      diagram = record {
        policy = refl;
        until = refl;
        inputs = refl;
        events = refl;
        count = length-map (enumerate_from 0 body.tasks) one_task ∙ length-enumerate_from 0 body.tasks;
        tasks = task-is;
        links = refl;
      };
      unranked = refl;
      task_lines = refl;
      read_lines = refl;
    },
  )

-- ---- the ranks

-- a task stands after those that write directly to it
writer-before : (d : Diagram) (order ranks : List ℕ) (i j : ℕ) → IsOrder d order → IsByRank ranks order → j < length d.tasks → WritesTo d i j → slice_index ranks i < slice_index ranks j
writer-before d order ranks i j is by below writes =
    let once = order_once d order is in
    let there = place_of order j (listed_all (length d.tasks) order j once.listed (omega (arith, once.size)) below) in
    let before = place_of (take there.0 order) i ((is.each there.0 j there.2).free.ready i writes) in
    let size : length (take there.0 order) ≡ there.0 = length-take-le there.0 order (omega (arith, there.1)) in
    let less : before.0 < there.0 = omega (arith, before.1, size) in
    let at : slice_get order before.0 ≡ Some i = sym (take_place order there.0 before.0 less) ∙ before.2 in
    let high : slice_index ranks i ≡ before.0 = get_or_from_slice_get ranks i before.0 0 (by.rank i before.0 at) in
    let low : slice_index ranks j ≡ there.0 = get_or_from_slice_get ranks j there.0 0 (by.rank j there.0 there.2) in
    omega (arith, high, low, less)

link-is : (l : Link) → l.delay ≡ 0 → l ≡ record { writer = l.writer; reader = l.reader; delay = 0 }
link-is l direct = λ i. record l { delay = direct i }

module _ (doc : Doc) (order : List ℕ) (s t : Shaped) (one : IsShapeOf doc s) (other : IsShapeOf (ranked_doc doc order) t) (ordered : IsOrder s.diagram order) (bare : bare_diagram s.diagram ≡ bare_diagram t.diagram) where
  abbrev ranks : List ℕ
  ranks = ranks_of t.diagram.policy t.diagram.tasks

  once : HoldsEachOnce (length doc.body.tasks) order
  once = subst (λ (n : ℕ). HoldsEachOnce n order) one.diagram.count (order_once s.diagram order ordered)

  pub by-rank : IsClosed s.diagram → IsByRank ranks order
  by-rank is_closed = ranked_by_order doc.body order t.diagram (omega (arith, is_closed.tasks, one.diagram.count)) once other.diagram

  link-fine : IsClosed s.diagram → (k : ℕ) (l : Link) → slice_get t.diagram.links k ≡ Some l → link_rank_fault ranks l ≡ None
  link-fine is_closed k l at = elim (cases_Bool (l.delay == 0 && nat_lt (slice_index ranks l.reader) (slice_index ranks l.writer))) [
    | inl is ↦
        let both = and_parts (l.delay == 0) (nat_lt (slice_index ranks l.reader) (slice_index ranks l.writer)) is in
        let direct : l.delay ≡ 0 = eqb-true l.delay 0 both.0 in
        let there : slice_get s.diagram.links k ≡ Some l = ap (λ (d : Diagram). slice_get d.links k) bare ∙ at in
        let among : Contains s.diagram.links l = (k, slice_get_within s.diagram.links k l there, get_or_from_slice_get s.diagram.links k l l there) in
        let writes : WritesTo s.diagram l.writer l.reader = subst (λ (m : Link). Contains s.diagram.links m) (link-is l direct) among in
        let before = writer-before s.diagram order ranks l.writer l.reader ordered (by-rank is_closed) (reader_below s.diagram l.writer l.reader is_closed writes) writes in
        let above = both.1 in
        absurd (grind (arith, nat_tests))
    | inr isnt ↦ rw isnt refl
  ]

  read-fine : IsClosed s.diagram → (k : ℕ) → option_and_then (link_rank_fault ranks) (slice_get t.diagram.links k) ≡ None
  read-fine is_closed k = go (slice_get t.diagram.links k) refl
    where
      go : (o : Option Link) → slice_get t.diagram.links k ≡ o → option_and_then (link_rank_fault ranks) o ≡ None
      go None at = refl
      go (Some l) at = link-fine is_closed k l at

  reads-fine : IsClosed s.diagram → (rs : List ReadLine) → first_fault (map (λ r. (r.line, read_rank_fault ranks t.diagram.links r)) rs) ≡ None
  reads-fine is_closed [] = refl
  reads-fine is_closed (r ∷ rs) = rw (read-fine is_closed r.link) (reads-fine is_closed rs)

  task-fine : (i : ℕ) (u : Task) → slice_get t.diagram.tasks i ≡ Some u → task_rank_fault t.diagram.policy u ≡ None
  task-fine i u at =
      let inside : i < length doc.body.tasks = omega (arith, slice_get_within t.diagram.tasks i u at, other.diagram.count, ranked_count order doc.body.tasks) in
      let raw = at_place doc.body.tasks i inside in
      let task = other.diagram.tasks i (ranked_task order (i, raw.0)) u (ranked_at order doc.body.tasks i raw.0 raw.1) at in
      rw (other.diagram.policy, task.is) refl

  -- the tasks of the document are ranked by the order, so no task lacks its priority, and no direct link goes upward
  pub no-rank-fault : IsPrintable doc.body → HasItemLines doc → HasNoRankFault t
  no-rank-fault printable items =
      let is_closed = closed doc s.diagram printable items one.faultless one.diagram in
      let fault = λ (before : List Task) (u : Task). task_rank_fault t.diagram.policy u in
      first-append (faults_after fault [] t.diagram.tasks t.task_lines) (map (λ r. (r.line, read_rank_fault ranks t.diagram.links r)) t.read_lines) (items-fine fault [] t.diagram.tasks t.task_lines task-fine)
      ∙ reads-fine is_closed t.read_lines
