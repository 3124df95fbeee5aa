-- The diagram of a generated document, and its ranks.
use Rattle.std.proofs.Common.{◌≡◌, ℕ, suc, ◌+◌, ◌-◌, ◌^◌, ◌<◌, ◌≤◌, Bool, true, false, All, List, [], ◌∷◌, length, map, slice_get, Some, None, refl, sym, ap, ◌∙◌, subst, arith}
use Rattle.std.specs.Prelude.{codes, nat_lt, slice_index}
use Rattle.std.specs.List.{flat_map}
use Rattle.std.specs.Str.{bytes_eq}
use Rattle.std.proofs.lemmas.Bool.{lt-ltb}
use Rattle.std.proofs.lemmas.Bool.Decides.{nat_tests}
use Rattle.std.proofs.lemmas.List.Elements.{All-append, All-from_recursion}
use Rattle.std.proofs.lemmas.Option.{get_or_from_slice_get, none-some}
use Rattle.dbp_plan.specs.NameLists.{index_of, is_among}
use Rattle.dbp_plan.specs.ListItems.{all_place}
use Rattle.dbp_plan.specs.declared.diagram.Diagram.{Diagram}
use Rattle.dbp_plan.specs.declared.diagram.Link.{Link}
use Rattle.dbp_plan.specs.declared.diagram.Policy.TheVariants.{Fp}
use Rattle.dbp_plan.specs.declared.diagram.Task.{Task}
use Rattle.dbp_plan.specs.Ranks.{is_above, ranks_of}
use Rattle.dbp_plan.specs.Closed.{let_base}
use Rattle.dbp_plan.proofs.NameLaws.{index-below, name-at-index}
use Rattle.dbp_plan.proofs.RankLaws.{above-fewer, rank-index}
use Rattle.dia_read.specs.declared.document.Body.{Body}
use Rattle.dia_read.specs.declared.document.RawTask.{RawTask}
use Rattle.expr_eval.specs.LetOrders.{IsFrontOrder, IsCycle}
use Rattle.dia_check.specs.Diagrams.{link_of, links_of, links_used, lets_of, task_of, input_of, IsTaskOf, IsDiagramOf}
use Rattle.dia_check.specs.Faults.{IsWhole, base_of}
use Rattle.dia_check.specs.Names.{env_names, event_name, out_name, task_names}
use Rattle.dia_check.specs.RankFaults.{link_rank_fault, read_rank_fault, task_rank_fault, HasNoRankFault}
use Rattle.dia_check.specs.declared.shaped.ReadLine.{ReadLine}
use Rattle.dia_check.proofs.Faultless.{items-fine}
use Rattle.dia_check.proofs.LinkLists.{all-firsts}
use Rattle.dia_check.proofs.NoOuts.{no-cycle}
use Rattle.dia_check.proofs.RankLaws.{no-rank-fault}
use Rattle.dbp_load.specs.Bodies.{parts_of, task_name, early_count, generated_task, has_late, few_early}
use Rattle.drawn_numbers.specs.Draws.{after_draw, drawn, after_draws}
use Rattle.dbp_load.specs.Listed.{first_items}
use Rattle.drawn_numbers.proofs.DrawLaws.{drawn-below}
use Rattle.dbp_load.proofs.FaultlessLines.{map-fine, then-fine}
use Rattle.dbp_load.proofs.GeneratedParts.{by-reads}
use Rattle.dbp_load.proofs.GeneratedShapes.{lets-none, outs-are}
use Rattle.dbp_load.proofs.GeneratedNames.{task_at}
use Rattle.dbp_load.proofs.ListedItems.{length-listed, listed-at, listed-item, map-listed, some-listed}
use Rattle.dbp_load.proofs.NameTexts.{one-task, same-task}

-- ---- tasks without lets

no-order : (base : ℕ) → IsFrontOrder base [] []
no-order base = record {
  is_order = record {
    size = refl;
    named = λ k d below. absurd (omega arith);
    once = λ i j d less below. absurd (omega arith);
    after = λ p i k v l at. absurd (none-some i at);
  };
  earliest = λ p next i at. absurd (none-some next at);
}

some-names : (names : List (List ℕ)) (n : List ℕ) → names ≡ n ∷ [] → names ≡ [] → ⊥
some-names [] n is none = absurd cc
some-names (m ∷ names) n is none = absurd cc

pub whole : (size draws i : ℕ) → IsWhole (generated_task size draws i)
whole size draws i =
    let t = generated_task size draws i in
    record {
      outs = some-names (flat_map out_name t.parts) (codes "y") (outs-are size (after_draw draws) i (early_count i) (has_late size i) (few_early i));
      lets = λ cycle is. no-cycle (base_of t) cycle
          (subst (λ lets. IsCycle (base_of t) lets cycle) (lets-none size (after_draw draws) i (env_names t.parts) (early_count i) (has_late size i) (few_early i)) is);
    }

-- ---- the diagram

abbrev pub diagram_of : Body → (ℕ → RawTask) → ℕ → Diagram
diagram_of body tasks size = record {
  policy = body.policy;
  until = body.until;
  inputs = flat_map input_of body.decls;
  events = flat_map event_name body.decls;
  tasks = first_items (λ i. task_of body i (tasks i) []) size;
  links = links_of body.tasks;
  ranks = [];
}

one-task-of : (body : Body) (i : ℕ) (u raw : RawTask) (t : Task) → lets_of u ≡ [] → raw ≡ u → t ≡ task_of body i u [] → IsTaskOf body i raw t
one-task-of body i u raw t none is_raw is_t =
    let order : t.order ≡ [] = ap (λ v. v.order) is_t in
    let lets : t.lets ≡ [] = ap (λ v. v.lets) is_t ∙ none in
    record {
      is = is_t ∙ λ j. task_of body i (sym is_raw j) (sym order j);
      order = subst (λ ls. IsFrontOrder (let_base t) ls t.order) (sym lets) (subst (λ o. IsFrontOrder (let_base t) [] o) (sym order) (no-order (let_base t)));
    }

pub is-diagram : (body : Body) (tasks : ℕ → RawTask) (size : ℕ) → body.tasks ≡ first_items tasks size → ((i : ℕ) → lets_of (tasks i) ≡ []) → IsDiagramOf body (diagram_of body tasks size)
is-diagram body tasks size are none = record {
  policy = refl;
  until = refl;
  inputs = refl;
  events = refl;
  count = length-listed (λ i. task_of body i (tasks i) []) size ∙ sym (ap length are ∙ length-listed tasks size);
  tasks = λ i raw t at_raw at_t.
      let raw_is = listed-item tasks size i raw (ap (λ ts. slice_get ts i) (sym are) ∙ at_raw) in
      let t_is = listed-item (λ k. task_of body k (tasks k) []) size i t at_t in
      one-task-of body i (tasks i) raw t (none i) raw_is.1 t_is.1;
  links = refl;
}

-- ---- its ranks

-- what holds of the links that each task uses holds of all that are used
all-used : (P : Link → Type 0) (tasks : List RawTask) (number : ℕ) (ts : List RawTask) → ((i : ℕ) (t : RawTask) → slice_get ts i ≡ Some t → All P (flat_map (link_of tasks (number + i)) t.parts))
    → All P (links_used tasks number ts)
all-used P tasks number [] each = λ k d below. absurd (omega arith)
all-used P tasks number (t ∷ ts) each =
    let here : number + 0 ≡ number = omega arith in
    All-append P (flat_map (link_of tasks number) t.parts) (links_used tasks (number + 1) ts)
    (subst (λ n. All P (flat_map (link_of tasks n) t.parts)) here (each 0 t refl))
    (all-used P tasks (number + 1) ts (λ i u at.
    let later : number + suc i ≡ number + 1 + i = omega arith in
    subst (λ n. All P (flat_map (link_of tasks n) u.parts)) later (each (suc i) u at)))

module _ (P : Link → Type 0) (tasks : List RawTask) (size draws i : ℕ) (inside : i < size)
    (early_link : (writer : ℕ) → writer < i → P (record { writer = index_of (task_names tasks) (task_name writer); reader = i; delay = 0 }))
    (late_link : (writer : ℕ) → P (record { writer = index_of (task_names tasks) (task_name writer); reader = i; delay = 1 })) where
  early : (j : ℕ) → 0 < i → P (record { writer = index_of (task_names tasks) (task_name (drawn i (after_draws j draws))); reader = i; delay = 0 })
  early j some = early_link (drawn i (after_draws j draws)) (drawn-below i (after_draws j draws) some)

  late : (n : ℕ) → P (record { writer = index_of (task_names tasks) (task_name (i + 1 + drawn (size - 1 - i) (after_draws n draws))); reader = i; delay = 1 })
  late n = late_link (i + 1 + drawn (size - 1 - i) (after_draws n draws))

  abbrev Linked : (n : ℕ) → Bool → n ≤ 3 → Type 0
  Linked n late few = n ≤ i → All P (flat_map (link_of tasks i) (parts_of size draws i n late few))

  linked : (n : ℕ) (late : Bool) (few : n ≤ 3) → Linked n late few
  linked = by-reads Linked
      (λ few fits. All-from_recursion P (flat_map (link_of tasks i) (parts_of size draws i 0 true few)) (late 0, tt))
      (λ few fits. All-from_recursion P (flat_map (link_of tasks i) (parts_of size draws i 0 false few)) tt)
      (λ few fits. All-from_recursion P (flat_map (link_of tasks i) (parts_of size draws i 1 true few)) (early 0 (omega arith), (late 1, tt)))
      (λ few fits. All-from_recursion P (flat_map (link_of tasks i) (parts_of size draws i 1 false few)) (early 0 (omega arith), tt))
      (λ few fits. All-from_recursion P (flat_map (link_of tasks i) (parts_of size draws i 2 true few)) (early 0 (omega arith), (early 1 (omega arith), (late 2, tt))))
      (λ few fits. All-from_recursion P (flat_map (link_of tasks i) (parts_of size draws i 2 false few)) (early 0 (omega arith), (early 1 (omega arith), tt)))
      (λ few fits. All-from_recursion P (flat_map (link_of tasks i) (parts_of size draws i 3 true few)) (early 0 (omega arith), (early 1 (omega arith), (early 2 (omega arith), (late 3, tt)))))
      (λ few fits. All-from_recursion P (flat_map (link_of tasks i) (parts_of size draws i 3 false few)) (early 0 (omega arith), (early 1 (omega arith), (early 2 (omega arith), tt))))

module _ (body : Body) (draws : ℕ → ℕ) (size : ℕ) (few_tasks : size ≤ 32) (are : body.tasks ≡ first_items (task_at draws size few_tasks) size) (policy : body.policy ≡ Fp) where
  abbrev at : ℕ → RawTask
  at = task_at draws size few_tasks

  abbrev diagram : Diagram
  diagram = diagram_of body at size

  abbrev ranks : List ℕ
  ranks = ranks_of Fp (first_items (λ i. task_of body i (at i) []) size)

  -- the number of a task by its name
  index : (x : ℕ) → x < size → index_of (task_names body.tasks) (task_name x) ≡ x
  index x inside =
      let names : task_names body.tasks ≡ first_items task_name size = ap (map (λ (t : RawTask). t.name)) are ∙ map-listed (λ (t : RawTask). t.name) at size in
      let among : is_among (first_items task_name size) (task_name x) ≡ true = some-listed (λ m. bytes_eq m (task_name x)) task_name size x inside (same-task x) in
      let k : ℕ = index_of (first_items task_name size) (task_name x) in
      let below : k < size = omega (arith, index-below (first_items task_name size) (task_name x) among, length-listed task_name size) in
      let named : task_name k ≡ task_name x =
      sym (get_or_from_slice_get (first_items task_name size) k (task_name k) [] (listed-at task_name size k below)) ∙ name-at-index (first_items task_name size) (task_name x) among in
      ap (λ ns. index_of ns (task_name x)) names ∙ one-task k x (omega arith) (omega arith) named

  -- a task before another is above it
  above : (x i : ℕ) → x < i → i < size → slice_index ranks x < slice_index ranks i
  above x i less inside =
      let tasks : List Task = first_items (λ k. task_of body k (at k) []) size in
      let upper : slice_get tasks x ≡ Some (task_of body x (at x) []) = listed-at (λ k. task_of body k (at k) []) size x (omega arith) in
      let lower : slice_get tasks i ≡ Some (task_of body i (at i) []) = listed-at (λ k. task_of body k (at k) []) size i inside in
      let urgent : nat_lt ((2 ^ 32 - 1) - (size - x)) ((2 ^ 32 - 1) - (size - i)) ≡ true = lt-ltb _ _ (omega (arith, few_tasks)) in
      let is : is_above Fp (x, task_of body x (at x) []) (i, task_of body i (at i) []) ≡ true = rw urgent refl in
      let fewer = above-fewer Fp tasks x i (task_of body x (at x) []) (task_of body i (at i) []) upper is in
      omega (arith, fewer, rank-index Fp tasks x (task_of body x (at x) []) upper, rank-index Fp tasks i (task_of body i (at i) []) lower)

  early-link : (i : ℕ) → i < size → (x : ℕ) → x < i → link_rank_fault ranks (record { writer = index_of (task_names body.tasks) (task_name x); reader = i; delay = 0 }) ≡ None
  early-link i inside x less =
      let up = above x i less inside in
      let not_above : nat_lt (slice_index ranks i) (slice_index ranks x) ≡ false = grind (arith, nat_tests) in
      rw (index x (omega arith), not_above) refl

  late-link : (i x : ℕ) → link_rank_fault ranks (record { writer = index_of (task_names body.tasks) (task_name x); reader = i; delay = 1 }) ≡ None
  late-link i x = refl

  all-links : All (λ l. link_rank_fault ranks l ≡ None) (links_of body.tasks)
  all-links =
      let P : Link → Type 0 = λ l. link_rank_fault ranks l ≡ None in
      all-firsts P (links_used body.tasks 0 body.tasks)
      (all-used P body.tasks 0 body.tasks (λ i t at_t.
      let is = listed-item at size i t (ap (λ ts. slice_get ts i) (sym are) ∙ at_t) in
      let number : i ≡ 0 + i = omega arith in
      subst (λ n. All P (flat_map (link_of body.tasks n) t.parts)) number
      (subst (λ u. All P (flat_map (link_of body.tasks i) u.parts)) (sym is.1)
      (linked P body.tasks size (after_draw (draws i)) i is.0 (early-link i is.0) (late-link i) (early_count i) (has_late size i) (few_early i) (omega arith)))))

  pub no-rank-faults : (task_lines : List ℕ) (read_lines : List ReadLine) → HasNoRankFault (record { diagram = diagram; task_lines = task_lines; read_lines = read_lines })
  no-rank-faults task_lines read_lines =
      no-rank-fault (record { diagram = diagram; task_lines = task_lines; read_lines = read_lines })
      (sym (items-fine (λ before t. task_rank_fault body.policy t) [] (first_items (λ i. task_of body i (at i) []) size) task_lines (λ i t at_t.
      let is = listed-item (λ k. task_of body k (at k) []) size i t at_t in
      subst (λ p. task_rank_fault p t ≡ None) (sym policy) (subst (λ u. task_rank_fault Fp u ≡ None) (sym is.1) refl))))
      (sym (map-fine (λ (r : ReadLine). r.line) (read_rank_fault (ranks_of body.policy (first_items (λ i. task_of body i (at i) []) size)) (links_of body.tasks)) read_lines (λ r.
      rw policy (then-fine (link_rank_fault ranks) (slice_get (links_of body.tasks) r.link) (λ l at_l.
      all_place (λ m. link_rank_fault ranks m ≡ None) (links_of body.tasks) r.link l all-links at_l)))))
