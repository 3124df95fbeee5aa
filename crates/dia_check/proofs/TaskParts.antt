-- The parts of a task, as they are put together.
use Rattle.std.proofs.Common.{◌≡◌, ◌≢◌, ℕ, suc, ◌+◌, ◌-◌, ◌<◌, ◌≤◌, All, List, [], ◌∷◌, length, get_or, slice_get, Option, Some, None, refl, sym, ap, ◌∙◌, subst, arith}
use Rattle.std.specs.List.{flat_map}
use Rattle.std.proofs.lemmas.Option.{slice_get_within, slice_get-get_or}
use Rattle.dbp_plan.specs.Closed.{let_base}
use Rattle.dbp_plan.specs.LetOrder.{VariablesBelow}
use Rattle.dbp_plan.specs.declared.limits.TheConstants.{MAX_BODY}
use Rattle.dbp_plan.specs.declared.diagram.Clock.{Clock}
use Rattle.dbp_plan.specs.declared.diagram.Task.{Task}
use Rattle.dbp_plan.specs.declared.diagram.Let.{Let}
use Rattle.dbp_plan.specs.declared.diagram.Read.{Read}
use Rattle.dia_lines.specs.declared.item.Part.{Part}
use Rattle.dia_lines.specs.declared.item.Part.TheVariants as part
use Rattle.dia_read.specs.declared.document.Body.{Body}
use Rattle.dia_read.specs.declared.document.RawTask.{RawTask}
use Rattle.expr_eval.specs.declared.order.LetFail.{LetFail}
use Rattle.expr_eval.specs.declared.order.LetFail.TheVariants as let_fail
use Rattle.expr_eval.specs.LetOrders.{IsFrontOrder, Uses, IsCycleFrom, IsFailOf}
use Rattle.dia_check.specs.declared.tasks.Sources.{Sources}
use Rattle.dia_check.specs.declared.tasks.Work.{Work}
use Rattle.dia_check.specs.Diagrams.{clock_of, when_of, state_of, sense_of, read_of, let_of, lets_of, task_of, IsTaskOf}
use Rattle.dia_check.specs.Faults.{base_of, let_lines, a_cycle}
use Rattle.dia_check.specs.Names.{input_name, event_name, state_name, sense_name, read_name, env_names, out_name}
use Rattle.dia_check.specs.Scopes.{IsWorkOf, HasItsSources, HasFaultlessParts, IsTaskRefusal, let_refusal}
use Rattle.dia_check.proofs.ClosedTasks.{states-alike, senses-alike, reads-alike, few-names, let-variables-below, base-and-lets}
use Rattle.dia_check.proofs.PlaceLaws.{made-alike}

-- ---- lets

module _ (t : RawTask) (names : List (List ℕ)) (lets : List Let) (named : names ≡ env_names t.parts) (are : lets ≡ flat_map (let_of names) t.parts) where
  pub lets-are : lets ≡ lets_of t
  lets-are = are ∙ ap (λ (ns : List (List ℕ)). flat_map (let_of ns) t.parts) named

  pub counts-add : base_of t + length lets ≡ length names
  counts-add = ap (λ (ls : List Let). base_of t + length ls) lets-are ∙ base-and-lets t ∙ sym (ap (λ (ns : List (List ℕ)). length ns) named)

  pub few-lets : length t.parts ≤ MAX_BODY → (length lets ≤ MAX_BODY) × (length names ≤ MAX_BODY)
  few-lets few =
      let all : length names ≤ MAX_BODY = omega (arith, few-names t.parts, few, ap (λ (ns : List (List ℕ)). length ns) named) in
      (omega (arith, counts-add, all), all)

  pub variables-below : (body : Body) → HasFaultlessParts body t → All (λ l. VariablesBelow (length names - length lets + length lets) l.expr.nodes) lets
  variables-below body fine =
      let bound : length (env_names t.parts) ≡ length names - length lets + length lets = omega (arith, counts-add, ap (λ (ns : List (List ℕ)). length ns) named) in
      let all : All (λ l. VariablesBelow (length (env_names t.parts)) l.expr.nodes) lets = subst (λ ls. All (λ l. VariablesBelow (length (env_names t.parts)) l.expr.nodes) ls) (sym lets-are) (let-variables-below body t fine) in
      subst (λ (n : ℕ). All (λ l. VariablesBelow n l.expr.nodes) lets) bound all

-- ---- failures

-- the lets of a cycle are there
second-or-last : (base : ℕ) (lets : List Let) (first : ℕ) (cycle : List ℕ) → IsCycleFrom base lets first cycle → (second : Option ℕ) → slice_get cycle 1 ≡ second → (j : ℕ) × Uses base lets first j
second-or-last base lets first cycle is (Some j) at = (j, is.is.linked 0 first j is.begins at)
second-or-last base lets first cycle is None at = (first, is.is.closed 0 first first (one cycle is.is.some at) is.begins is.begins)
  where
    one : (xs : List ℕ) → 0 < length xs → slice_get xs 1 ≡ None → 0 + 1 ≡ length xs
    one [] some at = absurd (omega arith)
    one (x ∷ []) some at = refl
    one (x ∷ y ∷ xs) some at = absurd cc

pub first-there : (base : ℕ) (lets : List Let) (first : ℕ) (cycle : List ℕ) → IsCycleFrom base lets first cycle → first < length lets
first-there base lets first cycle is =
    let uses = second-or-last base lets first cycle is (slice_get cycle 1) refl in
    slice_get_within lets first _ uses.1.is

-- ---- the lines of lets

pub let-line-each : (ps : List Part) (ns : List ℕ) (names : List (List ℕ)) → length ps ≤ length ns → length (let_lines ps ns) ≡ length (flat_map (let_of names) ps)
let-line-each [] ns names few = refl
let-line-each (p ∷ ps) [] names few = absurd (omega arith)
let-line-each (part.Let m e ∷ ps) (n ∷ ns) names few = ap (λ (k : ℕ). suc k) (let-line-each ps ns names (omega arith))
let-line-each (part.State m v ∷ ps) (n ∷ ns) names few = let-line-each ps ns names (omega arith)
let-line-each (part.Sense m i ∷ ps) (n ∷ ns) names few = let-line-each ps ns names (omega arith)
let-line-each (part.Read m d w q a ∷ ps) (n ∷ ns) names few = let-line-each ps ns names (omega arith)
let-line-each (part.Next m e ∷ ps) (n ∷ ns) names few = let-line-each ps ns names (omega arith)
let-line-each (part.Out m v e ∷ ps) (n ∷ ns) names few = let-line-each ps ns names (omega arith)

-- the first let of the cycle has a line
pub let-there : (t : RawTask) (lines : List ℕ) (first : ℕ) (names : List (List ℕ)) → length t.parts ≤ length lines
    → IsFailOf (base_of t) (lets_of t) (let_fail.Cycle first names) → first < length (let_lines t.parts lines)
let-there t lines first names few (cycle, is, named) =
    omega (arith, first-there (base_of t) (lets_of t) first cycle is.is, let-line-each t.parts lines (env_names t.parts) few)

pub let-refused : (t : RawTask) (begins : ℕ) (lines : List ℕ) (fail : LetFail) → flat_map out_name t.parts ≢ [] → length t.parts ≤ length lines
    → IsFailOf (base_of t) (lets_of t) fail → IsTaskRefusal t begins lines (let_refusal t lines fail)
let-refused t begins lines (let_fail.Cycle first names) some few (cycle, is, named) =
    let there = let-there t lines first names few (cycle, is, named) in
    a_cycle (get_or (let_lines t.parts lines) first 0) first cycle names some is named (slice_get-get_or (let_lines t.parts lines) first 0 there)
let-refused t begins lines let_fail.NoMemory some few is = tt

-- ---- a task

-- the task's own base is that of its lines
pub base-of-task : (body : Body) (number : ℕ) (t : RawTask) (order : List ℕ) → let_base (task_of body number t order) ≡ base_of t
base-of-task body number t order =
    rw (made-alike state_of state_name states-alike t.parts, made-alike (sense_of (flat_map input_name body.decls)) sense_name (senses-alike (flat_map input_name body.decls)) t.parts, made-alike (read_of body.tasks number) read_name (reads-alike body.tasks number) t.parts) refl

pub assembled : (body : Body) (number : ℕ) (t : RawTask) (w : Work) (g : Sources) (reads : List Read) (clock : Clock) (when : Option ℕ) → IsWorkOf t w → HasItsSources body t.parts g → reads ≡ flat_map (read_of body.tasks number) t.parts
    → clock ≡ clock_of (flat_map event_name body.decls) t.clock → when ≡ when_of (flat_map input_name body.decls) t.when
    → IsTaskOf body number t (record { name = t.name; clock = clock; when = when; prio = t.prio; deadline = t.deadline; cost = t.cost; cpu = t.cpu; states = g.states; senses = g.senses; reads = reads; lets = w.lets; order = w.order; nexts = w.nexts; outs = w.outs })
assembled body number t w g reads clock when work given read is guard =
    let made : Task = record { name = t.name; clock = clock; when = when; prio = t.prio; deadline = t.deadline; cost = t.cost; cpu = t.cpu; states = g.states; senses = g.senses; reads = reads; lets = w.lets; order = w.order; nexts = w.nexts; outs = w.outs } in
    let same : made ≡ task_of body number t w.order = rw (is, guard, given.states, given.senses, read, work.lets, work.nexts, work.outs) refl in
    record {
      is = same;
      order = subst (λ (u : Task). IsFrontOrder (let_base u) u.lets w.order) (sym same) (subst (λ (b : ℕ). IsFrontOrder b (lets_of t) w.order) (sym (base-of-task body number t w.order)) work.order);
    }
