-- The diagram of a body without faults has its counts, its numbers and its tasks within the limits.
use Rattle.std.proofs.Common.{◌≡◌, ◌≢◌, ℕ, zero, suc, ◌+◌, ◌<◌, ◌≤◌, Bool, true, false, All, AllPairs, List, [], ◌∷◌, ◌++◌, length, take, slice_get, Option, Some, None, refl, sym, ap, ◌∙◌, subst, arith, length-append}
use Rattle.std.specs.Prelude.{◌||◌, cond, if◌then◌else◌, not}
use Rattle.std.specs.List.{flat_map}
use Rattle.std.specs.Str.{bytes_eq}
use Rattle.std.specs.Option.{IfSome, ForSome}
use Rattle.std.proofs.lemmas.Bool.{leb-false, not-false, or_parts, or_right, both_ways}
use Rattle.std.proofs.lemmas.List.Elements.{All-nil}
use Rattle.std.proofs.lemmas.List.Folds.{list_any-append}
use Rattle.std.proofs.lemmas.List.Kept.{AllPairs-cons}
use Rattle.std.proofs.lemmas.Option.{MatchOption-at_some, same_Some, slice_get_within}
use Rattle.dbp_plan.specs.declared.diagram.Clock.TheVariants as clock
use Rattle.dbp_plan.specs.declared.diagram.Diagram.{Diagram}
use Rattle.dbp_plan.specs.declared.diagram.Let.{Let}
use Rattle.dbp_plan.specs.declared.diagram.Next.{Next}
use Rattle.dbp_plan.specs.declared.diagram.Out.{Out}
use Rattle.dbp_plan.specs.declared.diagram.Read.{Read}
use Rattle.dbp_plan.specs.declared.diagram.Sense.{Sense}
use Rattle.dbp_plan.specs.declared.diagram.Task.{Task}
use Rattle.dbp_plan.specs.declared.expr.Expr.{Expr}
use Rattle.dbp_plan.specs.declared.limits.TheConstants.{MAX_TASKS, MAX_INPUTS, MAX_EVENTS, MAX_TIME}
use Rattle.dbp_plan.specs.Closed.{let_base, place_count, body_count, IsClosedTask}
use Rattle.dbp_plan.specs.LetOrder.{VariablesBelow}
use Rattle.dbp_plan.specs.ListItems.{all_place, at_place}
use Rattle.dbp_plan.specs.NameLists.{is_among, index_of}
use Rattle.dbp_plan.proofs.NameLaws.{index-below, same-bytes, same-index}
use Rattle.dia_lines.specs.declared.item.Decl.{Decl}
use Rattle.dia_lines.specs.declared.item.Decl.TheVariants.{Input, Event}
use Rattle.dia_lines.specs.declared.item.Part.{Part}
use Rattle.dia_lines.specs.declared.item.Part.TheVariants as part
use Rattle.dia_lines.specs.declared.item.RawClock.{RawClock}
use Rattle.dia_lines.specs.declared.item.RawClock.TheVariants.{Every, On}
use Rattle.dia_read.specs.Printable.{IsPrintable, IsPrintableTask, IsPrintableClock, is_input_decl, is_event_decl, is_read_part, is_out_part}
use Rattle.dia_read.specs.declared.document.Body.{Body}
use Rattle.dia_read.specs.declared.document.RawTask.{RawTask}
use Rattle.expr_eval.specs.LetOrders.{IsFrontOrder}
use Rattle.dia_check.specs.Diagrams.{clock_of, when_of, state_of, sense_of, read_of, let_of, next_of, out_of, lets_of, task_of, input_of, IsTaskOf, IsDiagramOf}
use Rattle.dia_check.specs.Faults.{is_repeated, is_unknown, is_self_link, is_past_cost, is_unknown_clock, is_unknown_when, task_fault, part_fault, has_unbound, base_of, IsWhole}
use Rattle.dia_check.specs.Names.{input_name, event_name, state_name, sense_name, read_name, let_name, next_name, out_name, env_names}
use Rattle.dia_check.specs.Placed.{placed_expr}
use Rattle.dia_check.proofs.Faultless.{IsFaultless}
use Rattle.dia_check.proofs.LinkLists.{all-made}
use Rattle.dia_check.proofs.PlaceLaws.{made-alike, made-count, only-one, all-places, placed-below}

-- ---- counts of parts

pub states-alike : (p : Part) → length (state_of p) ≡ length (state_name p)
states-alike (part.State n v) = refl
states-alike _ = refl

pub senses-alike : (inputs : List (List ℕ)) (p : Part) → length (sense_of inputs p) ≡ length (sense_name p)
senses-alike inputs (part.Sense n i) = refl
senses-alike inputs _ = refl

pub reads-alike : (ts : List RawTask) (number : ℕ) (p : Part) → length (read_of ts number p) ≡ length (read_name p)
reads-alike ts number (part.Read n d w q a) = refl
reads-alike ts number _ = refl

lets-alike : (names : List (List ℕ)) (p : Part) → length (let_of names p) ≡ length (let_name p)
lets-alike names (part.Let n e) = refl
lets-alike names _ = refl

nexts-alike : (states names : List (List ℕ)) (p : Part) → length (next_of states names p) ≡ length (next_name p)
nexts-alike states names (part.Next n e) = refl
nexts-alike states names _ = refl

pub outs-alike : (names : List (List ℕ)) (p : Part) → length (out_of names p) ≡ length (out_name p)
outs-alike names (part.Out n v e) = refl
outs-alike names _ = refl

inputs-alike : (d : Decl) → length (input_of d) ≡ length (input_name d)
inputs-alike (Input n v) = refl
inputs-alike (Event n) = refl

one-read : (p : Part) → length (read_name p) ≡ cond (is_read_part p) 1 0
one-read (part.Read n d w q a) = refl
one-read _ = refl

one-out : (p : Part) → length (out_name p) ≡ cond (is_out_part p) 1 0
one-out (part.Out n v e) = refl
one-out _ = refl

one-input : (d : Decl) → length (input_name d) ≡ cond (is_input_decl d) 1 0
one-input (Input n v) = refl
one-input (Event n) = refl

one-event : (d : Decl) → length (event_name d) ≡ cond (is_event_decl d) 1 0
one-event (Input n v) = refl
one-event (Event n) = refl

-- each part is one of the six kinds
all-kinds : (ps : List Part) → length (flat_map state_name ps) + length (flat_map sense_name ps) + length (flat_map read_name ps) + length (flat_map let_name ps) + length (flat_map next_name ps) + length (flat_map out_name ps)
    ≡ length ps
all-kinds [] = refl
all-kinds (part.State n v ∷ ps) = omega (arith, all-kinds ps)
all-kinds (part.Sense n i ∷ ps) = omega (arith, all-kinds ps)
all-kinds (part.Read n d w q a ∷ ps) = omega (arith, all-kinds ps)
all-kinds (part.Let n e ∷ ps) = omega (arith, all-kinds ps)
all-kinds (part.Next n e ∷ ps) = omega (arith, all-kinds ps)
all-kinds (part.Out n v e ∷ ps) = omega (arith, all-kinds ps)

env-count : (ps : List Part) → length (env_names ps) ≡ length (flat_map state_name ps) + length (flat_map sense_name ps) + length (flat_map read_name ps) + length (flat_map let_name ps)
env-count ps =
    let ss = flat_map state_name ps in
    let es = flat_map sense_name ps in
    let rs = flat_map read_name ps in
    omega (arith, length-append (ss ++ es ++ rs) (flat_map let_name ps), length-append (ss ++ es) rs, length-append ss es)

pub few-names : (ps : List Part) → length (env_names ps) ≤ length ps
few-names ps = omega (arith, env-count ps, all-kinds ps)

pub base-and-lets : (t : RawTask) → base_of t + length (lets_of t) ≡ length (env_names t.parts)
base-and-lets t = omega (arith, env-count t.parts, made-alike (let_of (env_names t.parts)) let_name (lets-alike (env_names t.parts)) t.parts)

-- ---- what no fault says

no-fault : {A : Type 0} (a b c d : Bool) (w x y z : A) → (if a then Some w else if b then Some x else if c then Some y else if d then Some z else None) ≡ None → (a ≡ false) × (b ≡ false) × (c ≡ false) × (d ≡ false)
no-fault true b c d w x y z none = absurd cc
no-fault false true c d w x y z none = absurd cc
no-fault false false true d w x y z none = absurd cc
no-fault false false false true w x y z none = absurd cc
no-fault false false false false w x y z none = (refl, refl, refl, refl)

no-line-fault : {A : Type 0} (a b : Bool) (w x : A) → (if a then Some w else if b then Some x else None) ≡ None → b ≡ false
no-line-fault true b w x none = absurd cc
no-line-fault false true w x none = absurd cc
no-line-fault false false w x none = refl

clean : (body : Body) (t : RawTask) (before : List Part) (p : Part) → part_fault body t before p ≡ None
    → (is_repeated before p ≡ false) × (is_unknown body t p ≡ false) × (is_self_link t p ≡ false) × (is_past_cost t p ≡ false)
clean body t before p none = no-fault (is_repeated before p) (is_unknown body t p) (is_self_link t p) (is_past_cost t p) _ _ _ _ none

known-names : (body : Body) (before : List RawTask) (t : RawTask) → task_fault body before t ≡ None
    → (is_unknown_clock body.decls t.clock ≡ false) × (is_unknown_when body.decls t.when ≡ false)
known-names body before t none =
    or_parts (is_unknown_clock body.decls t.clock) (is_unknown_when body.decls t.when) (no-line-fault _ (is_unknown_clock body.decls t.clock || is_unknown_when body.decls t.when) _ _ none)

-- ---- what holds of the items of one part

each-sense : (P : Sense → Type 0) (inputs : List (List ℕ)) (p : Part) → ((n i : List ℕ) → p ≡ part.Sense n i → P (record { name = n; input = index_of inputs i })) → All P (sense_of inputs p)
each-sense P inputs (part.Sense n i) each = only-one P _ (each n i refl)
each-sense P inputs _ each = All-nil P

each-pointer : (cost : ℕ) (ts : List RawTask) (number : ℕ) (p : Part) → ((n : List ℕ) (d : ℕ) (w q : List ℕ) (a : ℕ) → p ≡ part.Read n d w q a → a < cost) → All (λ r. r.at < cost) (read_of ts number p)
each-pointer cost ts number (part.Read n d w q a) each = only-one (λ (r : Read). r.at < cost) _ (each n d w q a refl)
each-pointer cost ts number _ each = All-nil (λ (r : Read). r.at < cost)

each-let : (P : Let → Type 0) (names : List (List ℕ)) (p : Part) → ((n : List ℕ) (e : Expr (List ℕ)) → p ≡ part.Let n e → P (record { name = n; expr = placed_expr names e })) → All P (let_of names p)
each-let P names (part.Let n e) each = only-one P _ (each n e refl)
each-let P names _ each = All-nil P

each-next : (P : Next → Type 0) (states names : List (List ℕ)) (p : Part) → ((n : List ℕ) (e : Expr (List ℕ)) → p ≡ part.Next n e → P (record { state = index_of states n; expr = placed_expr names e })) → All P (next_of states names p)
each-next P states names (part.Next n e) each = only-one P _ (each n e refl)
each-next P states names _ each = All-nil P

each-out : (P : Out → Type 0) (names : List (List ℕ)) (p : Part) → ((n : List ℕ) (v : _) (e : Expr (List ℕ)) → p ≡ part.Out n v e → P (record { name = n; first = v; expr = placed_expr names e })) → All P (out_of names p)
each-out P names (part.Out n v e) each = only-one P _ (each n v e refl)
each-out P names _ each = All-nil P

-- ---- a task whose parts have no fault

next-among : (ps : List Part) (i j : ℕ) (n : List ℕ) (e : Expr (List ℕ)) → i < j → slice_get ps i ≡ Some (part.Next n e) → is_among (flat_map next_name (take j ps)) n ≡ true
next-among [] i j n e less at = absurd cc
next-among (p ∷ ps) i zero n e less at = absurd (omega arith)
next-among (p ∷ ps) zero (suc j) n e less at =
    subst (λ q. is_among (flat_map next_name (q ∷ take j ps)) n ≡ true) (sym (same_Some p (part.Next n e) at)) (rw (same-bytes n) refl)
next-among (p ∷ ps) (suc i) (suc j) n e less at =
    list_any-append (λ m. bytes_eq m n) (next_name p) (flat_map next_name (take j ps)) ∙ or_right (is_among (next_name p) n) (is_among (flat_map next_name (take j ps)) n) (next-among ps i j n e (omega arith) at)

abbrev OtherState : Next → Next → Type 0
OtherState m n = m.state ≢ n.state

nexts-apart : (states names : List (List ℕ)) (ps : List Part)
    → ((i j : ℕ) (m n : List ℕ) (e f : Expr (List ℕ)) → i < j → slice_get ps i ≡ Some (part.Next m e) → slice_get ps j ≡ Some (part.Next n f) → index_of states m ≢ index_of states n)
    → AllPairs OtherState (flat_map (next_of states names) ps)
nexts-apart states names [] apart = λ i j d less below. absurd (omega arith)
nexts-apart states names (part.Next m e ∷ ps) apart =
    AllPairs-cons OtherState (record { state = index_of states m; expr = placed_expr names e }) (flat_map (next_of states names) ps)
    (all-made (OtherState (record { state = index_of states m; expr = placed_expr names e })) (next_of states names) ps (λ k p at.
    each-next (OtherState (record { state = index_of states m; expr = placed_expr names e })) states names p (λ n f is. apart 0 (suc k) m n e f (omega arith) refl (at ∙ ap (λ (q : Part). Some q) is))))
    (nexts-apart states names ps (λ i j m' n' e' f' less at_i at_j. apart (suc i) (suc j) m' n' e' f' (omega arith) at_i at_j))
nexts-apart states names (_ ∷ ps) apart = nexts-apart states names ps (λ i j m n e f less at_i at_j. apart (suc i) (suc j) m n e f (omega arith) at_i at_j)

module _ (body : Body) (t : RawTask) (fine : (j : ℕ) (p : Part) → slice_get t.parts j ≡ Some p → part_fault body t (take j t.parts) p ≡ None) where
  abbrev Below : Expr ℕ → Type 0
  Below e = VariablesBelow (length (env_names t.parts)) e.nodes

  names-known : (j : ℕ) (p : Part) → slice_get t.parts j ≡ Some p → is_unknown body t p ≡ false
  names-known j p at = (clean body t (take j t.parts) p (fine j p at)).1

  next-known : (j : ℕ) (p : Part) (n : List ℕ) (e : Expr (List ℕ)) → slice_get t.parts j ≡ Some p → p ≡ part.Next n e → (is_among (flat_map state_name t.parts) n ≡ true) × (has_unbound (env_names t.parts) e ≡ false)
  next-known j p n e at is =
      let tested : is_unknown body t (part.Next n e) ≡ false = subst (λ q. is_unknown body t q ≡ false) is (names-known j p at) in
      let both : (not (is_among (flat_map state_name t.parts) n) ≡ false) × (has_unbound (env_names t.parts) e ≡ false) = or_parts _ _ tested in
      (not-false (is_among (flat_map state_name t.parts) n) both.0, both.1)

  pub let-variables-below : All (λ l. VariablesBelow (length (env_names t.parts)) l.expr.nodes) (lets_of t)
  let-variables-below = all-made (λ l. Below l.expr) (let_of (env_names t.parts)) t.parts (λ j p at.
      each-let (λ l. Below l.expr) (env_names t.parts) p (λ n e is. placed-below (env_names t.parts) e (subst (λ q. is_unknown body t q ≡ false) is (names-known j p at))))

  next-variables-below : All (λ n. VariablesBelow (length (env_names t.parts)) n.expr.nodes) (flat_map (next_of (flat_map state_name t.parts) (env_names t.parts)) t.parts)
  next-variables-below = all-made (λ n. Below n.expr) (next_of (flat_map state_name t.parts) (env_names t.parts)) t.parts (λ j p at.
      each-next (λ n. Below n.expr) (flat_map state_name t.parts) (env_names t.parts) p (λ n e is. placed-below (env_names t.parts) e (next-known j p n e at is).1))

  out-variables-below : All (λ o. VariablesBelow (length (env_names t.parts)) o.expr.nodes) (flat_map (out_of (env_names t.parts)) t.parts)
  out-variables-below = all-made (λ o. Below o.expr) (out_of (env_names t.parts)) t.parts (λ j p at.
      each-out (λ o. Below o.expr) (env_names t.parts) p (λ n v e is. placed-below (env_names t.parts) e (subst (λ q. is_unknown body t q ≡ false) is (names-known j p at))))

  next-states-below : All (λ n. n.state < length (flat_map state_name t.parts)) (flat_map (next_of (flat_map state_name t.parts) (env_names t.parts)) t.parts)
  next-states-below = all-made (λ n. n.state < length (flat_map state_name t.parts)) (next_of (flat_map state_name t.parts) (env_names t.parts)) t.parts (λ j p at.
      each-next (λ n. n.state < length (flat_map state_name t.parts)) (flat_map state_name t.parts) (env_names t.parts) p (λ n e is. index-below (flat_map state_name t.parts) n (next-known j p n e at is).0))

  one-next-each : AllPairs (λ m n. m.state ≢ n.state) (flat_map (next_of (flat_map state_name t.parts) (env_names t.parts)) t.parts)
  one-next-each = nexts-apart (flat_map state_name t.parts) (env_names t.parts) t.parts (λ i j m n e f less at_m at_n same.
      let is : m ≡ n = same-index (flat_map state_name t.parts) m n (next-known i (part.Next m e) m e at_m refl).0 (next-known j (part.Next n f) n f at_n refl).0 same in
      let first : is_among (flat_map next_name (take j t.parts)) n ≡ true = subst (λ k. is_among (flat_map next_name (take j t.parts)) k ≡ true) is (next-among t.parts i j m e less at_m) in
      let fresh : is_among (flat_map next_name (take j t.parts)) n ≡ false = (clean body t (take j t.parts) (part.Next n f) (fine j (part.Next n f) at_n)).0 in
      both_ways (is_among (flat_map next_name (take j t.parts)) n) fresh first)

  senses-below : All (λ s. s.input < length (flat_map input_name body.decls)) (flat_map (sense_of (flat_map input_name body.decls)) t.parts)
  senses-below = all-made (λ s. s.input < length (flat_map input_name body.decls)) (sense_of (flat_map input_name body.decls)) t.parts (λ j p at.
      each-sense (λ s. s.input < length (flat_map input_name body.decls)) (flat_map input_name body.decls) p (λ n i is.
      index-below (flat_map input_name body.decls) i (not-false (is_among (flat_map input_name body.decls) i) (subst (λ q. is_unknown body t q ≡ false) is (names-known j p at)))))

  pointers-below : (number : ℕ) → All (λ r. r.at < t.cost) (flat_map (read_of body.tasks number) t.parts)
  pointers-below number = all-made (λ r. r.at < t.cost) (read_of body.tasks number) t.parts (λ j p at.
      each-pointer t.cost body.tasks number p (λ n d w q a is. leb-false t.cost a (subst (λ p'. is_past_cost t p' ≡ false) is (clean body t (take j t.parts) p (fine j p at)).3)))

-- ---- a task's line

periodic-clock : (ds : List Decl) (c : RawClock) → IsPrintableClock c → (period offset : ℕ) → clock_of (flat_map event_name ds) c ≡ clock.Every period offset → (1 ≤ period) × (period ≤ MAX_TIME) × (offset ≤ MAX_TIME)
periodic-clock ds (Every p o) fits period offset is =
    let first : p ≡ period = cc in
    let second : o ≡ offset = cc in
    (subst (λ n. 1 ≤ n) first fits.0, subst (λ n. n ≤ MAX_TIME) first fits.1, subst (λ n. n ≤ MAX_TIME) second fits.2)
periodic-clock ds (On n) fits period offset is = absurd cc

event-clock : (ds : List Decl) (c : RawClock) → is_unknown_clock ds c ≡ false → (event : ℕ) → clock_of (flat_map event_name ds) c ≡ clock.On event → event < length (flat_map event_name ds)
event-clock ds (Every p o) known event is = absurd cc
event-clock ds (On n) known event is =
    let here : index_of (flat_map event_name ds) n ≡ event = cc in
    subst (λ k. k < length (flat_map event_name ds)) here (index-below (flat_map event_name ds) n (not-false (is_among (flat_map event_name ds) n) known))

input-there : (ds : List Decl) (when : Option (List ℕ)) → is_unknown_when ds when ≡ false → (input : ℕ) → when_of (flat_map input_name ds) when ≡ Some input → input < length (flat_map input_name ds)
input-there ds None known input is = absurd cc
input-there ds (Some n) known input is =
    let here : index_of (flat_map input_name ds) n ≡ input = cc in
    subst (λ k. k < length (flat_map input_name ds)) here (index-below (flat_map input_name ds) n (not-false (is_among (flat_map input_name ds) n) known))

for-some : {A : Type 0} (o : Option A) (P : A → Type 0) → IfSome o P → ForSome o P
for-some o P holds x is = MatchOption-at_some _ P x is holds

some-out : (names : List (List ℕ)) → names ≢ [] → 1 ≤ length names
some-out [] apart = absurd (apart refl)
some-out (n ∷ names) apart = omega arith

-- ---- the diagram

module _ (body : Body) (d : Diagram) (printable : IsPrintable body) (faultless : IsFaultless body) (whole : (i : ℕ) (t : RawTask) → slice_get body.tasks i ≡ Some t → IsWhole t) (is : IsDiagramOf body d) where
  pub until : d.until ≤ MAX_TIME
  until = subst (λ n. n ≤ MAX_TIME) (sym is.until) printable.until

  input-count : length d.inputs ≡ length (flat_map input_name body.decls)
  input-count = ap length is.inputs ∙ made-alike input_of input_name inputs-alike body.decls

  pub inputs : length d.inputs ≤ MAX_INPUTS
  inputs = omega (arith, printable.inputs, input-count, made-count input_name is_input_decl one-input body.decls)

  pub events : length d.events ≤ MAX_EVENTS
  events = omega (arith, printable.events, ap length is.events, made-count event_name is_event_decl one-event body.decls)

  pub tasks : length d.tasks ≤ MAX_TASKS
  tasks = omega (arith, printable.few, is.count)

  -- the task of a raw task, with an order of its lets
  module _ (i : ℕ) (t : RawTask) (order : List ℕ) (at : slice_get body.tasks i ≡ Some t) where
    abbrev made : Task
    made = task_of body i t order

    fits : IsPrintableTask t
    fits = all_place IsPrintableTask body.tasks i t printable.tasks at

    fine : (j : ℕ) (p : Part) → slice_get t.parts j ≡ Some p → part_fault body t (take j t.parts) p ≡ None
    fine j p here = faultless.parts i j t p at here

    state-count : length made.states ≡ length (flat_map state_name t.parts)
    state-count = made-alike state_of state_name states-alike t.parts

    read-count : length made.reads ≡ length (flat_map read_name t.parts)
    read-count = made-alike (read_of body.tasks i) read_name (reads-alike body.tasks i) t.parts

    out-count : length made.outs ≡ length (flat_map out_name t.parts)
    out-count = made-alike (out_of (env_names t.parts)) out_name (outs-alike (env_names t.parts)) t.parts

    places : place_count made ≡ length (env_names t.parts)
    places = omega (
      arith,
      env-count t.parts,
      state-count,
      made-alike (sense_of (flat_map input_name body.decls)) sense_name (senses-alike (flat_map input_name body.decls)) t.parts,
      read-count,
      made-alike (let_of (env_names t.parts)) let_name (lets-alike (env_names t.parts)) t.parts,
    )

    parts-count : body_count made ≡ length t.parts
    parts-count = omega (
      arith,
      places,
      env-count t.parts,
      all-kinds t.parts,
      out-count,
      made-alike (next_of (flat_map state_name t.parts) (env_names t.parts)) next_name (nexts-alike (flat_map state_name t.parts) (env_names t.parts)) t.parts,
    )

    known : (is_unknown_clock body.decls t.clock ≡ false) × (is_unknown_when body.decls t.when ≡ false)
    known = known-names body (take i body.tasks) t (faultless.tasks i t at)

    closed-task : IsFrontOrder (let_base made) made.lets order → All (λ r. r.link < length d.links) made.reads → IsClosedTask (length d.inputs) (length d.events) (length d.links) made
    closed-task front linked = record {
      periodic = periodic-clock body.decls t.clock fits.line.clock;
      on_event = λ event is_event. subst (λ n. event < n) (sym (ap length is.events)) (event-clock body.decls t.clock known.0 event is_event);
      prio = for-some t.prio _ fits.line.prio;
      deadline = for-some t.deadline _ fits.line.deadline;
      cost = fits.line.cost;
      when = λ input there. subst (λ n. input < n) (sym input-count) (input-there body.decls t.when known.1 input there);
      cpu = fits.line.cpu;
      reads = omega (arith, read-count, fits.reads, made-count read_name is_read_part one-read t.parts);
      outs = (omega (arith, out-count, some-out (flat_map out_name t.parts) (whole i t at).outs), omega (arith, out-count, fits.outs, made-count out_name is_out_part one-out t.parts));
      body = omega (arith, parts-count, fits.body);
      let_variables = subst (λ n. All (λ l. VariablesBelow n l.expr.nodes) made.lets) (sym places) (let-variables-below body t fine);
      next_variables = subst (λ n. All (λ m. VariablesBelow n m.expr.nodes) made.nexts) (sym places) (next-variables-below body t fine);
      out_variables = subst (λ n. All (λ o. VariablesBelow n o.expr.nodes) made.outs) (sym places) (out-variables-below body t fine);
      next_states = subst (λ n. All (λ m. m.state < n) made.nexts) (sym state-count) (next-states-below body t fine);
      one_next = one-next-each body t fine;
      order = front.is_order;
      sensed = subst (λ n. All (λ s. s.input < n) made.senses) (sym input-count) (senses-below body t fine);
      linked = linked;
      pointers = pointers-below body t fine i;
    }

  pub each : ((i : ℕ) (t : Task) → slice_get d.tasks i ≡ Some t → All (λ r. r.link < length d.links) t.reads) → All (IsClosedTask (length d.inputs) (length d.events) (length d.links)) d.tasks
  each linked = all-places (IsClosedTask (length d.inputs) (length d.events) (length d.links)) d.tasks (λ i t at.
      let raw : (r : RawTask) × (slice_get body.tasks i ≡ Some r) = at_place body.tasks i (omega (arith, is.count, slice_get_within d.tasks i t at)) in
      let said : IsTaskOf body i raw.0 t = is.tasks i raw.0 t raw.1 at in
      subst (IsClosedTask (length d.inputs) (length d.events) (length d.links)) (sym said.is)
      (closed-task i raw.0 t.order raw.1 (subst (λ u. IsFrontOrder (let_base u) u.lets t.order) said.is said.order) (subst (λ u. All (λ r. r.link < length d.links) u.reads) said.is (linked i t at))))
