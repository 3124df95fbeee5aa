-- Environments and rows of the tasks.
use Rattle.std.proofs.Common.{◌≡◌, ◌≢◌, ℕ, ℤ, zero, suc, ◌<◌, ◌≤◌, ◌+◌, ◌-◌, ◌*◌, ◌^◌, List, [], ◌∷◌, ◌++◌, length, map, take, get_or, slice_get, set, option_map, Some, refl, sym, ◌∙◌, ap, subst, arith, ◌⊎◌, inl, inr, length-append, length-take, length-drop, drop}
use Rattle.std.specs.Prelude.{slice_index, pos, replicate}
use Rattle.std.proofs.Math.Nat.{mul-le-mul_left, mul-le-mul_right}
use Rattle.std.proofs.Math.Seq.{take-append_seam}
use Rattle.std.proofs.lemmas.Bool.{cases_eq}
use Rattle.std.proofs.lemmas.List.{length-set, length-map, length-replicate, length_push}
use Rattle.std.proofs.lemmas.Option.{get_or_from_slice_get, slice_get-map, slice_get_within, same_Some}
use Rattle.dbp_plan.specs.declared.limits.TheConstants.{MAX_OCCURRENCES, MAX_OUTS}
use Rattle.dbp_plan.specs.declared.diagram.Diagram.{Diagram}
use Rattle.dbp_plan.specs.declared.diagram.Task.{Task}
use Rattle.dbp_plan.specs.declared.diagram.Link.{Link}
use Rattle.dbp_plan.specs.declared.diagram.Read.{Read}
use Rattle.dbp_plan.specs.declared.schedule.Batch.{Batch}
use Rattle.dbp_plan.specs.declared.table.Table.{Table}
use Rattle.dbp_plan.specs.declared.table.TaskRows.{TaskRows}
use Rattle.dbp_plan.specs.Closed.{IsClosed, IsClosedTask, place_count}
use Rattle.dbp_plan.specs.Occurrences.{times_of}
use Rattle.dbp_plan.specs.Ranked.{IsRanked}
use Rattle.dbp_plan.specs.Table.{HasRowsOf, HasAllRows, IsRow, row_at}
use Rattle.dbp_plan.specs.ListItems.{at_place, front_place, last_place, all_place}
use Rattle.sync_meaning.specs.declared.env.Env.{Env}
use Rattle.dbp_plan.specs.Ranking.{IsRanking}
use Rattle.sync_meaning.specs.Run.{HasRowsUpTo, IsDoneAbove}
use Rattle.sync_meaning.specs.FirstRows.{first_rows}
use Rattle.sync_meaning.specs.Shape.{AreCounted, HasEnvs, HasFirstStates, IsEnvOf, IsReadable}
use Rattle.dbp_plan.proofs.ListParts.{take_push}
use Rattle.sync_meaning.proofs.Sets.{set_cases, zero_of}

pub envs_step : (i : ℕ) (t : Task) (e : Env) (tasks : List Task) (envs : List Env) → HasEnvs tasks envs → slice_get tasks i ≡ Some t → IsEnvOf t e → HasEnvs tasks (set envs i e)
envs_step i t e tasks envs has at is = record {
  size = length-set envs i e ∙ has.size;
  each = λ j u f at_u at_f. elim (set_cases envs i j e f at_f) [
    | inl here ↦
        let task : t ≡ u = same_Some _ _ (sym at ∙ ap (λ k. slice_get tasks k) (sym here.0) ∙ at_u) in
        subst (λ v. IsEnvOf v f) task (subst (λ g. IsEnvOf t g) here.1 is)
    | inr there ↦ has.each j u f at_u there.1
  ];
}

pub set_value : (xs : List ℕ) (i j y z : ℕ) → j ≡ i → slice_get (set xs i y) j ≡ Some z → z ≡ y
set_value xs i j y z same at = elim (set_cases xs i j y z at) [ inl here ↦ sym here.1 | inr there ↦ absurd (there.0 same) ]

pub set_old : (xs : List ℕ) (i j y z : ℕ) → j ≢ i → slice_get (set xs i y) j ≡ Some z → slice_get xs j ≡ Some z
set_old xs i j y z apart at = elim (set_cases xs i j y z at) [ inl here ↦ absurd (apart here.0) | inr there ↦ there.1 ]

-- one instance more, with its row
pub rows_step : (i m : ℕ) (t : Task) (old new : TaskRows) (tasks : List Task) (done : List ℕ) (table : List TaskRows) → HasRowsUpTo tasks done table
    → slice_get tasks i ≡ Some t → slice_get done i ≡ Some m → slice_get table i ≡ Some old → new.ports ≡ old.ports → length new.words ≡ length old.words + length t.outs
    → HasRowsUpTo tasks (set done i (m + 1)) (set table i new)
rows_step i m t old new tasks done table has at_t at_m at_old ports words = record {
  size = length-set table i new ∙ has.size;
  counts = length-set done i (m + 1) ∙ has.counts;
  each = λ j n u rows at_u at_n at_rows. elim (set_cases table i j new rows at_rows) [
    | inl here ↦
        let task : t ≡ u = same_Some _ _ (sym at_t ∙ ap (λ k. slice_get tasks k) (sym here.0) ∙ at_u) in
        let count : n ≡ m + 1 = set_value done i j (m + 1) n here.0 at_n in
        let before : HasRowsOf (length t.outs) m old = has.each i m t old at_t at_m at_old in
        let after : HasRowsOf (length t.outs) (m + 1) new = record {
          ports = ports ∙ before.ports;
          size = words ∙ ap (λ k. k + length t.outs) before.size ∙ omega arith;
        } in
        subst (λ k. HasRowsOf (length u.outs) k rows) (sym count) (subst (λ r. HasRowsOf (length u.outs) (m + 1) r) here.1 (subst (λ (v : Task). HasRowsOf (length v.outs) (m + 1) new) task after))
    | inr there ↦ has.each j n u rows at_u (set_old done i j (m + 1) n there.0 at_n) there.1
  ];
}

-- there is room for one more row
pub row_fits : (outs m : ℕ) (rows : TaskRows) → HasRowsOf outs m rows → outs ≤ MAX_OUTS → m < MAX_OCCURRENCES → length rows.words + MAX_OUTS < 2 ^ 32
row_fits outs m rows has few less =
    let most : (m + 1) * outs ≤ (m + 1) * MAX_OUTS = mul-le-mul_left (m + 1) few in
    omega (arith, has.size, most)

-- before the first batch each task has one row
pub rows_none : (tasks : List Task) (done : List ℕ) (table : List TaskRows) → done ≡ replicate (length tasks) 0 → table ≡ map first_rows tasks → HasRowsUpTo tasks done table
rows_none tasks done table zeros is = record {
  size = ap length is ∙ length-map tasks first_rows;
  counts = ap length zeros ∙ length-replicate (length tasks) 0;
  each = λ i n t rows at_t at_n at_rows.
      let none : 0 ≡ n = sym (zero_of (length tasks) i n done zeros at_n) in
      let first : slice_get (map first_rows tasks) i ≡ Some (first_rows t) = slice_get-map first_rows tasks i ∙ ap (option_map first_rows) at_t in
      let same : first_rows t ≡ rows = same_Some _ _ (sym first ∙ ap (λ l. slice_get l i) (sym is) ∙ at_rows) in
      let words : length (map (λ o. o.first) t.outs) ≡ length t.outs = length-map t.outs (λ o. o.first) in
      let one : length t.outs ≡ (0 + 1) * length t.outs = omega arith in
      subst (λ k. HasRowsOf (length t.outs) k rows) none (subst (λ r. HasRowsOf (length t.outs) 0 r) same (record { ports = refl; size = words ∙ one }));
}

-- after the last batch
pub rows_all : (d : Diagram) (batches : List Batch) (table : Table) (named done : List ℕ) → IsRanking d.ranks → length d.ranks ≡ length d.tasks
    → HasRowsUpTo d.tasks done table.tasks → IsDoneAbove (length d.tasks) d.ranks named done → AreCounted batches named → HasAllRows d.tasks batches table
rows_all d batches table named done ranking size has steps counted = record {
  size = has.size;
  each = λ i t rows at_t at_rows.
      let inside : i < length d.ranks = omega (arith, slice_get_within d.tasks i t at_t, size) in
      let r : (r : ℕ) × (slice_get d.ranks i ≡ Some r) = at_place d.ranks i inside in
      let m : (m : ℕ) × (slice_get done i ≡ Some m) = at_place done i (omega (arith, inside, steps.counts)) in
      let n : (n : ℕ) × (slice_get named i ≡ Some n) = at_place named i (omega (arith, inside, steps.size)) in
      let below : r.0 < length d.tasks = omega (arith, ranking.below i r.0 r.1, size) in
      let count : m.0 ≡ length (times_of batches i) = steps.above i m.0 n.0 r.0 r.1 below m.1 n.1 ∙ counted.each i n.0 n.1 in
      subst (λ k. HasRowsOf (length t.outs) k rows) count (has.each i m.0 t rows at_t m.1 at_rows);
}

pub length-row_at : (rows : TaskRows) (n : ℕ) → (n + 1) * rows.ports ≤ length rows.words → length (row_at rows n) ≡ rows.ports
length-row_at rows n there =
    omega (arith, length-take ((n + 1) * rows.ports - n * rows.ports) (drop (n * rows.ports) rows.words), length-drop (n * rows.ports) rows.words)

-- a row that is there has its ports
port_there : (outs m n port w : ℕ) (rows : TaskRows) (table : Table) → slice_get table.tasks w ≡ Some rows → HasRowsOf outs m rows → n ≤ m → port < outs
    → (row : List ℤ) × IsRow table w n row × ((value : ℤ) × (slice_get row port ≡ Some value))
port_there outs m n port w rows table at has le below =
    let fewer : (n + 1) * outs ≤ (m + 1) * outs = mul-le-mul_right outs (omega arith) in
    let same : (n + 1) * rows.ports ≡ (n + 1) * outs = ap (λ p. (n + 1) * p) has.ports in
    let there : (n + 1) * rows.ports ≤ length rows.words = omega (arith, fewer, same, has.size) in
    let inside : port < length (row_at rows n) = omega (arith, below, has.ports, length-row_at rows n there) in
    (row_at rows n, record { rows = rows; has_rows = at; there = there; is = refl }, at_place (row_at rows n) port inside)

-- there is one row
pub one_row : (table : Table) (task n : ℕ) (x y : List ℤ) → IsRow table task n x → IsRow table task n y → x ≡ y
one_row table task n x y a b =
    let same : a.rows ≡ b.rows = same_Some _ _ (sym a.has_rows ∙ b.has_rows) in
    a.is ∙ ap (λ (r : TaskRows). row_at r n) same ∙ sym b.is

-- the instances that a read goes back to are computed
enough : (d : Diagram) (i p m n : ℕ) (l : Link) (named done : List ℕ) (at : ℕ) → IsRanked d → slice_get d.links at ≡ Some l → l.reader ≡ i → slice_get d.ranks i ≡ Some p
    → slice_get done l.writer ≡ Some m → slice_get named l.writer ≡ Some n → IsDoneAbove p d.ranks named done → n - l.delay ≤ m
enough d i p m n l named done at ranked at_l reader at_p at_m at_n steps = elim (cases_eq l.delay 0) [
  | inl direct ↦
      let lower : get_or d.ranks l.writer 0 < get_or d.ranks l.reader 0 = all_place (λ (k : Link). k.delay ≡ 0 → get_or d.ranks k.writer 0 < get_or d.ranks k.reader 0) d.links at l ranked.downward at_l direct in
      let inside : l.writer < length d.ranks = omega (arith, slice_get_within done l.writer m at_m, steps.counts) in
      let q : (q : ℕ) × (slice_get d.ranks l.writer ≡ Some q) = at_place d.ranks l.writer inside in
      let first : get_or d.ranks l.writer 0 ≡ q.0 = get_or_from_slice_get d.ranks l.writer q.0 0 q.1 in
      let second : get_or d.ranks l.reader 0 ≡ p = ap (λ k. get_or d.ranks k 0) reader ∙ get_or_from_slice_get d.ranks i p 0 at_p in
      let above : q.0 < p = omega (arith, lower, first, second) in
      let same : m ≡ n = steps.above l.writer m n q.0 q.1 above at_m at_n in
      omega (arith, same)
  | inr late ↦
      let close : (m ≤ n) × (n ≤ m + 1) = steps.each l.writer m n at_m at_n in
      omega (arith, close.1)
]

-- a task that is the next by rank finds the values that it reads
pub readable : (d : Diagram) (i k p : ℕ) (t : Task) (read : Read) (named done : List ℕ) (table : Table) → IsRanked d → slice_get d.tasks i ≡ Some t → slice_get t.reads k ≡ Some read
    → slice_get d.ranks i ≡ Some p → IsDoneAbove p d.ranks named done → HasRowsUpTo d.tasks done table.tasks → IsReadable d.links (slice_index named) table read
readable d i k p t read named done table ranked at_t at_read at_p steps has =
    let closed : IsClosed d = ranked.closed in
    let task : IsClosedTask (length d.inputs) (length d.events) (length d.links) t = all_place (IsClosedTask (length d.inputs) (length d.events) (length d.links)) d.tasks i t closed.each at_t in
    let linked : read.link < length d.links = all_place (λ (r : Read). r.link < length d.links) t.reads k read task.linked at_read in
    let l : (l : Link) × (slice_get d.links read.link ≡ Some l) = at_place d.links read.link linked in
    let ends : (l.0.writer < length d.tasks) × (l.0.reader < length d.tasks) × (l.0.writer ≢ l.0.reader) = all_place (λ (a : Link). (a.writer < length d.tasks) × (a.reader < length d.tasks) × (a.writer ≢ a.reader)) d.links read.link l.0 closed.ends l.1 in
    let w : (w : Task) × (slice_get d.tasks l.0.writer ≡ Some w) = at_place d.tasks l.0.writer ends.0 in
    let m : (m : ℕ) × (slice_get done l.0.writer ≡ Some m) = at_place done l.0.writer (omega (arith, ends.0, has.counts)) in
    let n : (n : ℕ) × (slice_get named l.0.writer ≡ Some n) = at_place named l.0.writer (omega (arith, ends.0, has.counts, steps.counts, steps.size)) in
    let rows : (r : TaskRows) × (slice_get table.tasks l.0.writer ≡ Some r) = at_place table.tasks l.0.writer (omega (arith, ends.0, has.size)) in
    let port : read.port < length w.0.outs = closed.ports t w.0 read l.0 i k at_t at_read l.1 w.1 in
    let reader : l.0.reader ≡ i = closed.own i t read l.0 k at_t at_read l.1 in
    let le : n.0 - l.0.delay ≤ m.0 = enough d i p m.0 n.0 l.0 named done read.link ranked l.1 reader at_p m.1 n.1 steps in
    let found : (row : List ℤ) × IsRow table l.0.writer (n.0 - l.0.delay) row × ((value : ℤ) × (slice_get row read.port ≡ Some value)) =
    port_there (length w.0.outs) m.0 (n.0 - l.0.delay) read.port l.0.writer rows.0 table rows.1 (has.each l.0.writer m.0 w.0 rows.0 w.1 m.1 rows.1) le port in (
      found.2.0,
      record {
        link = l.0;
        has_link = l.1;
        row = found.0;
        is_row = subst (λ (k : ℕ). IsRow table l.0.writer (k - l.0.delay) found.0) (sym (get_or_from_slice_get named l.0.writer n.0 0 n.1)) found.1;
        has_value = found.2.1;
      },
    )

push_cases : {X : Type 0} (xs : List X) (x : X) (i : ℕ) (y : X) → slice_get (xs ++ x ∷ []) i ≡ Some y → (slice_get xs i ≡ Some y) ⊎ ((i ≡ length xs) × (x ≡ y))
push_cases [] x zero y at = inr (refl, same_Some _ _ at)
push_cases [] x (suc i) y at = absurd (cc)
push_cases (z ∷ xs) x zero y at = inl at
push_cases (z ∷ xs) x (suc i) y at = elim (push_cases xs x i y at) [ inl there ↦ inl there | inr here ↦ inr (ap suc here.0, here.1) ]

-- the environments of one task more
pub envs_more : (k : ℕ) (t : Task) (e : Env) (tasks : List Task) (envs : List Env) → slice_get tasks k ≡ Some t → IsEnvOf t e → HasEnvs (take k tasks) envs → HasEnvs (take (k + 1) tasks) (envs ++ e ∷ [])
envs_more k t e tasks envs at is has = rw (take_push tasks k t at) (record {
  size = length_push envs e ∙ ap (λ n. n + 1) has.size ∙ sym (length_push (take k tasks) t);
  each = λ i u f at_u at_f. elim (push_cases (take k tasks) t i u at_u) [
    | inl there ↦
        let inside : i < length envs = omega (arith, slice_get_within (take k tasks) i u there, has.size) in
        has.each i u f there (sym (front_place envs (e ∷ []) i inside) ∙ at_f)
    | inr here ↦
        let place : i ≡ length envs = here.0 ∙ sym has.size in
        let env : e ≡ f = same_Some _ _ (sym (last_place envs e i place) ∙ at_f) in
        subst (λ v. IsEnvOf v f) here.1 (subst (λ g. IsEnvOf t g) env is)
  ];
})

-- their states are the first ones
pub firsts_more : (k : ℕ) (t : Task) (e : Env) (tasks : List Task) (envs : List Env) → slice_get tasks k ≡ Some t → take (length t.states) e.now ≡ map (λ s. s.first) t.states → length envs ≡ length (take k tasks)
    → HasFirstStates (take k tasks) envs → HasFirstStates (take (k + 1) tasks) (envs ++ e ∷ [])
firsts_more k t e tasks envs at is size has i u f at_u at_f = elim (push_cases (take k tasks) t i u (ap (λ (l : List Task). slice_get l i) (sym (take_push tasks k t at)) ∙ at_u)) [
  | inl there ↦
      let inside : i < length envs = omega (arith, slice_get_within (take k tasks) i u there, size) in
      has i u f there (sym (front_place envs (e ∷ []) i inside) ∙ at_f)
  | inr here ↦
      let place : i ≡ length envs = here.0 ∙ sym size in
      let env : e ≡ f = same_Some _ _ (sym (last_place envs e i place) ∙ at_f) in
      subst (λ (v : Task). take (length v.states) f.now ≡ map (λ s. s.first) v.states) here.1 (subst (λ (g : Env). take (length t.states) g.now ≡ map (λ s. s.first) t.states) env is)
]

-- a task's first environment
pub env_fits : (t : Task) (e : Env) → e.now ≡ map (λ s. s.first) t.states ++ replicate (place_count t - length t.states) (pos 0) → e.later ≡ map (λ s. s.first) t.states → IsEnvOf t e
env_fits t e now later =
    let firsts : length (map (λ s. s.first) t.states) ≡ length t.states = length-map t.states (λ s. s.first) in
    record {
      now = ap length now ∙ length-append (map (λ s. s.first) t.states) (replicate (place_count t - length t.states) (pos 0)) ∙ omega (arith, firsts, length-replicate (place_count t - length t.states) (pos 0));
      later = ap length later ∙ firsts;
    }

pub env_first : (t : Task) (e : Env) → e.now ≡ map (λ s. s.first) t.states ++ replicate (place_count t - length t.states) (pos 0) → take (length t.states) e.now ≡ map (λ s. s.first) t.states
env_first t e now =
    let firsts : length t.states ≡ length (map (λ s. s.first) t.states) = sym (length-map t.states (λ s. s.first)) in
    ap (take (length t.states)) now ∙ ap (λ (n : ℕ). take n (map (λ s. s.first) t.states ++ replicate (place_count t - length t.states) (pos 0))) firsts
    ∙ take-append_seam (map (λ s. s.first) t.states) (replicate (place_count t - length t.states) (pos 0))
