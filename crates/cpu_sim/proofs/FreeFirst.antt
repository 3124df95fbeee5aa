-- The first of all instances that wait isn't blocked: a writer that it waits for would go before it.
use Rattle.std.proofs.Common.{◌≡◌, ◌≢◌, ℕ, suc, ◌-◌, ◌<◌, ◌≤◌, Bool, true, false, List, [], ◌∷◌, length, slice_get, Some, refl, sym, ap, ◌∙◌, subst, inl, inr, arith}
use Rattle.std.specs.Prelude.{◌==◌, ◌&&◌, nat_le, nat_lt, slice_index}
use Rattle.std.specs.List.{list_any}
use Rattle.std.proofs.lemmas.Bool.{and_parts, cases_Bool, eqb-true, ltb-true}
use Rattle.std.proofs.lemmas.List.Sums.{count_by-le-length}
use Rattle.std.proofs.lemmas.Option.{get_or_from_slice_get, slice_get-get_or}
use Rattle.dbp_plan.specs.declared.diagram.Link.{Link}
use Rattle.dbp_plan.specs.declared.diagram.Read.{Read}
use Rattle.dbp_plan.specs.declared.diagram.Task.{Task}
use Rattle.dbp_plan.specs.declared.plan.Plan.{Plan}
use Rattle.dbp_plan.specs.Closed.{IsClosedTask}
use Rattle.dbp_plan.specs.ListItems.{all_place, at_place}
use Rattle.dbp_plan.specs.Lookups.{declared_task, link_at, no_declared_task, no_link}
use Rattle.dbp_plan.specs.Occurrences.{times_of}
use Rattle.dbp_plan.specs.Times.{has_come, times-rise}
use Rattle.rank_order.specs.Instances.{Instance, release_of}
use Rattle.rank_order.specs.Service.{GoesBefore, IsFirst, Waits}
use Rattle.rank_order.proofs.HigherRanks.{goes_before_lower}
use Rattle.rank_order.proofs.OneService.{not_both}
use Rattle.cpu_sim.specs.Processors.{is_blocked, read_number, read_blocks}

-- an item that passes
pub passing : {A : Type 0} (test : A → Bool) (xs : List A) → list_any test xs ≡ true → (k : ℕ) × (x : A) × (slice_get xs k ≡ Some x) × (test x ≡ true)
passing test [] is = absurd (cc)
passing test (x ∷ xs) is = elim (cases_Bool (test x)) [
  | inl here ↦ (0, x, refl, here)
  | inr isnt ↦ let (k, y, at, passes) = passing test xs (rw isnt at is) in (suc k, y, at, passes)
]

module _ (p : Plan) (left : Instance → ℕ → ℕ) (t : ℕ) (served : Instance → ℕ) (rest : (x : Instance) → left x t ≡ (declared_task p x.task).cost - served x) where
  -- the writer's instance that a blocked one waits for: it waits too, and goes before it
  record WaitsFor (x y : Instance) : Type 0 where
    pub waits : Waits p left t y
    pub first : GoesBefore p y x
    pub other : y.task ≢ x.task

  writer-of : (x : Instance) → Waits p left t x → (r : Read) (k : ℕ) → slice_get (declared_task p x.task).reads k ≡ Some r → read_blocks p served x r ≡ true → (y : Instance) × WaitsFor x y
  writer-of x waits r k at blocked =
      let link = link_at p.diagram.links r.link in
      let last : Instance = record { task = link.writer; number = read_number p x link.writer } in
      let is_left = nat_lt (served last) (declared_task p link.writer).cost in
      let (due, more) = and_parts (r.at == served x) ((link.delay == 0) && (nat_lt 0 last.number && is_left)) blocked in
      let (direct, most) = and_parts (link.delay == 0) (nat_lt 0 last.number && is_left) more in
      let (some, unfinished) = and_parts (nat_lt 0 last.number) is_left most in
      let i = x.task in
      let (task, at_i) = at_place p.diagram.tasks i waits.instance.task in
      let is : declared_task p i ≡ task = get_or_from_slice_get p.diagram.tasks i task no_declared_task at_i in
      let ranked = p.rules.ranked in
      let closed = all_place (IsClosedTask (length p.diagram.inputs) (length p.diagram.events) (length p.diagram.links)) p.diagram.tasks i task ranked.closed.each at_i in
      let at_r : slice_get task.reads k ≡ Some r = ap (λ (u : Task). slice_get u.reads k) (sym is) ∙ at in
      let inside : r.link < length p.diagram.links = all_place (λ (r : Read). r.link < length p.diagram.links) task.reads k r closed.linked at_r in
      let l = link_at p.diagram.links r.link in
      let at_l : slice_get p.diagram.links r.link ≡ Some l = slice_get-get_or p.diagram.links r.link no_link inside in
      let ends = all_place (λ (l : Link). (l.writer < length p.diagram.tasks) × (l.reader < length p.diagram.tasks) × (l.writer ≢ l.reader)) p.diagram.links r.link l ranked.closed.ends at_l in
      let own : l.reader ≡ i = ranked.closed.own i task r l k at_i at_r at_l in
      let down = all_place (λ (l : Link). l.delay ≡ 0 → slice_index p.diagram.ranks l.writer < slice_index p.diagram.ranks l.reader) p.diagram.links r.link l ranked.downward at_l (eqb-true l.delay 0 direct) in
      let higher : slice_index p.diagram.ranks l.writer < slice_index p.diagram.ranks i = subst (λ (j : ℕ). slice_index p.diagram.ranks l.writer < slice_index p.diagram.ranks j) own down in
      let n = read_number p x l.writer in
      let y : Instance = record { task = l.writer; number = n } in
      let times = times_of p.batches l.writer in
      let one : 0 < n = ltb-true 0 n some in
      let within : n ≤ length times = count_by-le-length (λ u. nat_le u (release_of p x)) times in
      let early : release_of p y ≤ release_of p x =
      has_come times (n - 1) (release_of p y) (release_of p x) (times-rise p.batches l.writer p.rules.rising) (slice_get-get_or times (n - 1) 0 (omega (arith, one, within))) (omega (arith, one)) in
      let less = ltb-true (served y) (declared_task p l.writer).cost unfinished in (
        y,
        record {
          waits = record {
            instance = record { task = ends.0; from_one = omega (arith, one); within = within };
            released = omega (arith, early, waits.released);
            unfinished = omega (arith, rest y, less);
          };
          first = goes_before_lower p i l.writer waits.instance.task ends.0 higher (release_of p x) (release_of p y) early;
          other = λ same. ends.2 (same ∙ sym own);
        },
      )

  pub first-is-free : (x : Instance) → IsFirst (GoesBefore p) (Waits p left t) (Some x) → is_blocked p served x ≡ false
  first-is-free x first = elim (cases_Bool (is_blocked p served x)) [
    | inr free ↦ free
    | inl blocked ↦
        let (k, r, at, passes) = passing (read_blocks p served x) (declared_task p x.task).reads blocked in
        let (y, writer) = writer-of x first.0 r k at passes in
        elim (first.1 y writer.waits) [
          | inl same ↦ absurd (writer.other (ap (λ (z : Instance). z.task) same))
          | inr later ↦ absurd (not_both p x y later writer.first)
        ]
  ]
